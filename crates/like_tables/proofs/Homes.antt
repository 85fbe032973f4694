-- The numbers that a share keeps, read for a user's rank.
use Rattle.std.proofs.Common.{◌≡◌, ℕ, ◌+◌, ◌*◌, ◌/◌, ◌%◌, ◌<◌, ◌≤◌, cond, List, [], ◌∷◌, ◌++◌, length, get_or, inl, inr, refl, ap, ◌∙◌, arith, eq-eqb}
use Rattle.std.proofs.Math.ListN.{get_or-append}
use Rattle.std.proofs.Math.Seq.{get_or-append_seam}
use Rattle.std.proofs.lemmas.Bool.{cases_lt, ne_eqb}
use Rattle.std.proofs.lemmas.List.{get_or_read}
use Rattle.std.proofs.lemmas.Nat.{mod_below}
use Rattle.like_tables.specs.Homes.{AreHomesBelow}
use Rattle.like_tables.specs.Share.{Share, homes_below, owned_below, serves}
use Rattle.like_tables.proofs.Owned.{homes_below-more, owned_below-div, rounds-le}

-- one submitter more, who is the worker's
pub homes_below-own : (s : Share) (n : ℕ) → n % s.workers ≡ s.worker → homes_below s (n + 1) ≡ homes_below s n + 1
homes_below-own s n own =
    let counted : ◌≡◌ {A = ℕ} (cond (serves s n) 1 0) 1 = ap (λ b. cond b 1 0) (eq-eqb _ s.worker own) in
    omega (arith, homes_below-more s n)

-- or who is not
pub homes_below-other : (s : Share) (n : ℕ) → (n % s.workers ≡ s.worker → ⊥) → homes_below s (n + 1) ≡ homes_below s n
homes_below-other s n other =
    let counted : ◌≡◌ {A = ℕ} (cond (serves s n) 1 0) 0 = ap (λ b. cond b 1 0) (ne_eqb _ s.worker other) in
    omega (arith, homes_below-more s n)

-- one number more
pub homes-push : (s : Share) (homes : List ℕ) (k more : ℕ) → length homes ≡ k
    → ((n : ℕ) → n < k → get_or homes n 0 ≡ homes_below s n) → more ≡ homes_below s k
    → (n : ℕ) → n < k + 1 → get_or (homes ++ more ∷ []) n 0 ≡ homes_below s n
homes-push s homes k more long each is n less =
    elim (cases_lt n k) [
      | inl before ↦ get_or-append homes (more ∷ []) 0 n (omega arith) ∙ each n before
      | inr last ↦
          let here : n ≡ length homes = omega arith in
          rw (here, get_or-append_seam homes more [] 0, is, long) refl
    ]

-- what is read of the numbers
read-homes : (s : Share) (homes : List ℕ) (n read : ℕ)
    → AreHomesBelow s homes
    → n ≤ s.submitters
    → read ≡ get_or homes n read
    → read ≡ homes_below s n
read-homes s homes n read k le is = get_or_read homes n read (omega (arith, k.enough)) is 0 ∙ k.below n le

-- the users of whole rounds are no more than the users
pub read-rounds-le : (s : Share) (homes : List ℕ) (user all : ℕ)
    → AreHomesBelow s homes
    → all ≡ get_or homes s.submitters all
    → user / s.submitters * all ≤ user
read-rounds-le s homes user all k is =
    rw (read-homes s homes s.submitters all k (omega arith) is) (rounds-le s user k.lawful.submitters)

-- with those of the last round they make the user's rank
pub read-rank : (s : Share) (homes : List ℕ) (user all some : ℕ)
    → AreHomesBelow s homes
    → all ≡ get_or homes s.submitters all
    → some ≡ get_or homes (user % s.submitters) some → user / s.submitters * all + some ≡ owned_below s user
read-rank s homes user all some k is_all is_some =
    let least = k.lawful.submitters in
    let first = read-homes s homes s.submitters all k (omega arith) is_all in
    let rest = read-homes s homes (user % s.submitters) some k
    (omega (arith, mod_below user s.submitters (omega arith))) is_some in
    rw (first, rest) (owned_below-div s user least)
