-- Where each seat serves the submitter with its number: the ranks of its users by division, and how a user is found.
use Rattle.std.proofs.Common.{◌≡◌, ℕ, ◌*◌, ◌/◌, ◌%◌, ◌^◌, ◌<◌, ◌≤◌, ◌&&◌, true, cond, Some, None, inl, inr, sym, ap, ◌∙◌, arith, eq-eqb}
use Rattle.std.proofs.Math.Nat.{mod-eq_of_lt}
use Rattle.std.proofs.lemmas.Bool.{cases_lt, eqb-true, false_from_ne_true, lt-ltb}
use Rattle.std.proofs.lemmas.Nat.{div-mul-add, mod-mul-add, mod_below}
use Rattle.like_tables.specs.Home.{Home, IsAtHome, IsHomeOf, user_at}
use Rattle.like_tables.specs.Ranked.{ranked_at, ranked_in}
use Rattle.like_tables.specs.Share.{Share, owned_below, owns, serves_home}
use Rattle.like_tables.specs.declared.ranked.Ranked.{Ranked}
use Rattle.like_tables.proofs.Owned.{homes_below-few, homes_below-seats, owned_below-div, owned_below-lt, owned_below-mono}
use Rattle.like_tables.proofs.Ranks.{owns-served, owns-there}

-- a user and a rank
abbrev with_rank : ℕ → ℕ → Ranked
with_rank user rank = record { user = user; rank = rank }

-- the rank of a user at its home
owned_below-home : (h : Home) (s : Share) (user : ℕ) → IsHomeOf h s → h.seat < h.seats → IsAtHome h user
    → owned_below s user ≡ user / h.seats
owned_below-home h s user k there home =
    let rest = ap (λ n. user % n) k.submitters ∙ home in
    let whole = ap (λ n. user / n) k.submitters in
    let one = homes_below-seats s 0 (omega (arith, k.workers, k.worker, there))
    (omega (arith, k.submitters, k.worker, there)) (omega (arith, k.submitters, k.workers)) in
    let none = homes_below-few s (user % s.submitters) (omega (arith, k.workers, k.worker, there))
    (omega (arith, rest, k.worker)) in
    let times = ap (λ n. user / s.submitters * n) one in
    omega (arith, owned_below-div s user (omega (arith, k.submitters, there)), times, none, whole)

-- whose home the seat is, it serves
serves-home : (h : Home) (s : Share) (user : ℕ) → IsHomeOf h s → h.seat < h.seats → IsAtHome h user
    → serves_home s user ≡ true
serves-home h s user k there home =
    let rest = ap (λ n. user % n) k.submitters ∙ home in
    let less : h.seat < s.workers = omega (arith, k.workers, there) in
    eq-eqb (user % s.submitters % s.workers) s.worker
    (ap (λ n. n % s.workers) rest ∙ mod-eq_of_lt less ∙ sym k.worker)

-- and the other way round
home-serves : (h : Home) (s : Share) (user : ℕ) → IsHomeOf h s → h.seat < h.seats → serves_home s user ≡ true
    → IsAtHome h user
home-serves h s user k there served =
    let less : user % s.submitters < s.workers =
    omega (arith, mod_below user s.submitters (omega (arith, k.submitters, there)), k.submitters, k.workers) in
    ap (λ n. user % n) (sym k.submitters) ∙ sym (mod-eq_of_lt less)
    ∙ eqb-true (user % s.submitters % s.workers) s.worker served ∙ k.worker

-- what is computed for a user is a rank below the number of the users: it is the user's
pub ranked-found : (h : Home) (s : Share) (user rank : ℕ) → IsHomeOf h s → h.seat < h.seats → s.users < 2 ^ 32
    → (user_at h rank < 2 ^ 32 → user ≡ user_at h rank) → rank < owned_below s s.users
    → Some (with_rank user rank) ≡ ranked_in s user
ranked-found h s user rank k there few back less =
    let at = user_at h rank in
    let home = mod-mul-add rank h.seats h.seat there in
    let own = owned_below-home h s at k there home ∙ div-mul-add rank h.seats h.seat there in
    let below : at < s.users = elim (cases_lt at s.users) [
      | inl below ↦ below
      | inr past ↦ absurd (omega (arith, owned_below-mono s s.users at past, own, less))
    ] in
    let same : at ≡ user = sym (back (omega (arith, below, few))) in
    let served = ap (serves_home s) (sym same) ∙ serves-home h s at k there home in
    let owned = ap (λ b. b && serves_home s user) (lt-ltb user s.users (omega (arith, same, below))) ∙ served in
    let rank_is : rank ≡ owned_below s user = sym own ∙ ap (owned_below s) same in
    ap (λ n. Some (with_rank user n)) rank_is ∙ sym (ap (λ b. cond b (Some (ranked_at s user)) None) owned)

-- or it is none, and the user is another seat's
pub ranked-none : (h : Home) (s : Share) (user rank : ℕ) → IsHomeOf h s → h.seat < h.seats
    → (IsAtHome h user → rank ≡ user / h.seats) → owned_below s s.users ≤ rank → None ≡ ranked_in s user
ranked-none h s user rank k there computed past =
    let other = false_from_ne_true (owns s user) (λ owned.
    let served = owns-served s user owned in
    let home = home-serves h s user k there served in
    omega (
      arith,
      computed home,
      owned_below-home h s user k there home,
      owned_below-lt s user s.users served (owns-there s user owned),
      past,
    )) in
    sym (ap (λ b. cond b (Some (ranked_at s user)) None) other)
