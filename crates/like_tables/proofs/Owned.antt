-- How many submitters and users below a number a worker owns: by division, and in the order of the numbers.
use Rattle.std.proofs.Common.{◌≡◌, ◌≢◌, ℕ, zero, suc, ◌+◌, ◌-◌, ◌*◌, ◌/◌, ◌%◌, ◌<◌, ◌≤◌, Bool, true, false, cond, eqb, inl, inr, refl, ap, subst, ◌∙◌, arith, add-one, count_by}
use Rattle.std.specs.List.{range_with_len}
use Rattle.std.proofs.Math.Nat.{zero-div, zero-mod}
use Rattle.std.proofs.lemmas.Bool.{cases_lt, cases_order, eqb-true, eqb-false}
use Rattle.std.proofs.lemmas.Nat.{div-mul-add, mod-mul-add, div-add-mod', mul-le, mod_below}
use Rattle.std.proofs.lemmas.List.{map-id}
use Rattle.std.proofs.lemmas.List.Sums.{count_by-le-length}
use Rattle.std.proofs.lemmas.List.FromFn.{length-range_with_len, sum_by-map-range_with_len_more}
use Rattle.like_tables.specs.Share.{Share, serves, serves_home, homes_below, owned_below}

-- induction on a number, one step at a time
below_by : (P : ℕ → Type 0) → P 0 → ((n : ℕ) → P n → P (n + 1)) → (n : ℕ) → P n
below_by P first more zero = first
below_by P first more (suc n) = subst P (add-one n) (more n (below_by P first more n))

-- the numbers below n + 1 that pass a test are those below n, and n where it passes
count_below-more : (p : ℕ → Bool) (n : ℕ)
    → count_by p (range_with_len 0 (n + 1)) ≡ count_by p (range_with_len 0 n) + cond (p n) 1 0
count_below-more p n =
    simp map-id at (sum_by-map-range_with_len_more (λ x. cond (p x) 1 0) (λ x. x) 0 n n (omega arith))

pub homes_below-more : (s : Share) (n : ℕ) → homes_below s (n + 1) ≡ homes_below s n + cond (serves s n) 1 0
unfolding homes_below
homes_below-more s n = count_below-more (serves s) n

pub homes_below-zero : (s : Share) → homes_below s 0 ≡ 0
unfolding homes_below
homes_below-zero s = refl

pub owned_below-more : (s : Share) (n : ℕ) → owned_below s (n + 1) ≡ owned_below s n + cond (serves_home s n) 1 0
unfolding owned_below
owned_below-more s n = count_below-more (serves_home s) n

pub owned_below-zero : (s : Share) → owned_below s 0 ≡ 0
unfolding owned_below
owned_below-zero s = refl

-- there are no more of them than numbers
pub homes_below-le : (s : Share) (n : ℕ) → homes_below s n ≤ n
unfolding homes_below
homes_below-le s n =
    omega (arith, count_by-le-length (serves s) (range_with_len 0 n), length-range_with_len 0 n)

pub owned_below-le : (s : Share) (n : ℕ) → owned_below s n ≤ n
unfolding owned_below
owned_below-le s n =
    omega (arith, count_by-le-length (serves_home s) (range_with_len 0 n), length-range_with_len 0 n)

-- no product of whole numbers lies between two neighbouring ones
quotient-le : (a b w : ℕ) → a * w < b * w + w → a ≤ b
quotient-le a b w h =
    elim (cases_lt b a) [ inl l ↦ absurd (omega (arith, mul-le (b + 1) w a w (omega arith) (omega arith))) | inr l ↦ l ]

-- h is m over w, rounded up
record IsRoundedUp (m w h : ℕ) : Type 0 where
  enough : m ≤ h * w
  tight : h * w < m + w

-- there is one such number
IsRoundedUp-one : (m w h k : ℕ) → IsRoundedUp m w h → IsRoundedUp m w k → h ≡ k
IsRoundedUp-one m w h k a b =
    let up : h ≤ k = quotient-le h k w (omega arith) in
    let down : k ≤ h = quotient-le k h w (omega arith) in
    omega arith

-- one more number, n, is worker w's of N: the next count is rounded up too
IsRoundedUp-more : (n w N h : ℕ) → w < N → (b : Bool) → eqb (n % N) w ≡ b → IsRoundedUp (n - w) N h
    → IsRoundedUp (n + 1 - w) N (h + cond b 1 0)
IsRoundedUp-more n w N h small true e r =
    let rest = eqb-true (n % N) w e in
    let whole = div-add-mod' n N in
    let le = quotient-le h (n / N) N (omega arith) in
    let times = mul-le h N (n / N) N le (omega arith) in
    record { enough = omega arith; tight = omega arith }
IsRoundedUp-more n w N h small false e r =
    let other = eqb-false (n % N) w e in
    elim (cases_lt n w) [
      | inl below ↦ record { enough = omega arith; tight = omega arith }
      | inr above ↦
          let apart : n - w ≡ h * N → ⊥ =
          λ same. other (ap (λ x. x % N) (at_place n w (h * N) above same) ∙ mod-mul-add h N w small) in
          record { enough = omega (arith, apart); tight = omega arith }
    ]
  where
    at_place : (n w m : ℕ) → w ≤ n → n - w ≡ m → n ≡ m + w
    at_place n w m above same = omega arith

-- the count of the submitters below n that a worker serves is rounded up
homes_below-rounded : (s : Share) → s.worker < s.workers → (n : ℕ)
    → IsRoundedUp (n - s.worker) s.workers (homes_below s n)
homes_below-rounded s small =
    below_by (λ n. IsRoundedUp (n - s.worker) s.workers (homes_below s n))
    (rw homes_below-zero (record { enough = omega arith; tight = omega arith }))
    (λ n r. rw homes_below-more (IsRoundedUp-more n s.worker s.workers (homes_below s n) small (serves s n) refl r))

-- none of the submitters below the worker's first one
pub homes_below-few : (s : Share) (n : ℕ) → s.worker < s.workers → n ≤ s.worker → homes_below s n ≡ 0
homes_below-few s n small few =
    IsRoundedUp-one (n - s.worker) s.workers _ 0 (homes_below-rounded s small n)
    (record { enough = omega arith; tight = omega arith })

-- so many below the one at a seat as there are seats before it
pub homes_below-seat : (s : Share) (seat : ℕ)
    → s.worker < s.workers
    → homes_below s (seat * s.workers + s.worker) ≡ seat
homes_below-seat s seat small =
    IsRoundedUp-one (seat * s.workers + s.worker - s.worker) s.workers _ seat (homes_below-rounded s small _)
    (record { enough = omega arith; tight = omega arith })

-- all of them, where this seat is the last
pub homes_below-seats : (s : Share) (seat : ℕ) → s.worker < s.workers → seat * s.workers + s.worker < s.submitters
    → s.submitters ≤ seat * s.workers + s.worker + s.workers → homes_below s s.submitters ≡ seat + 1
homes_below-seats s seat small some last =
    IsRoundedUp-one (s.submitters - s.worker) s.workers _ (seat + 1) (homes_below-rounded s small s.submitters)
    (record { enough = omega arith; tight = omega arith })

-- a worker that is not there serves no submitter
serves-none : (s : Share) (n : ℕ)
    → 1 ≤ s.workers
    → s.workers ≤ s.worker
    → (b : Bool)
    → serves s n ≡ b
    → ◌≡◌ {A = ℕ} (cond b 1 0) 0
serves-none s n some large true e =
    absurd (omega (arith, eqb-true (n % s.workers) s.worker e, mod_below n s.workers (omega arith)))
serves-none s n some large false e = refl

pub homes_below-none : (s : Share) (n : ℕ) → 1 ≤ s.workers → s.workers ≤ s.worker → homes_below s n ≡ 0
homes_below-none s n some large =
    below_by (λ n. homes_below s n ≡ 0) (homes_below-zero s)
    (λ n r. let none = serves-none s n some large (serves s n) refl in omega (arith, homes_below-more s n)) n

-- the number after n, in the same round over w numbers
next_in_round : (n w : ℕ) → n % w + 1 < w → ((n + 1) / w ≡ n / w) × ((n + 1) % w ≡ n % w + 1)
next_in_round n w less =
    let whole = div-add-mod' n w in
    let e : n + 1 ≡ n / w * w + (n % w + 1) = omega arith in (
      ap (λ x. x / w) e ∙ div-mul-add (n / w) w (n % w + 1) less,
      ap (λ x. x % w) e ∙ mod-mul-add (n / w) w (n % w + 1) less,
    )

-- the number after n, first of the next round
next_round : (n w : ℕ) → 1 ≤ w → n % w + 1 ≡ w → ((n + 1) / w ≡ n / w + 1) × ((n + 1) % w ≡ 0)
next_round n w some last =
    let whole = div-add-mod' n w in
    let e : n + 1 ≡ (n / w + 1) * w + 0 = omega arith in (
      ap (λ x. x / w) e ∙ div-mul-add (n / w + 1) w 0 (omega arith),
      ap (λ x. x % w) e ∙ mod-mul-add (n / w + 1) w 0 (omega arith),
    )

-- the users below n whose home a worker serves: those of whole rounds over the submitters, and those of the last one
pub owned_below-div : (s : Share) (n : ℕ) → 1 ≤ s.submitters
    → n / s.submitters * homes_below s s.submitters + homes_below s (n % s.submitters) ≡ owned_below s n
owned_below-div s n some =
    let Rounds : ℕ → Type 0 =
    λ n. n / s.submitters * homes_below s s.submitters + homes_below s (n % s.submitters) ≡ owned_below s n in
    below_by Rounds first more n
  where
    first : 0 / s.submitters * homes_below s s.submitters + homes_below s (0 % s.submitters) ≡ owned_below s 0
    first = rw (zero-div, zero-mod, homes_below-zero, owned_below-zero) (omega arith)

    more : (n : ℕ) → n / s.submitters * homes_below s s.submitters + homes_below s (n % s.submitters) ≡ owned_below s n
        → (n + 1) / s.submitters * homes_below s s.submitters + homes_below s ((n + 1) % s.submitters)
        ≡ owned_below s (n + 1)
    more n r =
        let one_more = homes_below-more s (n % s.submitters) in
        elim (cases_order (n % s.submitters + 1) s.submitters) [
          | inl last ↦
              let next = next_round n s.submitters some last in
              rw (next.0, next.1, homes_below-zero, owned_below-more)
              (let full = ap (homes_below s) last in omega arith)
          | inr (inl less) ↦
              let next = next_in_round n s.submitters less in
              rw (next.0, next.1, owned_below-more) (omega arith)
          | inr (inr greater) ↦ absurd (omega (arith, mod_below n s.submitters (omega arith)))
        ]

pub rounds-le : (s : Share) (n : ℕ) → 1 ≤ s.submitters → n / s.submitters * homes_below s s.submitters ≤ n
rounds-le s n some = omega (arith, owned_below-div s n some, owned_below-le s n)

-- there are no fewer of them below a later user
pub owned_below-mono : (s : Share) (u v : ℕ) → u ≤ v → owned_below s u ≤ owned_below s v
owned_below-mono s u v le =
    below_by (λ v. u ≤ v → owned_below s u ≤ owned_below s v)
    (λ h. let e : u ≡ 0 = omega arith in rw e (omega arith)) more v le
  where
    more : (v : ℕ) → (u ≤ v → owned_below s u ≤ owned_below s v) → u ≤ v + 1 → owned_below s u ≤ owned_below s (v + 1)
    more v r h =
        elim (cases_lt v u) [
          | inl last ↦ let e : u ≡ v + 1 = omega arith in rw e (omega arith)
          | inr below ↦ let p = r below in omega (arith, owned_below-more s v)
        ]

-- a user whose home the worker serves is one more of those below the next users
pub owned_below-lt : (s : Share) (u v : ℕ) → serves_home s u ≡ true → u < v → owned_below s u < owned_below s v
owned_below-lt s u v served less =
    below_by (λ v. u < v → owned_below s u < owned_below s v) (λ h. absurd (omega arith)) more v less
  where
    more : (v : ℕ) → (u < v → owned_below s u < owned_below s v) → u < v + 1 → owned_below s u < owned_below s (v + 1)
    more v r h =
        elim (cases_order u v) [
          | inl same ↦
              let counted : ◌≡◌ {A = ℕ} (cond (serves_home s u) 1 0) 1 = ap (λ b. cond b 1 0) served in
              rw (← same) (omega (arith, owned_below-more s u))
          | inr (inl below) ↦ let p = r below in omega (arith, owned_below-more s v)
          | inr (inr above) ↦ absurd (omega arith)
        ]

-- two users whose homes the worker serves have not as many before them
pub owned_below-other : (s : Share) (u v : ℕ) → serves_home s u ≡ true → serves_home s v ≡ true → u ≢ v
    → owned_below s u ≢ owned_below s v
owned_below-other s u v served served' other same =
    elim (cases_order u v) [
      | inl e ↦ other e
      | inr (inl below) ↦ omega (arith, owned_below-lt s u v served below)
      | inr (inr above) ↦ omega (arith, owned_below-lt s v u served' above)
    ]
