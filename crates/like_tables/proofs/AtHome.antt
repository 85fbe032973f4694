-- The rank of a user at its home: what is computed is division by the number of seats.
use Rattle.std.proofs.Common.{◌≡◌, ℕ, zero, suc, ◌+◌, ◌-◌, ◌*◌, ◌/◌, ◌%◌, ◌^◌, ◌<◌, ◌≤◌, inl, inr, sym, ap, ◌∙◌, arith, w32}
use Rattle.std.specs.Int.{bit_at, rotate_right, trailing_zeros}
use Rattle.std.proofs.Math.Nat.{mod-eq_of_lt, mul_assoc, mul_comm, pow-suc}
use Rattle.std.proofs.lemmas.Bool.{cases_eq}
use Rattle.std.proofs.lemmas.Nat.{div-add-mod', mod_below, mul-le, shr-shr}
use Rattle.std.proofs.lemmas.Nat.Bits.{bit_at-trailing_zeros}
use Rattle.like_tables.specs.Home.{Home, IsAtHome, IsTurned, home_of, odd_part, user_at}
use Rattle.like_tables.proofs.Inverses.{times-undone, undone-times}
use Rattle.like_tables.proofs.Turned.{turned-back, turned-whole}

-- a number whose lowest bits are 0 is a multiple of the power
multiple : (n t : ℕ) → ((i : ℕ) → i < t → bit_at n i ≡ 0) → n / 2 ^ t * 2 ^ t ≡ n
multiple n zero low = omega arith
multiple n (suc t) low =
    let less = multiple n t (λ i below. low i (omega arith)) in
    let last = low t (omega arith) in
    let half : n / 2 ^ t ≡ n / 2 ^ t / 2 * 2 = omega (arith, last) in
    let more : suc t ≡ t + 1 = omega arith in
    let next : n / 2 ^ suc t ≡ n / 2 ^ t / 2 = ap (λ k. n / 2 ^ k) more ∙ sym (shr-shr n t 1) in
    let turned : n / 2 ^ t / 2 * (2 ^ t * 2) ≡ n / 2 ^ t / 2 * 2 * 2 ^ t = omega arith in
    ap (λ k. k * 2 ^ suc t) next ∙ ap (λ k. n / 2 ^ t / 2 * k) (pow-suc 2 t) ∙ turned
    ∙ sym (ap (λ k. k * 2 ^ t) half) ∙ less

-- the rest of a number without its factors of two is odd
pub is-odd : (seats : ℕ) → 0 < seats → seats < 2 ^ 32 → odd_part seats (trailing_zeros w32 seats) % 2 ≡ 1
is-odd seats some fits = (bit_at-trailing_zeros w32 seats some fits).1

-- what a new home has
pub IsTurned-new : (seats seat inverse : ℕ) → seat < seats → seats < 2 ^ 32
    → odd_part seats (trailing_zeros w32 seats) * inverse % 2 ^ 32 ≡ 1
    → IsTurned (home_of seats seat) inverse (trailing_zeros w32 seats)
IsTurned-new seats seat inverse there fits one =
    let lowest = bit_at-trailing_zeros w32 seats (omega arith) fits in
    record {
      there = there;
      fits = fits;
      few = lowest.0;
      whole = multiple seats (trailing_zeros w32 seats) lowest.2;
      undoes = one;
    }

-- the power is no greater than the number of seats
power-le : (h : Home) (inverse turn : ℕ) → IsTurned h inverse turn → 2 ^ turn ≤ h.seats
power-le h inverse turn k =
    elim (cases_eq (odd_part h.seats turn) 0) [
      | inl none ↦ absurd (omega (arith, k.there, k.whole, ap (λ n. n * 2 ^ turn) none))
      | inr some ↦
          omega (arith, k.whole, mul-le 1 (2 ^ turn) (odd_part h.seats turn) (2 ^ turn) (omega arith) (omega arith))
    ]

-- a rank times the number of seats, by its parts
times-seats : (h : Home) (inverse turn q : ℕ) → IsTurned h inverse turn
    → q * 2 ^ turn * odd_part h.seats turn ≡ q * h.seats
times-seats h inverse turn q k =
    mul_assoc q (2 ^ turn) (odd_part h.seats turn)
    ∙ ap (λ n. q * n) (mul_comm (2 ^ turn) (odd_part h.seats turn) ∙ k.whole)

-- how far a user is from the seat's first one, modulo 2 ^ 32
abbrev pub distance : Home → ℕ → ℕ
distance h user = (user + (2 ^ 32 - h.seat)) % 2 ^ 32

-- what is computed for a user of the seat
pub rank-there : (h : Home) (inverse turn user : ℕ) → IsTurned h inverse turn → user < 2 ^ 32 → IsAtHome h user
    → rotate_right w32 (distance h user * inverse % 2 ^ 32) turn ≡ user / h.seats
rank-there h inverse turn user k fits home =
    let q = user / h.seats in
    let all : q * h.seats + h.seat ≡ user = omega (arith, div-add-mod' user h.seats, home) in
    let times = times-seats h inverse turn q k in
    let far : distance h user ≡ q * 2 ^ turn * odd_part h.seats turn = omega (arith, all, times, fits) in
    let le = mul-le q (2 ^ turn) q h.seats (omega arith) (power-le h inverse turn k) in
    let small : q * 2 ^ turn < 2 ^ 32 = omega (arith, le, all, fits) in
    ap (λ d. rotate_right w32 (d * inverse % 2 ^ 32) turn) far
    ∙ ap (λ m. rotate_right w32 m turn)
    (times-undone (q * 2 ^ turn) (odd_part h.seats turn) inverse (2 ^ 32) k.undoes small)
    ∙ turned-whole q turn k.few small

-- whatever is computed for a user, if its user is below 2 ^ 32, that is the user
pub rank-back : (h : Home) (inverse turn user rank : ℕ) → IsTurned h inverse turn → user < 2 ^ 32
    → rank ≡ rotate_right w32 (distance h user * inverse % 2 ^ 32) turn → user_at h rank < 2 ^ 32
    → user ≡ user_at h rank
rank-back h inverse turn user rank k fits is small =
    let d = distance h user in
    let below : d < 2 ^ 32 = mod_below (user + (2 ^ 32 - h.seat)) (2 ^ 32) (omega arith) in
    let le = mul-le rank (2 ^ turn) rank h.seats (omega arith) (power-le h inverse turn k) in
    let turned = turned-back (d * inverse % 2 ^ 32) turn rank k.few (mod_below (d * inverse) (2 ^ 32) (omega arith)) is
    (omega (arith, le, small)) in
    let product = ap (λ m. m * odd_part h.seats turn) turned ∙ times-seats h inverse turn rank k in
    let within : rank * h.seats < 2 ^ 32 = omega (arith, small) in
    let far : d ≡ rank * h.seats =
    sym (undone-times d (odd_part h.seats turn) inverse (2 ^ 32) k.undoes below) ∙ ap (λ m. m % 2 ^ 32) product
    ∙ mod-eq_of_lt within in
    omega (arith, far, fits, small, k.there, k.fits)
