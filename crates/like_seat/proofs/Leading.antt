-- What a lead reads and chooses.
use Rattle.std.proofs.Common.{◌≡◌, ℕ, suc, ◌+◌, ◌-◌, ◌*◌, ◌%◌, ◌^◌, ◌<◌, ◌≤◌, Bool, false, leb, List, [], ◌∷◌, ◌++◌, length, get_or, set, refl, sym, ap, ◌∙◌, arith, add-zero, one-mul}
use Rattle.std.proofs.Math.Nat.{mod-eq_of_lt, pow-le-pow_right}
use Rattle.std.proofs.lemmas.List.{get_or-set_other, get_or-set_same}
use Rattle.like_core.specs.declared.view.CoordSeatView.{CoordSeatView}
use Rattle.like_core.specs.OpeningLimits.{has_slots}
use Rattle.like_core.specs.Phase.{IsJoined}
use Rattle.like_core.specs.Functions.{mask, weight}
use Rattle.like_core.specs.views.Views.{counted_coord, MayCount, MayPublish, SawAllIn}
use Rattle.like_core.proofs.word.Masks.{mask-lt, mask_same}
use Rattle.like_seat.specs.Lead.{counted_from, has_risen}

-- a count more that was read
pub counted-more : (c : CoordSeatView) (page : ℕ) (counts : List ℕ) (count : ℕ)
    → counted_from c page (counts ++ count ∷ [])
    ≡ counted_coord (counted_from c page counts) (page + length counts) count
counted-more c page [] count = ap (λ p. counted_coord c p count) (sym (add-zero page))
counted-more c page (x ∷ counts) count =
    counted-more (counted_coord c page x) (page + 1) counts count
    ∙ ap (λ p. counted_coord (counted_from (counted_coord c page x) (page + 1) counts) p count) (omega arith)

-- to read counts changes nothing else
pub counted-is : (c : CoordSeatView) (page : ℕ) (counts : List ℕ)
    → counted_from c page counts ≡ record c { counted = (counted_from c page counts).counted }
counted-is c page [] = refl
counted-is c page (x ∷ counts) = counted-is (counted_coord c page x) (page + 1) counts

-- after counts were read the last sight still shows all in
pub saw-still : (c : CoordSeatView) (page : ℕ) (counts : List ℕ) → SawAllIn c → SawAllIn (counted_from c page counts)
saw-still c page [] saw = saw
saw-still c page (x ∷ counts) saw = saw-still (counted_coord c page x) (page + 1) counts saw

pub may-count : (c : CoordSeatView) (page : ℕ) (counts : List ℕ) (other : ℕ)
    → MayCount c other
    → MayCount (counted_from c page counts) other
may-count c page [] other may = may
may-count c page (x ∷ counts) other may = may-count (counted_coord c page x) (page + 1) counts other may

-- a mask of no more pages than there are may be published after counts were read
pub may-publish : (c : CoordSeatView) (page : ℕ) (counts : List ℕ) (f : ℕ → Bool) (n : ℕ)
    → SawAllIn c
    → IsJoined c.phase
    → n ≤ length c.opening.counts
    → has_slots c.opening.limits ≡ false
    → MayPublish (counted_from c page counts) (mask f n)
may-publish c page [] f n saw joined there plain =
    let grows = pow-le-pow_right {n = 2} (omega arith) {i = n} {j = length c.opening.counts} (omega (arith, there)) in
    (saw, joined, omega (arith, grows, mask-lt f n), plain)
may-publish c page (x ∷ counts) f n saw joined there plain =
    may-publish (counted_coord c page x) (page + 1) counts f n saw joined there plain

-- one bit of a mask of 64
pub bit-is : (page : ℕ) → page < 64 → 1 * 2 ^ page % 18446744073709551616 ≡ 2 ^ page
bit-is page few =
    let grows = pow-le-pow_right {n = 2} (omega arith) {i = page} {j = 63} (omega (arith, few)) in
    ap (λ n. n % 18446744073709551616) (one-mul (2 ^ page)) ∙ mod-eq_of_lt (omega (arith, grows))

pub bit-fits : (f : ℕ → Bool) (page m : ℕ)
    → page < 64
    → m ≡ mask f page
    → m + 1 * 2 ^ page % 18446744073709551616 < 18446744073709551616
bit-fits f page m few is =
    let grows = pow-le-pow_right {n = 2} (omega arith) {i = page} {j = 63} (omega (arith, few)) in
    omega (arith, grows, bit-is page few, mask-lt f page, is)

-- the mask with the test of one page more, whose count was read
pub mask-more : (least page count m : ℕ) (first counts : List ℕ)
    → page < length counts
    → m ≡ mask (has_risen least first counts) page
    → m + weight (leb least (count - get_or first page 0)) * 2 ^ page
    ≡ mask (has_risen least first (set counts page count)) (page + 1)
mask-more least page count m first counts there is =
    ap (λ n. n + weight (leb least (count - get_or first page 0)) * 2 ^ page)
    (is ∙ mask_same _ _ page
    (λ i below. ap (λ n. leb least (n - get_or first i 0))
    (sym (get_or-set_other counts page i count 0 (omega (arith, below))))))
    ∙ ap (λ n. mask (has_risen least first (set counts page count)) page
    + weight (leb least (n - get_or first page 0)) * 2 ^ page) (sym (get_or-set_same counts page count 0 there))
    ∙ ap (mask (has_risen least first (set counts page count))) one-more
  where
    one-more : suc page ≡ page + 1
    one-more = omega arith
