-- The slots of a new service.
use Rattle.std.proofs.Common.{◌≡◌, ℕ, ◌-◌, ◌^◌, ◌<◌, ◌≤◌, ◌==◌, inl, inr, true, List, ◌++◌, length, get_or, replicate, All, sym, ap, ◌∙◌, subst, arith, length-append}
use Rattle.std.specs.Int.{bit_at}
use Rattle.std.proofs.lemmas.Bool.{both_ways, cases_lt, eq-eqb}
use Rattle.std.proofs.lemmas.List.{get_or_append_left, length-replicate}
use Rattle.std.proofs.lemmas.List.Elements.{All-get_or}
use Rattle.std.proofs.lemmas.Nat.{pow_pos}
use Rattle.std.proofs.lemmas.Nat.Bits.{bit_at_ones, bit_at_ones_above}
use Rattle.std.proofs.Math.Nat.{pow-le-pow_right}
use Rattle.like_limits.specs.Limits.{hot_pages}
use Rattle.like_limits.specs.Buckets.{AreApart, bucket}
use Rattle.like_core.specs.Functions.{has_bit}
use Rattle.like_choice.specs.Slots.{AreSlots, new_slots}

-- of the lowest bits, so many are set
low-used : (many slot : ℕ) → has_bit (2 ^ many - 1) slot ≡ true → slot < many
low-used many slot used = elim (cases_lt slot many) [
  | inl below ↦ below
  | inr above ↦ absurd (both_ways (has_bit (2 ^ many - 1) slot)
      (ap (λ b. b == 1) (bit_at_ones_above many slot above)) used)
]

-- the page in a slot of the first ones
marked-page : (marks : List ℕ) (slot : ℕ) → slot < length marks
    → get_or (marks ++ replicate (hot_pages - length marks) 0) slot 0 ≡ get_or marks slot 0
marked-page marks slot below = get_or_append_left marks _ 0 slot below

pub AreSlots-new : (factor pages : ℕ) (marks : List ℕ) → length marks ≤ hot_pages
    → All (λ page. page < pages) marks → AreApart factor marks → AreSlots (new_slots factor pages marks)
AreSlots-new factor pages marks few there apart = record {
  choice = record {
    there = λ i small used.
        let low = low-used (length marks) i used in
        subst (λ p. p < pages) (sym (marked-page marks i low)) (All-get_or (λ page. page < pages) marks i 0 low there);
    apart = λ i j i_small j_small i_used j_used same.
        let i_low = low-used (length marks) i i_used in
        let j_low = low-used (length marks) j j_used in
        apart i j i_low j_low
        (ap (bucket factor) (sym (marked-page marks i i_low)) ∙ same ∙ ap (bucket factor) (marked-page marks j j_low));
  };
  marks = few;
  marked = λ slot low. eq-eqb (bit_at (2 ^ length marks - 1) slot) 1 (bit_at_ones (length marks) slot low);
  all = length-append marks _ ∙ omega (arith, few, length-replicate {A = ℕ} (hot_pages - length marks) 0);
  below = omega (arith, pow_pos (length marks), pow-le-pow_right {n = 2} (omega arith) few);
}
