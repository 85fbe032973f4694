use Rattle.std.proofs.Common.{◌≡◌, ◌+◌, ◌/◌, ◌%◌, ◌^◌, ◌==◌, ◌||◌, bit_and, bit_or, ◌∙◌}
use Rattle.std.proofs.lemmas.Nat.{and_mask}
use Rattle.like_core.specs.Functions.{has_bit}
use Rattle.like_core.proofs.Below.{each_below-same, has_bit-or}
use Rattle.like_core.proofs.form.Form.all_in.Goals as goal

pub returns-in-Bits : goal.returns-in-Bits
returns-in-Bits c =
    let w = c.args.word in
    rw c.in-Bits.is
    (c.has_all.ensures ∙
    each_below-same (has_bit (bit_or (w / 2 ^ 8) (w / 2 ^ 24))) (λ i. has_bit (w / 2 ^ 8) i || has_bit (w / 2 ^ 24) i)
    c.args.workers (λ i _. has_bit-or (w / 2 ^ 8) (w / 2 ^ 24) i))

pub returns-in-Counts : goal.returns-in-Counts
returns-in-Counts c =
    let w = c.args.word in
    let answered : bit_and (w / 4) 127 ≡ w / 4 % 128 = and_mask (w / 4) 7 in
    let gone : bit_and (w / 512) 127 ≡ w / 512 % 128 = and_mask (w / 512) 7 in
    rw c.in-Counts.is (λ i. answered i + gone i == c.from.ensures i)
