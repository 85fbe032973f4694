use Rattle.std.proofs.Common.{◌≡◌, ◌/◌, ◌%◌, ◌==◌, bit_and}
use Rattle.std.proofs.lemmas.Nat.{and_mask}
use Rattle.like_core.proofs.form.Form.sight_in.Goals as goal

pub returns : goal.returns
returns c =
    let w = c.args.word in
    let low : bit_and w 1 ≡ w % 2 = and_mask w 1 in
    let high : bit_and (w / 2) 1 ≡ w / 2 % 2 = and_mask (w / 2) 1 in
    λ i. record { number = c.phase_in.ensures i; ending = low i == 1; waits = high i == c.args.turn }
