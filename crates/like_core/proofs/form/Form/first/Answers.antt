use Rattle.std.proofs.Common.{ap, arith}
use Rattle.like_core.specs.word.Forms.{has_answered, is_gone}
use Rattle.like_core.proofs.word.HowMany.{how_many-none}
use Rattle.like_core.proofs.word.Masks.{mask_none}
use Rattle.like_core.proofs.word.States.{first_runs, first_states}
use Rattle.like_core.proofs.form.Form.first.Goals as goal

pub returns-in-Bits : goal.returns-in-Bits
returns-in-Bits c =
    let n = c.args.workers in
    let answered = mask_none (λ i. has_answered 0 (first_states n i)) n
    (λ i below. ap (has_answered 0) (first_runs n i below)) in
    let gone = mask_none (λ i. is_gone (first_states n i)) n (λ i below. ap is_gone (first_runs n i below)) in
    rw c.in-Bits.is (omega arith)

pub returns-in-Counts : goal.returns-in-Counts
returns-in-Counts c =
    let n = c.args.workers in
    let answered = how_many-none (λ i. has_answered 0 (first_states n i)) n
    (λ i below. ap (has_answered 0) (first_runs n i below)) in
    let gone = how_many-none (λ i. is_gone (first_states n i)) n (λ i below. ap is_gone (first_runs n i below)) in
    rw c.in-Counts.is (omega arith)
