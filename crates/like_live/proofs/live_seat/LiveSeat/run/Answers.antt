use Rattle.std.proofs.Common.{◌<◌, ◌∙◌, arith}
use Rattle.like_live.proofs.Batches.{batch-more, batch-stops, set-behind}
use Rattle.like_live.proofs.Moving.{same_seat_both}
use Rattle.like_live.proofs.live_seat.LiveSeat.run.Goals as goal

pub returns-then-answer-clause-case : goal.returns-then-answer-clause-case
returns-then-answer-clause-case g c =
    let i = c.loop-done.done in
    batch-stops g.R.Row.asks g.R.Row.tells c.args.self.now c.loop-done.self c.answer.new.self c.args.rows.now
    c.loop-done.answers i c.index-rows-done.result c.answer.new.told c.answer.result c.index-rows-done.is
    (omega (arith, c.loop-done-test.true, c.min-most.ensures))
    (omega (arith, c.loop-done-test.true, c.min-most.ensures, c.loop-done.auto.answers))
    c.loop-done.invariant.ran c.answer.ensures.row c.if-answer.true

pub returns-then-answer-clause-rest : goal.returns-then-answer-clause-rest
returns-then-answer-clause-rest g c = λ k past.
    set-behind c.loop-done.answers c.loop-done.done k c.answer.new.told past
    ∙ c.loop-done.invariant.rest k (omega arith)

pub returns-then-answer-clause-unasked : goal.returns-then-answer-clause-unasked
returns-then-answer-clause-unasked g c = λ k past.
    let below : c.loop-done.done < k = omega (arith, c.loop-done-test.true, c.min-most.ensures) in
    set-behind c.loop-done.answers c.loop-done.done k c.answer.new.told below
    ∙ c.loop-done.invariant.rest k (omega arith)

pub returns-clause-unasked : goal.returns-clause-unasked
returns-clause-unasked g c = λ k past.
    c.loop-done.invariant.rest k (omega (arith, c.loop-done.auto.done-end, c.min-most.ensures))

pub returns-clause-rest : goal.returns-clause-rest
returns-clause-rest g c = λ k past. c.loop-done.invariant.rest k (omega (arith, c.loop-done.auto.done-end))

pub loop-done-preserved : goal.loop-done-preserved
loop-done-preserved g c =
    let i = c.loop-done.done in
    record {
      ran = batch-more g.R.Row.asks g.R.Row.tells c.args.self.now c.loop-done.self c.answer.new.self c.args.rows.now
          c.loop-done.answers i c.index-rows-done.result c.answer.new.told c.answer.result c.index-rows-done.is
          (omega (arith, c.loop-done-test.true, c.min-most.ensures))
          (omega (arith, c.loop-done-test.true, c.min-most.ensures, c.loop-done.auto.answers))
          c.loop-done.invariant.ran c.answer.ensures.row c.if-answer.false;
      rest = λ k past.
          set-behind c.loop-done.answers i k c.answer.new.told (omega arith) ∙ c.loop-done.invariant.rest k (omega arith);
      live = c.answer.ensures.keeps;
      same = same_seat_both c.args.self.now c.loop-done.self c.answer.new.self c.loop-done.invariant.same
          c.answer.ensures.same;
    }
