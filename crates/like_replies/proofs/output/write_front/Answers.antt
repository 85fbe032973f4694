use Rattle.std.proofs.Common.{◌+◌, arith, take}
use Rattle.std.proofs.KnownBytes.{Appends-kept}
use Rattle.std.proofs.lemmas.List.{length-drop, take_rest}
use Rattle.like_replies.proofs.Begun.{begun-first, begun-kept, first-more}
use Rattle.like_replies.proofs.output.write_front.Goals.{in-Ok, in-Err+else-ne}
use Rattle.like_replies.proofs.output.write_front.Goals as goal

pub returns-in-Ok-eq0 : goal.returns-in-Ok-eq0
returns-in-Ok-eq0 g c =
    let done = c.loop-write.done in
    begun-first _ _ (done + c.in-Ok-eq0.field-0) c.args.text.now
    (first-more _ _ _ done c.in-Ok-eq0.field-0 c.args.text.now c.loop-write.invariant.1
    (rw (take_rest c.args.text.now done) at c.in-Ok-eq0.ensures.bytes))

pub returns-then-ne : goal.returns-then-ne
returns-then-ne g c =
    begun-kept _ _ _ c.args.text.now
    (begun-first _ _ c.loop-write.done c.args.text.now c.loop-write.invariant.1) c.in-Err.ensures.bytes

pub returns : goal.returns
returns g c = begun-first _ _ c.loop-write.done c.args.text.now c.loop-write.invariant.1

pub loop-write-preserved : goal.loop-write-preserved
loop-write-preserved g c =
    elim c.match-write.branch [
      | in-Ok w ↦
          let done = c.loop-write.done in
          let text = c.args.text.now in
          let fits = rw (take_rest text done, length-drop done text) at w.in-Ok.ensures.bound in
          rw w.done-is (
            omega (arith, fits, c.loop-write.invariant.0),
            first-more _ _ _ done w.in-Ok.count text c.loop-write.invariant.1
                (rw (take_rest text done) at w.in-Ok.ensures.bytes),
          )
      | in-Err+else-ne w ↦
          rw w.done-is (
            c.loop-write.invariant.0,
            Appends-kept _ _ _ (take c.loop-write.done c.args.text.now) c.loop-write.invariant.1 w.in-Err.ensures.bytes,
          )
    ]
