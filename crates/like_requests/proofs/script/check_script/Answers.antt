use Rattle.std.proofs.Common.{get_or, rules}
use Rattle.std.proofs.lemmas.Option.{slice_get-get_or}
use Rattle.like_requests.specs.declared.script.Turned.TheVariants.{OpenOne}
use Rattle.like_requests.specs.Script.{IsInRun}
use Rattle.like_requests.proofs.FirstAway.{first-away, holds-more}
use Rattle.like_requests.proofs.script.check_script.Goals as goal

pub loop-at-preserved : goal.loop-at-preserved
loop-at-preserved c =
    let script = c.args.script.now in
    holds-more (IsInRun c.args.workers c.args.submitters) script c.loop-at.at
    (get_or script c.loop-at.at (OpenOne 0)) c.loop-at.invariant
    (slice_get-get_or script c.loop-at.at (OpenOne 0) c.loop-at-test.true)
    (c.is_there.ensures.0 c.if-not-is_there.false)

pub returns-then-not-is_there : goal.returns-then-not-is_there
returns-then-not-is_there c =
    let script = c.args.script.now in (
      c.loop-at.at,
      search rules,
      first-away (IsInRun c.args.workers c.args.submitters) script c.loop-at.at
          (get_or script c.loop-at.at (OpenOne 0)) c.loop-at.invariant
          (slice_get-get_or script c.loop-at.at (OpenOne 0) c.loop-at-test.true)
          (λ there. let here = c.is_there.ensures.1 there in cc (here, c.if-not-is_there.true)),
    )
