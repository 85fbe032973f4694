use Rattle.std.proofs.Common.{◌≡◌, length, None, Some, refl, ap, ◌∙◌, arith}
use Rattle.std.proofs.Math.Seq.{take-append_seam}
use Rattle.std.proofs.lemmas.Option.{slice_get-get_or, slice_get_read, slice_get_within}
use Rattle.like_tables.specs.Share.{Share}
use Rattle.like_crew.proofs.LastLikes.{AreGiven-more, AreGiven-none}
use Rattle.like_crew.proofs.report.gathered.last_likes.Goals as goal

pub loop-log-init : goal.loop-log-init
loop-log-init c =
    AreGiven-none c.args.users c.args.submitters c.args.logs.now c.in_ok-last.last.items
    (omega (arith, c.in_ok-last.ensures.len, c.in_ok-last.last.ok))

pub give_to-requires : goal.give_to-requires
give_to-requires c =
    let at = slice_get_read c.args.logs.now _ c.loop-log.log-index c.log-item.result refl c.loop-log-test.true
    c.log-item.is in
    let users = ap (λ (s : Share). s.users) (c.requires.tables c.loop-log.log-index c.log-item.result at) in
    omega (arith, users, ap length c.deref_mut.ensures.value, c.loop-log.invariant.len)

pub loop-log-preserved : goal.loop-log-preserved
loop-log-preserved c =
    let at = slice_get_read c.args.logs.now _ c.loop-log.log-index c.log-item.result refl c.loop-log-test.true
    c.log-item.is in
    let given = rw c.deref_mut.ensures.value at c.give_to.ensures in
    let long : c.loop-log.last.len ≡ length c.give_to.new.last = omega (arith, given.len, c.loop-log.last.ok) in
    rw (long, take-append_seam)
    (AreGiven-more _ _ _ _ _ _ c.loop-log.log-index c.requires.tables at c.loop-log.invariant given.len given.own
    given.others)

pub returns : goal.returns
returns c = record {
  len = c.loop-log.invariant.len;
  last = λ user log there its.
      let i = c.loop-log.invariant in
      let worker = slice_get_within c.args.logs.now _ log its in
      slice_get-get_or c.loop-log.last.items user None (omega (arith, i.len))
      ∙ ap Some (i.each user log there (omega (arith, c.loop-log-test.false)) its);
}
