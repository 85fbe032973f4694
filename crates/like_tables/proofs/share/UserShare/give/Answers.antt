use Rattle.std.proofs.Common.{◌≡◌, length, None, ap, ◌∙◌, arith}
use Rattle.std.proofs.lemmas.List.{get_or_read}
use Rattle.like_tables.specs.Share.{Share}
use Rattle.like_tables.proofs.Walk.{IsAt-first, IsAt-next, IsAt-round, IsAt-there, IsGiven-more, IsGiven-none}
use Rattle.like_tables.proofs.share.UserShare.give.Goals as goal
use Rattle.like_tables.proofs.share.UserShare.give.Goals.{then-submitter-submitters, else-submitter-submitters}

pub loop-page-init : goal.loop-page-init
loop-page-init c = record {
  given = IsGiven-none _ _ _;
  at = λ some.
      let first = IsAt-first c.args.self.now c.requires.ranks.lawful (omega (arith, c.requires.ranks.enough)) in
      rw (ap (λ (s : Share). s.worker) c.self.view_is) first;
}

pub overflow_add-round : goal.overflow_add-round
overflow_add-round c =
    let there = IsAt-there _ _ _ _ (c.loop-page.invariant.at c.loop-page-test.true)
    (omega (arith, c.requires.ranks.enough)) in
    let lt = rw (← c.self.view_is) at there in
    omega arith

pub bounds-last-round : goal.bounds-last-round
bounds-last-round c =
    let there = IsAt-there _ _ _ _ (c.loop-page.invariant.at c.loop-page-test.true)
    (omega (arith, c.requires.ranks.enough)) in
    omega (arith, c.requires.users)

pub offset_bounds-last-round : goal.offset_bounds-last-round
offset_bounds-last-round c =
    let there = IsAt-there _ _ _ _ (c.loop-page.invariant.at c.loop-page-test.true)
    (omega (arith, c.requires.ranks.enough)) in
    let lt = rw (← c.self.view_is) at there in
    omega arith

pub overflow_add-round-then-submitter-submitters : goal.overflow_add-round-then-submitter-submitters
overflow_add-round-then-submitter-submitters c =
    let there = IsAt-there _ _ _ _ (c.loop-page.invariant.at c.loop-page-test.true)
    (omega (arith, c.requires.ranks.enough)) in
    let lt = rw (← c.self.view_is) at there in
    omega arith

pub loop-page-preserved : goal.loop-page-preserved
loop-page-preserved c =
    let i = c.loop-page.invariant in
    let at = i.at c.loop-page-test.true in
    let submitters : c.self.inside.submitters ≡ c.args.self.now.submitters =
    ap (λ (s : Share). s.submitters) c.self.view_is in
    let workers : c.self.inside.workers ≡ c.args.self.now.workers = ap (λ (s : Share). s.workers) c.self.view_is in
    let worker : c.self.inside.worker ≡ c.args.self.now.worker = ap (λ (s : Share). s.worker) c.self.view_is in
    record {
      given = IsGiven-more _ _ _ c.loop-page.last _ _ c.loop-page.page-index _ i.given at
          (omega (arith, c.requires.ranks.enough, c.loop-page-test.true)) (omega (arith, c.requires.users))
          (c.page.ensures
          ∙ get_or_read c.args.pages.now c.loop-page.page-index c.page-item.result c.loop-page-test.true c.page-item.is
          None);
      at = λ more. elim c.if-submitter-submitters.branch [
        | then-submitter-submitters w ↦
            rw (w.round-is, w.submitter-is, submitters, worker)
            (IsAt-round _ _ _ _ at (omega (arith, w.if-submitter-submitters.true)))
        | else-submitter-submitters w ↦
            rw (w.round-is, w.submitter-is, workers)
            (IsAt-next _ _ _ _ at (omega (arith, w.if-submitter-submitters.false)))
      ];
    }

pub returns : goal.returns
returns c =
    let end : c.loop-page.page-index ≡ length c.args.pages.now = omega (arith, c.loop-page-test.false) in
    rw (← end) c.loop-page.invariant.given
