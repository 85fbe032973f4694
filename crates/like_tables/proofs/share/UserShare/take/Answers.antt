use Rattle.std.proofs.Common.{◌≡◌, ap, ◌∙◌, arith}
use Rattle.std.proofs.lemmas.List.{get_or_default}
use Rattle.like_tables.specs.LastLike.{no_page, page_in}
use Rattle.like_tables.specs.Share.{Share}
use Rattle.like_tables.proofs.Walk.{AreTaken-more, AreTaken-none, IsAt-first, IsAt-next, IsAt-round, IsAt-there}
use Rattle.like_tables.proofs.share.UserShare.take.Goals as goal
use Rattle.like_tables.proofs.share.UserShare.take.Goals.{then-submitter-submitters, else-submitter-submitters}

pub loop-rank-init : goal.loop-rank-init
loop-rank-init c = record {
  taken = AreTaken-none _ _ _ c.requires.ranks.enough;
  at = λ some.
      let first = IsAt-first c.args.self.now c.requires.ranks.lawful (omega (arith, c.requires.ranks.enough)) in
      rw (ap (λ (s : Share). s.worker) c.self.view_is) first;
}

pub overflow_add-round : goal.overflow_add-round
overflow_add-round c =
    let i = c.loop-rank.invariant in
    let there = IsAt-there _ _ _ _ (i.at (omega (arith, c.loop-rank-test.true))) (omega (arith, i.taken.len)) in
    let lt = rw (← c.self.view_is) at there in
    omega arith

pub bounds-lasts-round : goal.bounds-lasts-round
bounds-lasts-round c =
    let i = c.loop-rank.invariant in
    let there = IsAt-there _ _ _ _ (i.at (omega (arith, c.loop-rank-test.true))) (omega (arith, i.taken.len)) in
    omega (arith, c.requires.users)

pub offset_bounds-lasts-round : goal.offset_bounds-lasts-round
offset_bounds-lasts-round c =
    let i = c.loop-rank.invariant in
    let there = IsAt-there _ _ _ _ (i.at (omega (arith, c.loop-rank-test.true))) (omega (arith, i.taken.len)) in
    let lt = rw (← c.self.view_is) at there in
    omega arith

pub overflow_add-round-then-submitter-submitters : goal.overflow_add-round-then-submitter-submitters
overflow_add-round-then-submitter-submitters c =
    let i = c.loop-rank.invariant in
    let there = IsAt-there _ _ _ _ (i.at (omega (arith, c.loop-rank-test.true))) (omega (arith, i.taken.len)) in
    let lt = rw (← c.self.view_is) at there in
    omega arith

pub loop-rank-preserved : goal.loop-rank-preserved
loop-rank-preserved c =
    let i = c.loop-rank.invariant in
    let at = i.at (omega (arith, c.loop-rank-test.true)) in
    let submitters : c.self.inside.submitters ≡ c.args.self.now.submitters =
    ap (λ (s : Share). s.submitters) c.self.view_is in
    let workers : c.self.inside.workers ≡ c.args.self.now.workers = ap (λ (s : Share). s.workers) c.self.view_is in
    let worker : c.self.inside.worker ≡ c.args.self.now.worker = ap (λ (s : Share). s.worker) c.self.view_is in
    let there = IsAt-there _ _ _ _ at (omega (arith, i.taken.len, c.loop-rank-test.true)) in
    record {
      taken = AreTaken-more _ _ c.loop-rank.pages _ _ c.loop-rank.rank _ i.taken at
          (omega (arith, i.taken.len, c.loop-rank-test.true))
          (c.numbered.ensures
          ∙ ap page_in (get_or_default c.args.lasts.now _ 0 no_page (omega (arith, there, c.requires.users))));
      at = λ more. elim c.if-submitter-submitters.branch [
        | then-submitter-submitters w ↦
            rw (w.round-is, w.submitter-is, submitters, worker)
            (IsAt-round _ _ _ _ at (omega (arith, w.if-submitter-submitters.true)))
        | else-submitter-submitters w ↦
            rw (w.round-is, w.submitter-is, workers)
            (IsAt-next _ _ _ _ at (omega (arith, w.if-submitter-submitters.false)))
      ];
    }
