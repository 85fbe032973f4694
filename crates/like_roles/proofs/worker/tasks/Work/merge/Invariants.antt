use Rattle.std.proofs.Common.{◌-◌, ◌≤◌, List, length}
use Rattle.like_core.specs.declared.view.Addition.{Addition}
use Rattle.like_seat.specs.Kept as kept
use Rattle.like_roles.proofs.Merging.{HaveNoted}
use Rattle.like_roles.proofs.PageOrder.{Merging}
use Rattle.like_roles.specs.worker.Work.{IsIdle, station_at}
use Rattle.like_roles.proofs.worker.tasks.Work.merge.Given as goal

abbrev pub invariant-loop-merged : goal.invariant-loop-merged
invariant-loop-merged g l = record {
  idle : IsIdle (g.P.Post.view l.post) l.self;
  within : l.from ≤ length (station_at (g.P.Post.view l.post) l.self).slice;
  merging : (adds : List Addition)
      × (Merging (kept.view_of (g.P.Post.board l.initial.post) (g.P.Post.view l.initial.post) l.initial.self.tables)
      (kept.view_of (g.P.Post.board l.post) (g.P.Post.view l.post) l.self.tables) l.from adds
      × HaveNoted l.initial.self.ledger l.self.ledger adds);
}

abbrev pub decreases-loop-merged : goal.decreases-loop-merged
decreases-loop-merged g l = length (station_at (g.P.Post.view l.initial.post) l.initial.self).slice - l.from
