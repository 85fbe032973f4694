use Rattle.std.proofs.Common.{arith}
use Rattle.like_core.specs.declared.worker_state.WorkerState.TheVariants.{Gone}
use Rattle.like_seat.proofs.Keeping.{Kept-left}
use Rattle.like_seat.proofs.tables.Tables.retire.Goals as goal

pub returns-clause-kept : goal.returns-clause-kept
returns-clause-kept g c =
    Kept-left (g.P.Post.view c.args.post.now) (g.P.Post.view c.retire.new.self) c.args.self.now Gone c.requires.kept
    c.requires.runs (λ runs. runs) (omega arith) c.retire.ensures.view
