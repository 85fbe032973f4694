use Rattle.std.proofs.Common.{Bool, sym, subst}
use Rattle.std.specs.Prelude.{IfOk}
use Rattle.like_roles.specs.worker.New.{IsNewAt}
use Rattle.test_parts.proofs.roles.player.worker_of.Goals as goal

pub returns-then-terms : goal.returns-then-terms
returns-then-terms g c =
    subst (λ (notes : Bool). IfOk c.new.result (IsNewAt c.args.setup.now
    (record { sizes = c.args.terms.sizes; notes = notes }) c.args.number (g.P.Post.board c.args.post)
    (g.P.Post.view c.args.post))) (sym c.if-terms.true) c.new.ensures.new
