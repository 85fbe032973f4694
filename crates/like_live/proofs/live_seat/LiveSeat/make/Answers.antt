use Rattle.std.proofs.Common.{Ok, sym, subst}
use Rattle.like_live.specs.Batch.{AnswersRow}
use Rattle.like_live.proofs.live_seat.LiveSeat.make.Goals as goal

pub returns-in-Glance-clause-made : goal.returns-in-Glance-clause-made
returns-in-Glance-clause-made g c =
    let it = c.make_glance in
    subst (λ call. AnswersRow Ok g.R.Row.tells c.args.self.now call it.new.told it.result it.new.self) (sym c.in-Glance.is)
    it.ensures.made

pub returns-in-Look-clause-made : goal.returns-in-Look-clause-made
returns-in-Look-clause-made g c =
    let it = c.make_look in
    subst (λ call. AnswersRow Ok g.R.Row.tells c.args.self.now call it.new.told it.result it.new.self) (sym c.in-Look.is)
    it.ensures.made

pub returns-in-Like-clause-made : goal.returns-in-Like-clause-made
returns-in-Like-clause-made g c =
    let it = c.make_like in
    subst (λ call. AnswersRow Ok g.R.Row.tells c.args.self.now call it.new.told it.result it.new.self) (sym c.in-Like.is)
    it.ensures.made
