use Rattle.std.proofs.Common.{refl}
use Rattle.like_live.specs.declared.call.Answer.TheVariants.{Glance}
use Rattle.like_live.specs.Batch.{makes_call}
use Rattle.like_live.proofs.LastPages.{glance-tells}
use Rattle.like_live.proofs.live_seat.LiveSeat.make_glance.Goals as goal

pub returns-clause-made : goal.returns-clause-made
returns-clause-made g c =
    makes_call _ (Glance c.glance-answer.result) refl c.glance-answer.ensures.case
    (glance-tells _ _ _ _ _ c.glance-answer.ensures.case c.glance-answer.ensures.keeps) c.tell.ensures c.is_put_off.ensures
