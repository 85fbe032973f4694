use Rattle.std.proofs.Common.{refl}
use Rattle.like_live.specs.declared.answer.LikeAnswer.TheVariants.{Liked}
use Rattle.like_live.specs.declared.call.Answer.TheVariants.{Like}
use Rattle.like_live.specs.Batch.{makes_call}
use Rattle.like_live.proofs.live_seat.LiveSeat.make_like.Goals as goal

pub returns-in-Liked-clause-made : goal.returns-in-Liked-clause-made
returns-in-Liked-clause-made g c =
    makes_call _ (Like Liked) refl c.in-Liked.ensures.case tt c.tell.ensures (λ again. cc again, λ is. cc is)

pub returns-in_default-clause-made : goal.returns-in_default-clause-made
returns-in_default-clause-made g c =
    makes_call _ (Like c.like.result) refl c.like.ensures.case tt c.tell_late.ensures.written c.tell_late.ensures.again
