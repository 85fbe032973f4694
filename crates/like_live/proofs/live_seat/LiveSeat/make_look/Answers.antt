use Rattle.std.proofs.Common.{inl, inr, refl}
use Rattle.like_live.specs.declared.answer.LookAnswer.TheVariants.{Seen, Waits}
use Rattle.like_live.specs.declared.call.Answer.TheVariants.{Look}
use Rattle.like_live.specs.Batch.{makes_call}
use Rattle.like_live.proofs.LastPages.{look-tells}
use Rattle.like_live.proofs.live_seat.LiveSeat.make_look.Goals as goal

pub returns-in-Seen-clause-made : goal.returns-in-Seen-clause-made
returns-in-Seen-clause-made g c =
    makes_call _ (Look (Seen c.in-Seen.seen)) refl c.in-Seen.ensures.case
    (look-tells _ _ _ _ _ _ c.in-Seen.ensures.case c.in-Seen.ensures.keeps) c.tell.ensures
    (λ again. cc again, elim [ inl is ↦ cc is | inr is ↦ cc is ])

pub returns-in-Waits-clause-made : goal.returns-in-Waits-clause-made
returns-in-Waits-clause-made g c =
    makes_call _ (Look Waits) refl c.in-Waits.ensures.case tt c.tell-in-Waits.ensures
    (λ again. cc again, elim [ inl is ↦ cc is | inr is ↦ cc is ])

pub returns-in_default-clause-made : goal.returns-in_default-clause-made
returns-in_default-clause-made g c =
    makes_call _ (Look c.look.result) refl c.look.ensures.case
    (look-tells _ _ _ _ _ _ c.look.ensures.case c.look.ensures.keeps) c.tell-in_default.ensures c.is_put_off.ensures
