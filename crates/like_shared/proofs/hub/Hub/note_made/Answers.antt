use Rattle.std.proofs.Common.{refl, sym, subst}
use Rattle.told_lock.specs.Deeds.{HasRun}
use Rattle.like_shared.specs.Desk.{DeskDoes}
use Rattle.like_shared.specs.Shared.{IsServiceKeeper}
use Rattle.like_shared.proofs.Desks.{as-held}
use Rattle.like_shared.proofs.hub.Hub.note_made.Goals as goal

pub note_after-requires : goal.note_after-requires
note_after-requires g c =
    let it = c.requires.made in (
      it.0,
      it.1,
      it.2,
      subst (λ ds. HasRun DeskDoes it.0 ds it.1) (sym c.requires.deed)
          (it.1, (c.args.self.now.service, it.3, it.4, it.5), refl),
    )

pub returns-clause-card : goal.returns-clause-card
returns-clause-card g c =
    let h = c.args.self.now in
    let it = c.requires.made in
    let held = c.note_after.ensures.holding in
    let same = as-held h.desk c.args.card.now it.0 it.1 held.0 held.1 it.2 held.2 in
    (held.1, held.3, subst (IsServiceKeeper h.service) same it.4)
