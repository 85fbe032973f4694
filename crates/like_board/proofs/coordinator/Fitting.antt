-- What the coordinator knows stays true, if its new view says the same.
use Rattle.std.proofs.Common.{◌≡◌, subst, sym}
use Rattle.like_core.specs.declared.opening.Opening.{Opening}
use Rattle.like_core.specs.declared.view.CoordSeatView.{CoordSeatView}
use Rattle.like_core.specs.core.State.{CoreState}
use Rattle.like_core.specs.views.Shows.{KnowsSeats, KnowsPhase, KnowsChoice}

-- of the workers' seats
pub same_seats : (z : Opening) (s : CoreState) (c d : CoordSeatView)
    → d ≡ record d { opening = c.opening; made = c.made; joined = c.joined }
    → KnowsSeats z s c
    → KnowsSeats z s d
same_seats z s c d same k =
    subst (KnowsSeats z s) (sym same) (record {
      opening = k.opening;
      made = k.made;
      unmade = k.unmade;
      joined = k.joined;
    })

-- of the phase
pub same_phase : (z : Opening) (s : CoreState) (c d : CoordSeatView)
    → d ≡ record d {
      phase = c.phase;
      ending = c.ending;
      last = c.last;
      word = c.word;
      all_in = c.all_in;
      gone = c.gone;
    }
    → KnowsPhase z s c
    → KnowsPhase z s d
same_phase z s c d same k =
    subst (KnowsPhase z s) (sym same) (record {
      present = k.present;
      ending = k.ending;
      last = k.last;
      stays = k.stays;
      all_in = k.all_in;
      gone = k.gone;
    })

-- of the choice of hot pages
pub same_choice : (z : Opening) (s : CoreState) (c d : CoordSeatView)
    → d ≡ record d { counted = c.counted; published = c.published; masks = c.masks }
    → KnowsChoice z s c
    → KnowsChoice z s d
same_choice z s c d same k =
    subst (KnowsChoice z s) (sym same) (record { counted = k.counted; published = k.published; masks = k.masks })
