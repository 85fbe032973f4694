-- What the coordinator's turns keep.
use Rattle.std.proofs.Common.{◌≡◌, ℕ, List, true, false, refl, subst, ap, sym, ◌∙◌, arith}
use Rattle.like_core.specs.declared.sight.CoordSight.{CoordSight}
use Rattle.like_core.specs.declared.view.CoordSeatView.{CoordSeatView}
use Rattle.like_core.specs.views.Views.{announced_coord}
use Rattle.like_core.specs.Phase.{IsJoined, IsSplit}
use Rattle.like_core.specs.views.Actions.{Surveys}
use Rattle.like_board.specs.Led.{BoardView, IsSightOf, ShowsTold}
use Rattle.like_seat.specs.Lead.{LeadView, saw_word}
use Rattle.like_promises.specs.declared.chosen.Chosen.{Chosen}
use Rattle.like_roles.specs.declared.coord_turn.CoordTurn.{CoordTurn}
use Rattle.like_roles.specs.declared.coord_turn.CoordTurn.TheVariants.{Ended}
use Rattle.like_roles.proofs.choice.Choosing.{release-gone, release-opening}
use Rattle.like_roles.proofs.choice.Releasing.{release-on}
use Rattle.like_roles.specs.coordinator.Choice.{ChoiceView, ReleasesNext, chooses_none, chooses_risen, releases_joined, releases_split}
use Rattle.like_roles.specs.coordinator.CoordTurns.{Acts, ends, counts, stays, announces, releases, waits, ChoseByCounts, CoordinatorGoesOn, CoordinatorView, CoordTurns, HasEndedJoined, IsBeforeEnd, surveyed, coordinator_of, TurnsAt}

-- no turn releases a split phase after all are gone
pub before_end : (v : CoordinatorView) (answer : CoordTurn) (after : CoordinatorView)
    → CoordTurns v answer after
    → IsBeforeEnd v
    → IsBeforeEnd after
before_end v answer after t before = kept t.acts
  where
    kept : Acts (surveyed v t.word t.sight) t.sight answer after → IsBeforeEnd after
    kept (ends g a e) = subst IsBeforeEnd (sym e) before
    kept (counts g n l a e) = subst IsBeforeEnd (sym e) before
    kept (stays g n l k a e) = subst IsBeforeEnd (sym e) before
    kept (announces g n l k a e) = subst IsBeforeEnd (sym e) before
    kept (releases g n i seat choice r a e) = subst IsBeforeEnd (sym e) (λ _. release-gone _ _ _ _ r ∙ g)
    kept (waits g n i a e) = subst IsBeforeEnd (sym e) before

-- a phase that is not split is joined
joined : (phase : ℕ) → (IsSplit phase → ⊥) → IsJoined phase
joined phase other = omega arith

-- where the turn answers that all are gone, the phase is joined
pub ended_joined : (v : CoordinatorView) (answer : CoordTurn) (after : CoordinatorView)
    → CoordTurns v answer after
    → IsBeforeEnd v
    → answer ≡ Ended
    → HasEndedJoined after
ended_joined v answer after t before is = shown t.acts
  where
    shown : Acts (surveyed v t.word t.sight) t.sight answer after → HasEndedJoined after
    shown (ends g a e) =
        let at : HasEndedJoined (surveyed v t.word t.sight) =
        record {
          gone = g;
          phase = t.shows.number;
          joined = subst IsJoined (sym t.shows.number)
              (joined v.seat.phase
              (λ split. let clash : true ≡ false = sym (t.shows.all_gone split g) ∙ before split in cc));
        }
        in
        subst HasEndedJoined (sym e) at
    shown (counts g n l a e) = absurd (let clash = sym a ∙ is in cc)
    shown (stays g n l k a e) = absurd (let clash = sym a ∙ is in cc)
    shown (announces g n l k a e) = absurd (let clash = sym a ∙ is in cc)
    shown (releases g n i seat choice r a e) = absurd (let clash = sym a ∙ is in cc)
    shown (waits g n i a e) = absurd (let clash = sym a ∙ is in cc)

-- what the coordinator does whose lead looked is a turn case
pub by_case : (b : BoardView) (v : CoordinatorView) (lead after : LeadView) (turns left phase : ℕ) (chosen : List Chosen)
    (sight : CoordSight) (answer : CoordTurn) (w : CoordinatorView)
    → coordinator_of lead turns left phase chosen ≡ v
    → IsSightOf lead.seat sight
    → Surveys lead.seat sight after.seat
    → after ≡ saw_word lead after.seat.word sight
    → ShowsTold b lead.seat.phase sight
    → Acts (coordinator_of after turns left sight.number chosen) sight answer w
    → TurnsAt b v answer w
by_case b v lead after turns left phase chosen sight answer w is shows event saw fresh acts =
    subst (λ (x : CoordinatorView). TurnsAt b x answer w) is (record {
      turn = record {
        word = after.seat.word;
        sight = sight;
        shows = shows;
        event = subst (λ (x : LeadView). Surveys lead.seat sight x.seat) saw event;
        acts =
            subst (λ (x : LeadView). Acts (coordinator_of x turns left sight.number chosen) sight answer w) saw acts;
      };
      fresh = fresh;
    })

-- how many likes make a page hot is the same
release-hot : (c d : CoordSeatView) (v w : ChoiceView) → ReleasesNext c v d w → w.hot ≡ v.hot
release-hot c d v w (releases_joined split is same) = ap (λ (x : ChoiceView). x.hot) same
release-hot c d v w (releases_split even ready (chooses_none none published same) is) =
    ap (λ (x : ChoiceView). x.hot) same
release-hot c d v w (releases_split even ready (chooses_risen least found some many m limit published same) is) =
    ap (λ (x : ChoiceView). x.hot) same

pub coordinator-same : (v : CoordinatorView) → CoordinatorGoesOn v v
coordinator-same v = record { board = refl; opening = refl; turns = refl; hot = refl }

pub coordinator-further : (u v w : CoordinatorView)
    → CoordinatorGoesOn u v
    → CoordinatorGoesOn v w
    → CoordinatorGoesOn u w
coordinator-further u v w a b = record {
  board = b.board ∙ a.board;
  opening = b.opening ∙ a.opening;
  turns = b.turns ∙ a.turns;
  hot = b.hot ∙ a.hot;
}

-- a turn leaves the same coordinator, later
pub coordinator-goes-on : (v : CoordinatorView) (answer : CoordTurn) (after : CoordinatorView)
    → CoordTurns v answer after
    → CoordinatorGoesOn v after
coordinator-goes-on v answer after t = kept t.acts
  where
    kept : Acts (surveyed v t.word t.sight) t.sight answer after → CoordinatorGoesOn v after
    kept (ends g a e) =
        subst (CoordinatorGoesOn v) (sym e) (record { board = refl; opening = refl; turns = refl; hot = refl })
    kept (counts g n l a e) =
        subst (CoordinatorGoesOn v) (sym e) (record { board = refl; opening = refl; turns = refl; hot = refl })
    kept (stays g n l k a e) =
        subst (CoordinatorGoesOn v) (sym e) (record { board = refl; opening = refl; turns = refl; hot = refl })
    kept (announces g n l k a e) =
        subst (CoordinatorGoesOn v) (sym e) (record { board = refl; opening = refl; turns = refl; hot = refl })
    kept (releases g n i seat choice r a e) =
        subst (CoordinatorGoesOn v) (sym e) (record {
          board = refl;
          opening = release-opening _ _ _ _ r;
          turns = refl;
          hot = release-hot _ _ _ _ r;
        })
    kept (waits g n i a e) =
        subst (CoordinatorGoesOn v) (sym e) (record { board = refl; opening = refl; turns = refl; hot = refl })

-- a turn keeps that it chose by its counts
pub chose-on : (v : CoordinatorView) (answer : CoordTurn) (after : CoordinatorView)
    → CoordTurns v answer after
    → ChoseByCounts v
    → ChoseByCounts after
chose-on v answer after t old = kept t.acts
  where
    looked : ChoseByCounts (surveyed v t.word t.sight)
    looked total all = let h = old total all in
        record { masks = h.masks; chosen = h.chosen; sized = h.sized; before = h.before }

    announced : ChoseByCounts
        (record (surveyed v t.word t.sight) { seat = announced_coord (surveyed v t.word t.sight).seat })
    announced total all = let h = old total all in
        record { masks = h.masks; chosen = h.chosen; sized = h.sized; before = h.before }

    kept : Acts (surveyed v t.word t.sight) t.sight answer after → ChoseByCounts after
    kept (ends g a e) = subst ChoseByCounts (sym e) looked
    kept (counts g n l a e) = subst ChoseByCounts (sym e) looked
    kept (stays g n l k a e) = subst ChoseByCounts (sym e) looked
    kept (announces g n l k a e) = subst ChoseByCounts (sym e) announced
    kept (releases g n i seat choice r a e) =
        subst ChoseByCounts (sym e) (release-on (surveyed v t.word t.sight).seat seat v.choice choice r looked)
    kept (waits g n i a e) = subst ChoseByCounts (sym e) looked
