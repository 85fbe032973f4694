-- A turn of the coordinator whose look is fresh is one of the model's.
use Rattle.std.proofs.Common.{◌≡◌, ◌<◌, true, false, true≢false, List, subst, sym, ap, ◌∙◌}
use Rattle.like_core.specs.declared.view.CoordSeatView.{CoordSeatView}
use Rattle.like_core.specs.declared.worker_state.WorkerState.TheVariants.{Gone}
use Rattle.like_core.specs.Phase.{last_phase}
use Rattle.like_core.specs.WorkerState.{IsIn}
use Rattle.like_roles.specs.declared.coord_turn.CoordTurn.{CoordTurn}
use Rattle.like_roles.specs.declared.coord_turn.CoordTurn.TheVariants.{Ended}
use Rattle.like_roles.specs.coordinator.CoordTurns as turns
use Rattle.like_roles.specs.coordinator.CoordTurns.{Acts, CoordTurns, CoordinatorView, surveyed}
use Rattle.like_roles.proofs.choice.Choosing.{release-is}
use Rattle.like_ending.specs.Progress.{AllAreGone, WorkerProgress}
use Rattle.like_ending.specs.FreshCoordTurns as fresh
use Rattle.like_ending.specs.FreshCoordTurns.{FreshCoordTurns}
use Rattle.like_crew.specs.Crew.{AreGone}
use Rattle.like_crew.specs.Fresh.{ShowsWorkers}
use Rattle.like_crew.specs.Progress.{progress_of}
use Rattle.like_crew.specs.Server.{ServerView}
use Rattle.like_crew.proofs.Makings.{all-back, all-map}
use Rattle.like_crew.proofs.Progress.{progress_with}

-- whose workers are gone
pub all-gone : (v : CoordinatorView) (servers : List ServerView)
    → AreGone servers
    → AllAreGone (progress_with v servers)
all-gone v servers gone = all-map progress_of (λ (w : WorkerProgress). w.state ≡ Gone) servers gone

pub gone-all : (v : CoordinatorView) (servers : List ServerView)
    → AllAreGone (progress_with v servers)
    → AreGone servers
gone-all v servers gone = all-back progress_of (λ (w : WorkerProgress). w.state ≡ Gone) servers gone

-- a turn that saw all gone answers so
pub ended-told : (v : CoordinatorView) (answer : CoordTurn) (w : CoordinatorView) (t : CoordTurns v answer w)
    → t.sight.all_gone ≡ true
    → answer ≡ Ended
ended-told v answer w t gone = told t.acts where
  told : Acts (surveyed v t.word t.sight) t.sight answer w → answer ≡ Ended
  told (turns.ends g a x) = a
  told (turns.counts g e l a x) = absurd (true≢false (sym gone ∙ g))
  told (turns.stays g e l n a x) = absurd (true≢false (sym gone ∙ g))
  told (turns.announces g e l n a x) = absurd (true≢false (sym gone ∙ g))
  told (turns.releases g e i seat choice r a x) = absurd (true≢false (sym gone ∙ g))
  told (turns.waits g e i a x) = absurd (true≢false (sym gone ∙ g))

pub coordinator-modelled : (v : CoordinatorView) (answer : CoordTurn) (w : CoordinatorView) (servers : List ServerView)
    (t : CoordTurns v answer w)
    → ShowsWorkers v.seat.phase servers t.sight
    → FreshCoordTurns (progress_with v servers) (progress_with w servers)
coordinator-modelled v answer w servers t shows = acts t.acts where
  some : t.sight.all_gone ≡ false → ¬ AllAreGone (progress_with v servers)
  some g gone = true≢false (sym (shows.all_gone.1 (gone-all v servers gone)) ∙ g)

  acts : Acts (surveyed v t.word t.sight) t.sight answer w
      → FreshCoordTurns (progress_with v servers) (progress_with w servers)
  acts (turns.ends g a x) = fresh.ends (all-gone v servers (shows.all_gone.0 g)) (ap (λ y. progress_with y servers) x)
  acts (turns.counts g e l a x) =
      fresh.counts (some g) (sym t.shows.ending ∙ e) l (ap (λ y. progress_with y servers) x)
  acts (turns.stays g e l n a x) =
      fresh.stays (some g) (sym t.shows.ending ∙ e) l (sym t.shows.number ∙ n) (ap (λ y. progress_with y servers) x)
  acts (turns.announces g e l n a x) =
      fresh.announces (some g) (sym t.shows.ending ∙ e) l (subst (λ k. k < last_phase) t.shows.number n)
      (ap (λ y. progress_with y servers) x)
  acts (turns.releases g e i seat choice r a x) =
      let is = (release-is _ _ _ _ r).2 in
      fresh.releases (some g) (sym t.shows.ending ∙ e)
      (all-map progress_of (λ (y : WorkerProgress). IsIn v.seat.phase y.state) servers (shows.all_in.0 i))
      (ap (λ y. progress_with y servers) x
      ∙ ap (λ (s : CoordSeatView). progress_with (record v { seat = s; left = v.turns }) servers) is)
  acts (turns.waits g e i a x) =
      fresh.waits (some g) (sym t.shows.ending ∙ e)
      (λ all. true≢false (sym (shows.all_in.1
      (all-back progress_of (λ (y : WorkerProgress). IsIn v.seat.phase y.state) servers all)) ∙ i))
      (ap (λ y. progress_with y servers) x)
