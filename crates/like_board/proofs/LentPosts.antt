-- A post after a step of its seat.
use Rattle.std.proofs.Common.{◌≡◌, ℕ, ◌≤◌, List, [], ◌∷◌, ◌++◌, subst, ap, sym, ◌∙◌, arith}
use Rattle.std.specs.Prelude.{slice_set}
use mathlib.Core.Option.{Option, some}
use lib.ListN.{get_elem?}
use Rattle.atomic_table.proofs.Lists.{set_again}
use Rattle.like_core.specs.declared.page_step.PageStep.{PageStep}
use Rattle.like_core.specs.declared.view.Look.{Look}
use Rattle.like_core.specs.declared.view.View.{View}
use Rattle.like_core.specs.declared.view.View.TheVariants.{Worker}
use Rattle.like_core.specs.declared.view.WorkerSeatView.{WorkerSeatView}
use Rattle.like_board.specs.declared.own_board.OwnBoard.{OwnBoard}
use Rattle.like_board.specs.declared.own_board.lent_post.LentPost.{LentPost}
use Rattle.like_board.specs.declared.own_board.worker_seat.OwnWorkerSeat.{OwnWorkerSeat}
use Rattle.like_board.specs.Known.{worker_view_of}
use Rattle.like_board.specs.Lent.{HasFound, HasLooked, ShowsBy, lent_board}
use Rattle.like_board.specs.Lending.{AreLent}
use Rattle.like_board.specs.LentPost.{lent_numbers}
use Rattle.like_board.specs.Own.{IsPresentCount, Steps, own_place, own_view, own_views}
use Rattle.like_board.proofs.Lending.{board_after, first_after, found_more, found_same, known_after, lent_tells, looked_more, looked_same, set_twice}

-- a worker's seat isn't the first
pub not_first : (s : OwnWorkerSeat) → 1 ≤ own_place s
not_first s = let is = s.placed in omega (arith, is)

module _ (p : LentPost) (board : OwnBoard) (seat : OwnWorkerSeat) (same : own_place seat ≡ own_place p.seat.now)
    (steps : Steps p.board.now board (own_place p.seat.now) (Worker (own_view seat))) where
  abbrev views : List View
  views = own_views p.board.now

  abbrev before : WorkerSeatView
  before = worker_view_of p.before.me.0

  -- what the first seat knows is the same
  first_is : get_elem? (own_views board) 0 ≡ get_elem? views 0
  first_is = first_after views (own_views board) (own_place p.seat.now) (Worker (own_view seat))
      (not_first p.seat.now) steps.views

  -- when they were lent, all seats knew the same
  was_is : slice_set (own_views board) (own_place seat) p.before.me.0
      ≡ slice_set views (own_place p.seat.now) p.before.me.0
  was_is = (λ m. slice_set (steps.views m) (same m) p.before.me.0)
      ∙ set_twice views (own_place p.seat.now) (Worker (own_view seat)) p.before.me.0

  -- they are lent still, if each look has shown the phase and each step at a page found its count
  are_lent : HasLooked (get_elem? (own_views board) 0) before (own_view seat)
      → HasFound (slice_set views (own_place p.seat.now) p.before.me.0) before (own_view seat)
      → AreLent board seat p.before.me.0
  are_lent looked found = record {
    here = ap (get_elem? (own_views board)) same
        ∙ known_after views (own_views board) (own_place p.seat.now) (Worker (own_view p.seat.now))
        (Worker (own_view seat)) p.lent.here steps.views;
    knew = p.lent.knew;
    looked = looked;
    found = subst (λ vs. HasFound vs before (own_view seat)) (sym was_is) found;
  }

  looked_then : (own_view seat).looks ≡ (own_view p.seat.now).looks
      → HasLooked (get_elem? (own_views board) 0) before (own_view seat)
  looked_then looks = looked_same (get_elem? views 0) (get_elem? (own_views board) 0) before
      (own_view p.seat.now) (own_view seat) first_is looks p.lent.looked

  found_still : (own_view seat).did ≡ (own_view p.seat.now).did
      → HasFound (slice_set views (own_place p.seat.now) p.before.me.0) before (own_view seat)
  found_still did = found_same _ before (own_view p.seat.now) (own_view seat) did p.lent.found

  -- after a step that is no look and none at a page
  pub lent_after : (own_view seat).looks ≡ (own_view p.seat.now).looks → (own_view seat).did ≡ (own_view p.seat.now).did
      → AreLent board seat p.before.me.0
  lent_after looks did = are_lent (looked_then looks) (found_still did)

  -- after a look
  pub lent_looked : (look : Look) → (own_view seat).looks ≡ (own_view p.seat.now).looks ++ look ∷ []
      → (own_view seat).did ≡ (own_view p.seat.now).did
      → ShowsBy (get_elem? views 0) look.sight
      → AreLent board seat p.before.me.0
  lent_looked look looks did shows = are_lent (looked_more (get_elem? views 0) (get_elem? (own_views board) 0) before
      (own_view p.seat.now) (own_view seat) look first_is looks shows p.lent.looked) (found_still did)

  -- after a step at a page, which found its count
  pub lent_found : (step : PageStep) → (own_view seat).looks ≡ (own_view p.seat.now).looks
      → (own_view seat).did ≡ step ∷ (own_view p.seat.now).did
      → IsPresentCount views step.page step.found
      → AreLent board seat p.before.me.0
  lent_found step looks did present =
      are_lent (looked_then looks)
      (subst (λ (b : View). HasFound (slice_set views (own_place p.seat.now) b) before (own_view seat)) (sym p.lent.knew)
      (found_more views (own_place p.seat.now) before (own_view p.seat.now) (own_view seat) step (not_first p.seat.now)
      p.lent.here did present
      (subst (λ (b : View). HasFound (slice_set views (own_place p.seat.now) b) before (own_view p.seat.now)) p.lent.knew
      p.lent.found)))

  -- the numbers of its board are the same
  pub numbers_after : p.board.ghost_name ∷ p.seat.ghost_name
      ∷ lent_board (own_views board) (own_place seat) p.before.me.0 ≡ lent_numbers p
  numbers_after = ap (λ ns. p.board.ghost_name ∷ p.seat.ghost_name ∷ ns)
      (ap (λ k. lent_board (own_views board) k p.before.me.0) same
      ∙ board_after views (own_views board) (own_place p.seat.now) (Worker (own_view seat)) p.before.me.0 steps.views)

-- a board and a seat came back, lent when the seat at this place knew this: what all other seats know is the same, each
-- look that it made showed the phase as the coordinator knows it, and each of its steps at a page found its count
pub record CameBack (views : List View) (place : ℕ) (v : WorkerSeatView) (board : OwnBoard) (seat : OwnWorkerSeat)
    : Type 0 where
  pub place_is : own_place seat ≡ place
  pub views_are : own_views board ≡ slice_set views place (Worker (own_view seat))
  pub looked : HasLooked (get_elem? views 0) v (own_view seat)
  pub found : HasFound views v (own_view seat)

-- what was lent comes back
pub comes_back : (p : LentPost) (views : List View) (place : ℕ) (v : WorkerSeatView)
    → get_elem? views place ≡ some (Worker v)
    → lent_board (own_views p.board.now) (own_place p.seat.now) p.before.me.0 ≡ lent_board views place (Worker v)
    → CameBack views place v p.board.now p.seat.now
comes_back p views place v known lent =
    let there = own_view p.seat.now in
    let told = lent_tells views (own_views p.board.now) place (own_place p.seat.now) (Worker v) p.before.me.0
    (Worker there) lent p.lent.here in
    let other = not_first p.seat.now in
    let same = told.0 in
    let first : get_elem? (own_views p.board.now) 0 ≡ get_elem? views 0 =
    first_after views (own_views p.board.now) place (Worker there) (omega (arith, other, same)) told.2 in
    record {
      place_is = told.0;
      views_are = told.2;
      looked = subst (λ (o : Option View). HasLooked o v there) first
          (subst (λ (w : WorkerSeatView). HasLooked (get_elem? (own_views p.board.now) 0) w there)
          (ap worker_view_of told.1) p.lent.looked);
      found = subst (λ vs. HasFound vs v there)
          ((λ m. slice_set (told.2 m) (told.0 m) (told.1 m)) ∙ set_twice views place (Worker there) (Worker v)
          ∙ set_again views place (Worker v) known)
          (subst (λ w. HasFound (slice_set (own_views p.board.now) (own_place p.seat.now) p.before.me.0) w there)
          (ap worker_view_of told.1) p.lent.found);
    }
