-- A step on a page's word keeps what the board shows.
use Rattle.std.proofs.Common.{◌≡◌, ◌≢◌, ℕ, ◌+◌, ◌<◌, ◌≤◌, true, inl, inr, List, [], All, length, take, get_or, set, subst, ap, sym, ◌∙◌, arith}
use Rattle.std.proofs.Math.ListN.{length-set}
use Rattle.std.proofs.lemmas.List.{get_or-set_same, get_or-set_other}
use Rattle.std.proofs.lemmas.Bool.{cases_eq}
use mathlib.Core.Option.{some}
use lib.ListN.{get_elem?}
use Rattle.like_core.specs.declared.sight.CoordSight.{CoordSight}
use Rattle.like_core.specs.declared.opening.Opening.{Opening}
use Rattle.like_core.specs.declared.view.WorkerSeatView.{WorkerSeatView}
use Rattle.like_core.specs.declared.view.View.{View}
use Rattle.like_core.specs.declared.view.View.TheVariants.{Coord, Worker, Spent}
use Rattle.like_core.specs.core.Numbers.{CoordSees}
use Rattle.like_core.specs.Phase.{is_marked, split_by}
use Rattle.like_core.specs.WorkerState.{phase_of}
use Rattle.like_core.specs.Post.{is_split_at, KnowsSplit}
use Rattle.like_core.specs.core.State.{CoreState, Label, is_split_now, numbers}
use Rattle.like_core.specs.word.ShownWord.{shown_word}
use Rattle.like_core.specs.views.Reads.{IsCounted}
use Rattle.like_core.specs.views.Posts.{posts_before, posts_of}
use Rattle.like_core.specs.views.Layout.{word_of}
use Rattle.like_core.specs.views.Shows.{Shows, Fits, FitsWorker}
use Rattle.like_core.proofs.PhaseMasks.{split-known}
use Rattle.like_core.proofs.views.Apart.{word_of-past, word_of-order, word_of-injective}
use Rattle.like_board.proofs.worker.Moves.{if_some, keeps_elsewhere, worker_steps}

-- what the post knows of slices is what is split in the state
pub split_alike : (z : Opening) (s : CoreState) (v : WorkerSeatView) (page : ℕ)
    → FitsWorker z s v
    → phase_of v.state ≡ s.phase
    → KnowsSplit v page
    → is_split_now z s page ≡ is_split_at v page
split_alike z s v page f present knows =
    sym (λ m. split_by (f.opening m).limits.hot (is_marked (f.opening m).marks) s.hot (present m) page) ∙
    split-known v.opening.limits.hot (is_marked v.opening.marks) s.hot v.masks (phase_of v.state) page
    (λ i d inside. (f.masks i d inside).1) knows

-- the state with these unmerged and applied likes
abbrev pub with_likes : CoreState → (ℕ → List ℕ) → (ℕ → List Label) → CoreState
with_likes s unmerged applied = record s { unmerged = unmerged; applied = applied }

-- other likes change nothing that a worker's view tells
pub fits_likes : (z : Opening) (s : CoreState) (unmerged : ℕ → List ℕ) (applied : ℕ → List Label) (v : WorkerSeatView)
    → FitsWorker z s v
    → FitsWorker z (with_likes s unmerged applied) v
fits_likes z s unmerged applied v f = record {
  opening = f.opening;
  there = f.there;
  state = f.state;
  number = f.number;
  ending = f.ending;
  masks = f.masks;
  slots = f.slots;
}

-- nor what any view tells
fits_view : (z : Opening) (s : CoreState) (unmerged : ℕ → List ℕ) (applied : ℕ → List Label) (u : View)
    → Fits z s u
    → Fits z (with_likes s unmerged applied) u
fits_view z s unmerged applied (Coord c) f =
    let t : CoreState = with_likes s unmerged applied in
    record {
      seats = record {
        opening = f.seats.opening;
        made = f.seats.made;
        unmade = f.seats.unmade;
        joined = λ place v at. fits_likes z s unmerged applied v (f.seats.joined place v at);
      };
      phase = record {
        present = f.phase.present;
        ending = f.phase.ending;
        last = f.phase.last;
        stays = if_some c.last
            (λ (sight : CoordSight). sight.ending ≡ true → sight.all_in ≡ true
            → CoordSees (numbers z s) sight × (c.word ≡ shown_word z s))
            (λ (sight : CoordSight). sight.ending ≡ true → sight.all_in ≡ true
            → CoordSees (numbers z t) sight × (c.word ≡ shown_word z t))
            (λ sight before ending all_in.
            let now = before ending all_in in (
              record { number = now.0.number; ending = now.0.ending; all_in = now.0.all_in; all_gone = now.0.all_gone },
              now.1,
            ))
            f.phase.stays;
        all_in = f.phase.all_in;
        gone = f.phase.gone;
      };
      choice = record {
        counted = f.choice.counted;
        published = f.choice.published;
        masks = f.choice.masks;
      };
    }
fits_view z s unmerged applied (Worker v) f = fits_likes z s unmerged applied v f
fits_view z s unmerged applied Spent f = tt

-- after a step on a page's word, with a new view of its own that fits, the words and the views show the state after
pub page_steps : (z : Opening) (s : CoreState) (unmerged : ℕ → List ℕ) (applied : ℕ → List Label) (words : List ℕ)
    (views : List View) (place : ℕ) (v w : WorkerSeatView) (page word : ℕ)
    → (sh : Shows z s words views)
    → get_elem? views place ≡ some (Worker v)
    → w.worker ≡ v.worker
    → w.slots ≡ v.slots
    → page < length z.counts
    → word ≡ get_or z.counts page 0 + length (applied page)
    → ((q : ℕ) → q ≢ page → length (applied q) ≡ length (s.applied q))
    → ((j : ℕ) → unmerged j ≡ [])
    → FitsWorker z (with_likes s unmerged applied) w
    → All (IsCounted z.counts (posts_before (posts_of (set views place (Worker w))))) sh.coord.counted
    → Shows z (with_likes s unmerged applied) (set words (word_of page) word) (set views place (Worker w))
page_steps z s unmerged applied words views place v w page word sh at number same_slots on word_is others merged
    fits counted =
    let wide = sh.board.width in
    let past : 96 ≤ word_of page = word_of-past page in
    let inside = word_of-order page (length z.counts) on in
    let t : CoreState = with_likes s unmerged applied in
    let later : List ℕ = set words (word_of page) word in
    let pages : (q : ℕ) → q < length z.counts → get_or later (word_of q) 0 ≡ get_or z.counts q 0 + length (applied q) =
    λ q below.
    elim (cases_eq q page) [
      | inl same ↦ rw same (get_or-set_same words (word_of page) word 0 (omega arith) ∙ word_is)
      | inr other ↦
          get_or-set_other words (word_of page) (word_of q) word 0 (λ eq. other (word_of-injective q page eq)) ∙
          (sh.board.pages q below ∙ ap (λ (n : ℕ). get_or z.counts q 0 + n) (sym (others q other)))
    ]
    in
    worker_steps z s t words later views place v w sh at number
    (length-set words (word_of page) word)
    (get_or-set_other words (word_of page) 0 word 0 (λ eq. absurd (omega arith)) ∙ sh.board.phase)
    pages
    (keeps_elsewhere words (word_of page) word (λ slot below eq. absurd (omega arith)) (λ eq. absurd (omega arith)))
    sh.board.mask
    sh.board.chosen
    merged
    fits
    (subst (λ (l : List ℕ). l ≡ take (length l) sh.coord.slots) (sym same_slots) (sh.seats.slots place v at))
    (λ u none seat f. fits_view z s unmerged applied u f)
    counted
