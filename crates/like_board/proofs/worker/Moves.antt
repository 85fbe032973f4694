-- A step of one worker keeps what the board shows.
use Rattle.std.proofs.Common.{◌≡◌, ◌≢◌, ℕ, ◌+◌, ◌<◌, ◌≤◌, ◌==◌, nat_lt, Bool, true, false, cond, inl, inr, List, [], All, length, take, get_or, set, Option, Some, None, IfSome, subst, ap, sym, ◌∙◌, refl, eq-eqb, arith}
use Rattle.std.specs.List.{sum_by}
use Rattle.std.proofs.Math.ListN.{length-set}
use Rattle.std.proofs.lemmas.List.{get_or-set_same, get_or-set_other}
use Rattle.std.proofs.lemmas.Bool.{cases_eq, cases_lt, le-ltb, lt-ltb, cond-true, cond-false}
use mathlib.Core.Option.{some, some-injective}
use lib.ListN.{get_elem?}
use Rattle.atomic_table.proofs.Lists.{at_set, set_else, set_here}
use Rattle.like_limits.specs.Limits.{hot_pages}
use Rattle.like_core.specs.declared.worker_state.WorkerState.{WorkerState}
use Rattle.like_core.specs.declared.worker_state.WorkerState.TheVariants.{Gone}
use Rattle.like_core.specs.declared.sight.CoordSight.{CoordSight}
use Rattle.like_core.specs.declared.opening.Opening.{Opening}
use Rattle.like_core.specs.declared.view.WorkerSeatView.{WorkerSeatView}
use Rattle.like_core.specs.declared.view.CoordSeatView.{CoordSeatView}
use Rattle.like_core.specs.declared.view.View.{View}
use Rattle.like_core.specs.declared.view.View.TheVariants.{Coord, Worker, Spent}
use Rattle.like_core.specs.Phase.{IsSplit}
use Rattle.like_core.specs.WorkerState.{IsIn}
use Rattle.like_core.specs.core.Numbers.{AllIn, CoordSees}
use Rattle.like_core.specs.core.State.{CoreState, numbers}
use Rattle.like_core.specs.core.Moves.{NoneReturns}
use Rattle.like_core.specs.word.ShownWord.{shown_word}
use Rattle.like_core.specs.Additions.{added_before}
use Rattle.like_core.specs.views.Views.{seats_of}
use Rattle.like_core.specs.views.Reads.{IsCounted}
use Rattle.like_core.specs.views.Posts.{posts_before, posts_of}
use Rattle.like_core.specs.views.Layout.{mask_place, slot_place, word_of}
use Rattle.like_core.specs.views.Shows.{IsKnown, Shows, ShowsSome, Moment, Fits, FitsWorker, FitsCoord, FixesMask, IsChosen, mask_in}
use Rattle.like_core.specs.views.Serves.{moved}
use Rattle.like_core.proofs.Updates.{update-same, update-other}
use Rattle.like_core.proofs.core.Staying.{moved_same}
use Rattle.like_core.proofs.views.KeptCounts.{counted_same}
use Rattle.like_core.proofs.views.Apart.{word_of-past}
use Rattle.like_core.proofs.views.Chosen.{KeepsChoice, mask_in-kept, chosen-kept}
use Rattle.like_core.proofs.views.ViewLists.{joined_other, within, sum_part, sum_two, sum_set, worker_other}
use Rattle.like_core.specs.PageSteps.{additions_among}

-- a word that is no slot's and not the mask's leaves the choice
pub keeps_elsewhere : (words : List ℕ) (place word : ℕ)
    → ((slot : ℕ) → slot < hot_pages → slot_place slot ≢ place)
    → mask_place ≢ place
    → KeepsChoice words (set words place word)
keeps_elsewhere words place word no_slot no_mask = record {
  slots = λ slot below. get_or-set_other words place (slot_place slot) word 0 (no_slot slot below);
  mask = get_or-set_other words place mask_place word 0 no_mask;
}

-- the moment at which words and views show some state
abbrev pub moment_of : (z : Opening) (words : List ℕ) (views : List View) → ShowsSome z words views → Moment z
moment_of z words views some_state = record { words = words; views = views; shown = some_state }

-- the opening in a worker's view is the board's
pub worker_opens : (z : Opening) (words : List ℕ) (views : List View) (place : ℕ) (v : WorkerSeatView)
    → ShowsSome z words views
    → get_elem? views place ≡ some (Worker v)
    → v.opening ≡ z
worker_opens z words views place v some_state at =
    let fits : FitsWorker z some_state.state v = some_state.shows.seats.each place (Worker v) at in fits.opening

-- and so is that in the coordinator's
pub coord_opens : (z : Opening) (words : List ℕ) (views : List View) (place : ℕ) (c : CoordSeatView)
    → ShowsSome z words views
    → get_elem? views place ≡ some (Coord c)
    → c.opening ≡ z
coord_opens z words views place c some_state at =
    let fits : FitsCoord z some_state.state c = some_state.shows.seats.each place (Coord c) at in fits.seats.opening

-- after a step of a seat at its place, its new view is known
pub known_of : (z : Opening) (words : List ℕ) (views : List View) (place : ℕ) (v w : View)
    → get_elem? views place ≡ some v
    → ShowsSome z words (set views place w)
    → IsKnown z w
known_of z words views place v w at some_state = record {
  moment = moment_of z words (set views place w) some_state;
  place = place;
  mine = set_here views place w (within views place v at);
}

-- what holds of the value of an option may be exchanged for what follows from it
pub if_some : {A : Type 0} (o : Option A) (P Q : A → Type 0) → ((a : A) → P a → Q a) → IfSome o P → IfSome o Q
if_some None P Q f h = tt
if_some (Some a) P Q f h = f a h

-- a view of another worker keeps fitting while a worker moves
fits_worker_moved : (z : Opening) (s : CoreState) (i : ℕ) (state : WorkerState) (v : WorkerSeatView)
    → v.worker ≢ i
    → FitsWorker z s v
    → FitsWorker z (moved s i state) v
fits_worker_moved z s i state v other f = record {
  opening = f.opening;
  there = f.there;
  state = update-other s.state i state v.worker other ∙ f.state;
  number = f.number;
  ending = f.ending;
  masks = f.masks;
  slots = f.slots;
}

-- the coordinator's view keeps fitting while a worker moves
fits_coord_moved : (z : Opening) (s : CoreState) (c : CoordSeatView) (i : ℕ) (state : WorkerState)
    → i < z.workers
    → i < c.made
    → seats_of i (Coord c) ≡ 0
    → (NoneReturns z s → IsIn s.phase (s.state i) → state ≡ s.state i)
    → (IsSplit s.phase → state ≡ Gone → s.state i ≡ Gone)
    → FitsCoord z s c
    → FitsCoord z (moved s i state) c
fits_coord_moved z s c i state there has_seat none stays gone f =
    let t : CoreState = moved s i state in
    let same : NoneReturns z s → AllIn (numbers z s) → t ≡ s =
    λ none all. moved_same s i state (stays none (all i there)) in
    let P : CoreState → Type 0 = λ u. AllIn (numbers z u) × NoneReturns z u in
    let R : CoreState → Type 0 = λ u. AllIn (numbers z u) × (u.ending ≡ true) in
    record {
      seats = record {
        opening = f.seats.opening;
        made = f.seats.made;
        unmade = λ j past below.
            update-other s.state i state j (λ eq. absurd (omega arith)) ∙ f.seats.unmade j past below;
        joined = λ place v at.
            fits_worker_moved z s i state v (joined_other c i place v none at) (f.seats.joined place v at);
      };
      phase = record {
        present = f.phase.present;
        ending = f.phase.ending;
        last = f.phase.last;
        stays = if_some c.last
            (λ (sight : CoordSight). sight.ending ≡ true → sight.all_in ≡ true
            → CoordSees (numbers z s) sight × (c.word ≡ shown_word z s))
            (λ (sight : CoordSight). sight.ending ≡ true → sight.all_in ≡ true
            → CoordSees (numbers z t) sight × (c.word ≡ shown_word z t))
            (λ sight before ending all_in.
            let now = before ending all_in in
            let Q : CoreState → Type 0 = λ u. CoordSees (numbers z u) sight × (c.word ≡ shown_word z u) in
            subst Q (sym (same (λ _. sym now.0.ending ∙ ending) (now.0.all_in.0 all_in))) now)
            f.phase.stays;
        all_in = λ is. let all = f.phase.all_in is in subst P (sym (same all.1 all.0)) all;
        gone = λ split all.
            f.phase.gone split
            (λ j below. elim (cases_eq j i) [
              | inl here ↦
                  let now : state ≡ Gone = sym (update-same s.state i state) ∙ all i there in
                  ap s.state here ∙ gone split now
              | inr other ↦ sym (update-other s.state i state j other) ∙ all j below
            ]);
      };
      choice = record {
        counted = λ k d inside.
            let before = f.choice.counted k d inside in (
              before.0,
              λ now. let all = before.1 now in subst R (sym (same (λ _. all.1) all.0)) all,
            );
        published = f.choice.published;
        masks = f.choice.masks;
      };
    }

-- another seat's view keeps fitting while a worker moves
fits_other : (z : Opening) (s : CoreState) (i : ℕ) (state : WorkerState)
    → i < z.workers
    → (NoneReturns z s → IsIn s.phase (s.state i) → state ≡ s.state i)
    → (IsSplit s.phase → state ≡ Gone → s.state i ≡ Gone)
    → (u : View)
    → seats_of i u ≡ 0
    → ((c : CoordSeatView) → u ≡ Coord c → i < c.made)
    → Fits z s u
    → Fits z (moved s i state) u
fits_other z s i state there stays gone (Coord c) none has_seat f =
    fits_coord_moved z s c i state there (has_seat c refl) none stays gone f
fits_other z s i state there stays gone (Worker v) none has_seat f =
    fits_worker_moved z s i state v (worker_other i v none) f
fits_other z s i state there stays gone Spent none has_seat f = tt

-- a test that says no counts nothing
pub counts_none : (b : Bool) → b ≡ false → ◌≡◌ {A = ℕ} (cond b 1 0) 0
counts_none b is = cond-false b 1 0 is

-- a test that says yes counts one
pub counts_one : (b : Bool) → b ≡ true → ◌≡◌ {A = ℕ} (cond b 1 0) 1
counts_one b is = cond-true b 1 0 is

-- a worker that has a seat is among those for which one was made
pub has_seat : (z : Opening) (s : CoreState) (words : List ℕ) (views : List View) (place : ℕ) (v : WorkerSeatView)
    → (sh : Shows z s words views)
    → get_elem? views place ≡ some (Worker v)
    → v.worker < sh.coord.made
has_seat z s words views place v sh at =
    let part = sum_part (seats_of v.worker) views place (Worker v) at in
    let one : seats_of v.worker (Worker v) ≡ 1 = cond-true (v.worker == v.worker) 1 0 (eq-eqb v.worker v.worker refl) in
    let once = sh.seats.once v.worker in
    elim (cases_lt v.worker sh.coord.made) [
      | inl less ↦ less
      | inr past ↦
          let none = counts_none (nat_lt v.worker sh.coord.made) (le-ltb v.worker sh.coord.made past) in
          absurd (omega arith)
    ]

-- and has no other
pub one_seat : (z : Opening) (s : CoreState) (words : List ℕ) (views : List View) (place : ℕ) (v : WorkerSeatView)
    → (sh : Shows z s words views)
    → get_elem? views place ≡ some (Worker v)
    → sum_by (seats_of v.worker) views ≡ 1
one_seat z s words views place v sh at =
    let seated = has_seat z s words views place v sh at in
    sh.seats.once v.worker
    ∙ counts_one (nat_lt v.worker sh.coord.made) (lt-ltb v.worker sh.coord.made seated)

-- no more than one seat has a worker's number
pub once_at_most : (b : Bool) → cond b 1 0 ≤ 1
once_at_most true = omega arith
once_at_most false = omega arith

-- the one coordinator's view
pub same_coord : (z : Opening) (s : CoreState) (words : List ℕ) (views : List View) (place : ℕ) (c : CoordSeatView)
    → (sh : Shows z s words views)
    → get_elem? views place ≡ some (Coord c)
    → (place ≡ 0) × (sh.coord ≡ c)
same_coord z s words views place c sh at =
    let zeroth = sh.seats.only place c at in
    let here : get_elem? views 0 ≡ some (Coord c) = ap (get_elem? views) (sym zeroth) ∙ at in
    let same : some (Coord sh.coord) ≡ some (Coord c) = sym sh.seats.first ∙ here in
    let inner : Coord sh.coord ≡ Coord c = some-injective (Coord sh.coord) (Coord c) same in
    (zeroth, cc)

-- the worker whose seat is made next has none
pub no_seat : (z : Opening) (s : CoreState) (words : List ℕ) (views : List View) (place : ℕ) (c : CoordSeatView)
    → (sh : Shows z s words views)
    → get_elem? views place ≡ some (Coord c)
    → sum_by (seats_of c.made) views ≡ 0
no_seat z s words views place c sh at =
    let made = ap (λ (d : CoordSeatView). d.made) (same_coord z s words views place c sh at).1 in
    sh.seats.once c.made ∙ counts_none (nat_lt c.made sh.coord.made) (le-ltb c.made sh.coord.made (omega arith))

-- equal views are views of one worker
pub worker-injective : (v w : WorkerSeatView) → Worker v ≡ Worker w → v ≡ w
worker-injective v w same = cc

-- after a worker's step, with a new view of its own that fits, the words and the views show the state after, where the
-- words do and each view fits it that is no seat of the worker's
pub worker_steps : (z : Opening) (s t : CoreState) (words later : List ℕ) (views : List View) (place : ℕ)
    (v w : WorkerSeatView)
    → (sh : Shows z s words views)
    → get_elem? views place ≡ some (Worker v)
    → w.worker ≡ v.worker
    → length later ≡ length words
    → get_or later 0 0 ≡ shown_word z t
    → ((page : ℕ) → page < length z.counts
    → get_or later (word_of page) 0 ≡ get_or z.counts page 0 + length (t.applied page))
    → KeepsChoice words later
    → (FixesMask t.phase t.ending → mask_in z words ≡ t.hot t.phase)
    → (FixesMask t.phase t.ending → IsChosen z words)
    → ((i : ℕ) → t.unmerged i ≡ [])
    → FitsWorker z t w
    → w.slots ≡ take (length w.slots) sh.coord.slots
    → ((u : View) → seats_of v.worker u ≡ 0 → ((c : CoordSeatView) → u ≡ Coord c → v.worker < c.made) → Fits z s u
    → Fits z t u)
    → All (IsCounted z.counts (posts_before (posts_of (set views place (Worker w))))) sh.coord.counted
    → Shows z t later (set views place (Worker w))
worker_steps z s t words later views place v w sh at number width word pages keeps mask chosen merged fits slots others
    counted =
    let seated = has_seat z s words views place v sh at in
    let not_first : place ≢ 0 = λ zeroth.
    let here : get_elem? views 0 ≡ some (Worker v) = ap (get_elem? views) (sym zeroth) ∙ at in
    let same : some (Coord sh.coord) ≡ some (Worker v) = sym sh.seats.first ∙ here in
    let inner : Coord sh.coord ≡ Worker v = some-injective (Coord sh.coord) (Worker v) same in
    cc
    in
    record {
      opening = sh.opening;
      merged = merged;
      coord = sh.coord;
      published = if_some sh.coord.published
          (λ mask. mask_in z words ≡ mask)
          (λ mask. mask_in z later ≡ mask)
          (λ mask is. mask_in-kept z words later keeps ∙ is)
          sh.published;
      chosen = λ some_mask. chosen-kept z words later keeps (sh.chosen some_mask);
      slots = λ slot below. keeps.slots slot below ∙ sh.slots slot below;
      all_slots = sh.all_slots;
      slots_fit = sh.slots_fit;
      board = record {
        width = width ∙ sh.board.width;
        phase = word;
        pages = pages;
        mask = λ fixed. mask_in-kept z words later keeps ∙ mask fixed;
        chosen = λ fixed. chosen-kept z words later keeps (chosen fixed);
      };
      seats = record {
        first = set_else views place 0 (Worker w) (λ eq. not_first (sym eq)) ∙ sh.seats.first;
        only = λ j c found. elim (at_set views place j (Worker w) (Coord c) found) [
          | inl here ↦ let clash = here.1 in absurd (cc)
          | inr there ↦ sh.seats.only j c there.1
        ];
        each = λ j u found. elim (at_set views place j (Worker w) u found) [
          | inl here ↦ subst (Fits z t) here.1 fits
          | inr there ↦
              let two = sum_two (seats_of v.worker) views place j (Worker v) u (λ eq. there.0 (sym eq)) at there.1 in
              let once = sh.seats.once v.worker in
              let most = once_at_most (nat_lt v.worker sh.coord.made) in
              let one : seats_of v.worker (Worker v) ≡ 1 =
              cond-true (v.worker == v.worker) 1 0 (eq-eqb v.worker v.worker refl) in
              others u (omega arith)
              (λ c is. subst (λ (d : CoordSeatView). v.worker < d.made)
              (same_coord z s words views j c sh (there.1 ∙ ap some is)).1 seated)
              (sh.seats.each j u there.1)
        ];
        once = λ i.
            sum_set (seats_of i) views place (Worker v) (Worker w) at (ap (λ k. cond (k == i) 1 0) number) ∙
            sh.seats.once i;
        slots = λ j u found. elim (at_set views place j (Worker w) (Worker u) found) [
          | inl here ↦
              subst (λ (x : WorkerSeatView). x.slots ≡ take (length x.slots) sh.coord.slots)
              (worker-injective w u here.1) slots
          | inr there ↦ sh.seats.slots j u there.1
        ];
      };
      counted = counted;
    }

-- after worker i moved, with a new view of its own that fits and has the same additions and reads, the words and the
-- views show the state after
pub worker_moves : (z : Opening) (s : CoreState) (words : List ℕ) (views : List View) (place : ℕ) (v w : WorkerSeatView)
    (state : WorkerState) (word : ℕ)
    → (sh : Shows z s words views)
    → get_elem? views place ≡ some (Worker v)
    → w ≡ record v { state = w.state; last = w.last; looks = w.looks; logged = w.logged; slots = w.slots }
    → word ≡ shown_word z (moved s v.worker state)
    → FitsWorker z (moved s v.worker state) w
    → w.slots ≡ take (length w.slots) sh.coord.slots
    → (NoneReturns z s → IsIn s.phase (s.state v.worker) → state ≡ s.state v.worker)
    → (IsSplit s.phase → state ≡ Gone → s.state v.worker ≡ Gone)
    → Shows z (moved s v.worker state) (set words 0 word) (set views place (Worker w))
worker_moves z s words views place v w state word sh at rest word_is fits slots stays gone =
    let wide = sh.board.width in
    let past = word_of-past (length z.counts) in
    let old : FitsWorker z s v = sh.seats.each place (Worker v) at in
    worker_steps z s (moved s v.worker state) words (set words 0 word) views place v w sh at
    (ap (λ (x : WorkerSeatView). x.worker) rest)
    (length-set words 0 word)
    (get_or-set_same words 0 word 0 (omega arith) ∙ word_is)
    (λ page below. get_or-set_other words 0 (word_of page) word 0
    (λ eq. let far = word_of-past page in absurd (omega arith)) ∙ sh.board.pages page below)
    (keeps_elsewhere words 0 word (λ slot below eq. absurd (omega arith)) (λ eq. absurd (omega arith)))
    sh.board.mask
    sh.board.chosen
    sh.merged
    fits
    slots
    (λ u none seat f. fits_other z s v.worker state old.there stays gone u none seat f)
    (counted_same z.counts views place (Worker v) (Worker w) sh.coord.counted at
    (λ k p. ap (λ (x : WorkerSeatView). added_before k p (additions_among x.did)) rest)
    sh.counted)
