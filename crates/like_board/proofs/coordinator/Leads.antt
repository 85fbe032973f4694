-- A step of the coordinator keeps what the board shows.
use Rattle.std.proofs.Common.{◌≡◌, ◌≢◌, ℕ, ◌+◌, ◌^◌, ◌<◌, ◌≤◌, ◌==◌, nat_lt, Bool, cond, inl, inr, List, [], ◌∷◌, ◌++◌, All, None, IfSome, IsSome, length, take, get_or, slice_index, set, count_by, subst, ap, sym, ◌∙◌, refl, eq-eqb, arith}
use Rattle.std.proofs.Math.ListN.{length-set}
use Rattle.std.proofs.lemmas.List.{get_or-set_same, get_or-set_other}
use Rattle.std.specs.List.{sum_by}
use Rattle.std.proofs.lemmas.List.Elements.{All-nil}
use Rattle.std.proofs.lemmas.List.Sums.{sum_by_push}
use Rattle.std.proofs.lemmas.Bool.{cases_eq, cases_lt, le-ltb, lt-ltb, ne_eqb}
use mathlib.Core.Option.{some}
use lib.ListN.{get_elem?}
use Rattle.atomic_table.proofs.Lists.{at_set, at_snoc, at_longer, set_here}
use Rattle.like_limits.specs.Limits.{hot_pages}
use Rattle.like_core.specs.declared.opening.Opening.{Opening}
use Rattle.like_core.specs.declared.view.PhaseMask.{PhaseMask}
use Rattle.like_core.specs.declared.view.WorkerSeatView.{WorkerSeatView}
use Rattle.like_core.specs.declared.view.CoordSeatView.{CoordSeatView}
use Rattle.like_core.specs.declared.view.View.{View}
use Rattle.like_core.specs.declared.view.View.TheVariants.{Coord, Worker, Spent}
use Rattle.like_core.specs.core.State.{CoreState}
use Rattle.like_core.specs.word.ShownWord.{shown_word}
use Rattle.like_core.specs.Additions.{added_before}
use Rattle.like_core.specs.views.Views.{made_coord, seats_of}
use Rattle.like_core.specs.views.Reads.{IsCounted}
use Rattle.like_core.specs.views.Posts.{posts_before, posts_of}
use Rattle.like_core.proofs.views.ViewSums.{before_in, before_posts}
use Rattle.like_core.specs.views.Layout.{slot_in, word_of}
use Rattle.like_core.specs.views.Shows.{Shows, Fits, FitsWorker, FitsCoord, FixesMask, IsChosen, mask_in}
use Rattle.like_core.proofs.views.Apart.{word_of-past}
use Rattle.like_core.proofs.views.Chosen.{KeepsChoice, mask_in-kept, chosen-kept}
use Rattle.like_core.proofs.views.ViewLists.{within, sum_set}
use Rattle.like_core.proofs.views.KeptCounts.{counted_on, counted_same}
use Rattle.like_core.specs.PageSteps.{additions_among}
use Rattle.like_core.specs.Post.{fresh}
use Rattle.like_board.proofs.worker.Moves.{if_some, same_coord, counts_none, counts_one, keeps_elsewhere, worker-injective}
use Rattle.like_board.proofs.coordinator.Fitting.{same_phase, same_choice}

-- the state in another phase, where these are the masks of phases
abbrev pub phased : CoreState → ℕ → Bool → (ℕ → ℕ) → CoreState
phased s phase ending hot = record s { phase = phase; ending = ending; hot = hot }

-- what the words and the views show of the choice of hot pages, where the coordinator's view is this
pub record ShowsChoice (z : Opening) (words : List ℕ) (views : List View) (c : CoordSeatView) : Type 0 where
  pub published : IfSome c.published (λ mask. mask_in z words ≡ mask)
  pub chosen : IsSome c.published → IsChosen z words
  pub slots : (slot : ℕ) → slot < hot_pages → slot_in words slot ≡ slice_index c.slots slot
  pub all_slots : length c.slots ≡ hot_pages
  pub slots_fit : All (λ page. page < 2 ^ 32) c.slots
  pub read : (j : ℕ) (v : WorkerSeatView) → get_elem? views j ≡ some (Worker v)
      → v.slots ≡ take (length v.slots) c.slots

-- what the words and the views show of what the coordinator chose and counted
pub of_coord : (z : Opening) (s : CoreState) (words : List ℕ) (views : List View) (place : ℕ) (c : CoordSeatView)
    → Shows z s words views
    → get_elem? views place ≡ some (Coord c)
    → ShowsChoice z words views c × All (IsCounted z.counts (posts_before (posts_of views))) c.counted
of_coord z s words views place c sh at =
    let is = same_coord z s words views place c sh at in
    let own : ShowsChoice z words views sh.coord =
    record {
      published = sh.published;
      chosen = sh.chosen;
      slots = sh.slots;
      all_slots = sh.all_slots;
      slots_fit = sh.slots_fit;
      read = sh.seats.slots;
    }
    in (
      subst (ShowsChoice z words views) is.1 own,
      subst (λ (e : CoordSeatView). All (IsCounted z.counts (posts_before (posts_of views))) e.counted) is.1 sh.counted,
    )

-- the same of words that keep the choice, and of a view that does
pub choice_kept : (z : Opening) (words later : List ℕ) (views : List View) (c d : CoordSeatView)
    → KeepsChoice words later
    → d ≡ record d { published = c.published; slots = c.slots }
    → ShowsChoice z words views c
    → ShowsChoice z later views d
choice_kept z words later views c d keeps same old =
    subst (ShowsChoice z later views) (sym same) (record {
      published = if_some c.published (λ mask. mask_in z words ≡ mask) (λ mask. mask_in z later ≡ mask)
          (λ mask is. mask_in-kept z words later keeps ∙ is) old.published;
      chosen = λ some_mask. chosen-kept z words later keeps (old.chosen some_mask);
      slots = λ slot below. keeps.slots slot below ∙ old.slots slot below;
      all_slots = old.all_slots;
      slots_fit = old.slots_fit;
      read = old.read;
    })

-- the same words, and a view that has the same choice
pub choice_same : (z : Opening) (words : List ℕ) (views : List View) (c d : CoordSeatView)
    → d ≡ record d { published = c.published; slots = c.slots }
    → ShowsChoice z words views c
    → ShowsChoice z words views d
choice_same z words views c d same old =
    choice_kept z words words views c d (record { slots = λ slot below. refl; mask = refl }) same old

-- and a view that forgot what it published
pub choice_forgot : (z : Opening) (words : List ℕ) (views : List View) (c d : CoordSeatView)
    → d ≡ record d { published = None; slots = c.slots }
    → ShowsChoice z words views c
    → ShowsChoice z words views d
choice_forgot z words views c d same old =
    subst (ShowsChoice z words views) (sym same) (record {
      published = tt;
      chosen = λ some_mask. absurd (cc);
      slots = old.slots;
      all_slots = old.all_slots;
      slots_fit = old.slots_fit;
      read = old.read;
    })

-- after the coordinator led to this phase and wrote words, the words and the views show the state after, if the
-- words are right, its own new view fits, and all workers' views still fit
pub leads : (z : Opening) (s : CoreState) (words : List ℕ) (views : List View) (place : ℕ) (c d : CoordSeatView)
    (phase : ℕ) (ending : Bool) (hot : ℕ → ℕ) (later : List ℕ)
    → Shows z s words views
    → get_elem? views place ≡ some (Coord c)
    → d.made ≡ c.made
    → d.joined ≡ c.joined
    → s.phase ≤ phase
    → length later ≡ length words
    → get_or later 0 0 ≡ shown_word z (phased s phase ending hot)
    → ((page : ℕ) → page < length z.counts
    → get_or later (word_of page) 0 ≡ get_or words (word_of page) 0)
    → (FixesMask phase ending → mask_in z later ≡ hot phase)
    → (FixesMask phase ending → IsChosen z later)
    → ShowsChoice z later views d
    → All (IsCounted z.counts (posts_before (posts_of views))) d.counted
    → FitsCoord z (phased s phase ending hot) d
    → ((v : WorkerSeatView) → FitsWorker z s v → FitsWorker z (phased s phase ending hot) v)
    → Shows z (phased s phase ending hot) later (set views place (Coord d))
leads z s words views place c d phase ending hot later sh at made joined on width word_is pages_are mask_is
    chosen_is choice counted_are fits workers =
    let t : CoreState = phased s phase ending hot in
    let is = same_coord z s words views place c sh at in
    let same_additions : (k p : ℕ) → before_in k p (Coord d) ≡ before_in k p (Coord c) =
    λ k p. ap (sum_by (λ (v : WorkerSeatView). added_before k p (additions_among v.did))) joined
    in
    let others : (j : ℕ) (u : View) → j ≢ place → get_elem? views j ≡ some u → Fits z s u → Fits z t u =
    λ j u other found f.
    let P : View → Type 0 = λ x. ((e : CoordSeatView) → x ≡ Coord e → ⊥) → Fits z s x → Fits z t x in
    let by_view : P u =
    elim u as P [
      | Coord e ↦ λ no_coord _. absurd (no_coord e refl)
      | Worker v ↦ λ _ g. workers v g
      | Spent ↦ λ _ _. tt
    ]
    in
    by_view (λ e same. other (sh.seats.only j e (found ∙ ap some same) ∙ sym is.0)) f
    in
    record {
      opening = sh.opening;
      merged = sh.merged;
      coord = d;
      published = choice.published;
      chosen = choice.chosen;
      slots = choice.slots;
      all_slots = choice.all_slots;
      slots_fit = choice.slots_fit;
      board = record {
        width = width ∙ sh.board.width;
        phase = word_is;
        pages = λ page below. pages_are page below ∙ sh.board.pages page below;
        mask = mask_is;
        chosen = chosen_is;
      };
      seats = record {
        first = ap (get_elem? (set views place (Coord d))) (sym is.0)
            ∙ set_here views place (Coord d) (within views place (Coord c) at);
        only = λ j e found. elim (at_set views place j (Coord d) (Coord e) found) [
          | inl here ↦ here.0 ∙ is.0
          | inr there ↦ sh.seats.only j e there.1
        ];
        each = λ j u found. elim (at_set views place j (Coord d) u found) [
          | inl here ↦ subst (Fits z t) here.1 fits
          | inr there ↦ others j u there.0 there.1 (sh.seats.each j u there.1)
        ];
        once = λ i.
            sum_set (seats_of i) views place (Coord c) (Coord d) at
            (ap (count_by (λ (w : WorkerSeatView). w.worker == i)) joined) ∙
            (sh.seats.once i ∙ ap (λ n. cond (nat_lt i n) 1 0) (ap (λ (e : CoordSeatView). e.made) is.1 ∙ sym made));
        slots = λ j v found. elim (at_set views place j (Coord d) (Worker v) found) [
          | inl here ↦ let clash = here.1 in absurd (cc)
          | inr there ↦ choice.read j v there.1
        ];
      };
      counted = counted_same z.counts views place (Coord c) (Coord d) d.counted at same_additions counted_are;
    }

-- the same of a step on the phase word
pub leads_word : (z : Opening) (s : CoreState) (words : List ℕ) (views : List View) (place : ℕ) (c d : CoordSeatView)
    (phase : ℕ) (ending : Bool) (hot : ℕ → ℕ) (word : ℕ)
    → Shows z s words views
    → get_elem? views place ≡ some (Coord c)
    → d.made ≡ c.made
    → d.joined ≡ c.joined
    → d.counted ≡ c.counted
    → s.phase ≤ phase
    → word ≡ shown_word z (phased s phase ending hot)
    → (FixesMask phase ending → mask_in z words ≡ hot phase)
    → (FixesMask phase ending → IsChosen z words)
    → ShowsChoice z words views d
    → FitsCoord z (phased s phase ending hot) d
    → ((v : WorkerSeatView) → FitsWorker z s v → FitsWorker z (phased s phase ending hot) v)
    → Shows z (phased s phase ending hot) (set words 0 word) (set views place (Coord d))
leads_word z s words views place c d phase ending hot word sh at made joined counted on word_is mask_is chosen_is
    choice fits workers =
    let wide = sh.board.width in
    let past = word_of-past (length z.counts) in
    let keeps : KeepsChoice words (set words 0 word) =
    keeps_elsewhere words 0 word (λ slot below eq. absurd (omega arith)) (λ eq. absurd (omega arith)) in
    leads z s words views place c d phase ending hot (set words 0 word) sh at made joined on (length-set words 0 word)
    (get_or-set_same words 0 word 0 (omega arith) ∙ word_is)
    (λ page below. get_or-set_other words 0 (word_of page) word 0
    (λ eq. let far = word_of-past page in absurd (omega arith)))
    (λ fixed. mask_in-kept z words (set words 0 word) keeps ∙ mask_is fixed)
    (λ fixed. chosen-kept z words (set words 0 word) keeps (chosen_is fixed))
    (choice_kept z words (set words 0 word) views d d keeps refl choice)
    (subst (All (IsCounted z.counts (posts_before (posts_of views)))) (sym counted) (of_coord z s words views place c sh at).1)
    fits
    workers

one_more : (i n : ℕ) → cond (nat_lt i n) 1 0 + cond (n == i) 1 0 ≡ cond (nat_lt i (n + 1)) 1 0
one_more i n = elim (cases_lt i n) [
  | inl less ↦
      let a = counts_one (nat_lt i n) (lt-ltb i n less) in
      let b = counts_none (n == i) (ne_eqb n i (λ same. absurd (omega arith))) in
      let d = counts_one (nat_lt i (n + 1)) (lt-ltb i (n + 1) (omega arith)) in
      omega arith
  | inr past ↦ elim (cases_eq n i) [
    | inl same ↦
        let a = counts_none (nat_lt i n) (le-ltb i n past) in
        let b = counts_one (n == i) (eq-eqb n i same) in
        let d = counts_one (nat_lt i (n + 1)) (lt-ltb i (n + 1) (omega arith)) in
        omega arith
    | inr other ↦
        let a = counts_none (nat_lt i n) (le-ltb i n past) in
        let b = counts_none (n == i) (ne_eqb n i other) in
        let d = counts_none (nat_lt i (n + 1)) (le-ltb i (n + 1) (omega arith)) in
        omega arith
  ]
]

-- a seat for the next worker changes nothing that is shown
pub splits : (z : Opening) (s : CoreState) (words : List ℕ) (views : List View) (place : ℕ) (c : CoordSeatView)
    → Shows z s words views
    → get_elem? views place ≡ some (Coord c)
    → c.made < z.workers
    → Shows z s words (set views place (Coord (made_coord c)) ++ Worker (fresh z c.made) ∷ [])
splits z s words views place c sh at room =
    let is = same_coord z s words views place c sh at in
    let d : CoordSeatView = made_coord c in
    let changed : List View = set views place (Coord d) in
    let new : WorkerSeatView = fresh z c.made in
    let old : FitsCoord z s c = sh.seats.each place (Coord c) at in
    let fits : FitsCoord z s d =
    record {
      seats = record {
        opening = old.seats.opening;
        made = omega arith;
        unmade = λ i past below. old.seats.unmade i (omega arith) below;
        joined = old.seats.joined;
      };
      phase = same_phase z s c d refl old.phase;
      choice = same_choice z s c d refl old.choice;
    }
    in
    let fits_new : FitsWorker z s new =
    record {
      opening = refl;
      there = room;
      state = old.seats.unmade c.made (omega arith) room;
      number = tt;
      ending = λ _ saw. absurd (saw);
      masks = All-nil (λ (m : PhaseMask). (m.phase ≤ s.phase) × (m.mask ≡ s.hot m.phase));
      slots = λ _. refl;
    }
    in
    let known = of_coord z s words views place c sh at in
    record {
      opening = sh.opening;
      merged = sh.merged;
      coord = d;
      published = known.0.published;
      chosen = known.0.chosen;
      slots = known.0.slots;
      all_slots = known.0.all_slots;
      slots_fit = known.0.slots_fit;
      board = sh.board;
      seats = record {
        first = at_longer changed (Worker new ∷ []) 0 (Coord d)
            (ap (get_elem? changed) (sym is.0) ∙ set_here views place (Coord d) (within views place (Coord c) at));
        only = λ j e found. elim (at_snoc changed (Worker new) (Coord e) j found) [
          | inl before ↦ elim (at_set views place j (Coord d) (Coord e) before) [
            | inl here ↦ here.0 ∙ is.0
            | inr there ↦ sh.seats.only j e there.1
          ]
          | inr last ↦ absurd (cc)
        ];
        each = λ j u found. elim (at_snoc changed (Worker new) u j found) [
          | inl before ↦ elim (at_set views place j (Coord d) u before) [
            | inl here ↦ subst (Fits z s) here.1 fits
            | inr there ↦ sh.seats.each j u there.1
          ]
          | inr last ↦ subst (Fits z s) last fits_new
        ];
        once = λ i.
            let before : sum_by (seats_of i) changed ≡ cond (nat_lt i c.made) 1 0 =
            sum_set (seats_of i) views place (Coord c) (Coord d) at refl ∙
            (sh.seats.once i ∙ ap (λ (e : CoordSeatView). cond (nat_lt i e.made) 1 0) is.1)
            in
            sum_by_push (seats_of i) changed (Worker new) ∙
            (ap (λ n. n + cond (c.made == i) 1 0) before ∙ one_more i c.made);
        slots = λ j v found. elim (at_snoc changed (Worker new) (Worker v) j found) [
          | inl before ↦ elim (at_set views place j (Coord d) (Worker v) before) [
            | inl here ↦ let clash = here.1 in absurd (cc)
            | inr there ↦ known.0.read j v there.1
          ]
          | inr last ↦
              subst (λ (x : WorkerSeatView). x.slots ≡ take (length x.slots) c.slots) (worker-injective new v last) refl
        ];
      };
      counted = counted_on z.counts (posts_before (posts_of views)) (posts_before (posts_of (changed ++ Worker new ∷ []))) c.counted
          (λ i r inside.
          let k : ℕ = (get_or c.counted i r).phase + 1 in
          let p : ℕ = (get_or c.counted i r).page in
          let push = sum_by_push (before_in k p) changed (Worker new) in
          let none : before_in k p (Worker new) ≡ 0 = refl in
          let same = sum_set (before_in k p) views place (Coord c) (Coord d) at refl in
          let now = before_posts k p (changed ++ Worker new ∷ []) in
          let was = before_posts k p views in
          omega arith)
          known.1;
    }
