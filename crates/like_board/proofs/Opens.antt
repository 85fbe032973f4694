-- What a new board shows.
use Rattle.std.proofs.Common.{◌≡◌, ℕ, zero, suc, ◌<◌, ◌-◌, ◌*◌, ◌^◌, ◌≤◌, nat_lt, Bool, true, false, List, [], ◌∷◌, ◌++◌, length, take, get_or, replicate, subst, ap, sym, ◌∙◌, refl, arith, add-zero}
use Rattle.std.proofs.lemmas.Bool.{cond-true, lt-ltb, le-ltb}
use Rattle.std.proofs.lemmas.List.{append-nil, get_or-replicate, length-replicate}
use Rattle.std.proofs.lemmas.List.Elements.{All-nil, All-replicate}
use mathlib.Core.Option.{some, some-injective, some-ne-none}
use lib.ListN.{get_elem?}
use Rattle.like_core.specs.declared.worker_state.WorkerState.TheVariants.{Runs, Gone}
use Rattle.like_core.specs.declared.opening.Opening.{Opening}
use Rattle.like_core.specs.declared.view.PageCount.{PageCount}
use Rattle.like_core.specs.declared.view.WorkerSeatView.{WorkerSeatView}
use Rattle.like_core.specs.declared.view.CoordSeatView.{CoordSeatView}
use Rattle.like_core.specs.declared.view.View.{View}
use Rattle.like_core.specs.declared.view.View.TheVariants.{Coord, Worker}
use Rattle.like_limits.specs.Limits.{hot_pages}
use Rattle.like_core.specs.core.Numbers.{AllIn}
use Rattle.like_core.specs.core.State.{start, numbers}
use Rattle.like_core.specs.views.Views.{fresh_coord}
use Rattle.like_core.specs.views.Reads.{IsCounted}
use Rattle.like_core.specs.views.Posts.{posts_before, posts_of}
use Rattle.like_core.specs.views.Layout.{mask_place, slot_in, word_of}
use Rattle.like_core.specs.views.Shows.{IsOpening, ShowsSome, Fits, FitsCoord}
use Rattle.like_core.proofs.views.Chosen.{mask_in-none, chosen-none}
use Rattle.like_core.specs.views.Order.{HasOrder}
use Rattle.like_core.proofs.core.Moved.{moves_begin}
use Rattle.like_board.specs.declared.key.Key.{Key}
use Rattle.like_board.specs.Marks.{marks_of}
use Rattle.like_board.specs.Rule.{opening_of, first_view, first_word}
use Rattle.like_board.proofs.worker.Moves.{counts_none}

-- a new board shows the core's start
pub opens : (z : Opening) (words : List ℕ)
    → IsOpening z
    → length words ≡ word_of (length z.counts)
    → get_or words 0 0 ≡ first_word z
    → ((page : ℕ) → page < length z.counts → get_or words (word_of page) 0 ≡ get_or z.counts page 0)
    → get_or words mask_place 0 ≡ 0
    → ((slot : ℕ) → slot < hot_pages → slot_in words slot ≡ 0)
    → ShowsSome z words (Coord (fresh_coord z (first_word z)) ∷ [])
opens z words opening width word pages mask_word slots =
    let c : CoordSeatView = fresh_coord z (first_word z) in
    let fits : FitsCoord z (start z) c =
    record {
      seats = record {
        opening = refl;
        made = omega arith;
        unmade = λ i _ below. cond-true (nat_lt i z.workers) (Runs 0) Gone (lt-ltb i z.workers below);
        joined = λ place v at. absurd (some-ne-none v (sym at));
      };
      phase = record {
        present = refl;
        ending = refl;
        last = tt;
        stays = tt;
        all_in = λ is. absurd (cc);
        gone = λ split _. absurd (omega arith);
      };
      choice = record {
        counted = All-nil (λ (r : PageCount). (r.phase ≤ 0)
            × (r.phase ≡ 0 → AllIn (numbers z (start z)) × (false ≡ true)));
        published = tt;
        masks = λ phase. refl;
      };
    }
    in
    record {
      state = start z;
      reachable = moves_begin z;
      shows = record {
        opening = opening;
        merged = λ i. refl;
        coord = c;
        published = tt;
        chosen = λ some_mask. absurd (cc);
        slots = λ slot below. slots slot below ∙ sym (get_or-replicate {A = ℕ} hot_pages slot 0 0 below);
        all_slots = length-replicate {A = ℕ} hot_pages 0;
        slots_fit = All-replicate (λ (n : ℕ). n < 2 ^ 32) hot_pages 0 (omega arith);
        board = record {
          width = width;
          phase = word;
          pages = λ page below. pages page below ∙ sym (add-zero (get_or z.counts page 0));
          mask = λ _. mask_in-none z words mask_word;
          chosen = λ _. chosen-none z words mask_word;
        };
        seats = record {
          first = refl;
          only = only_first c;
          each = each_first z c fits;
          once = λ i. sym (counts_none (nat_lt i 0) (le-ltb i 0 (omega arith)));
          slots = no_worker c;
        };
        counted = All-nil (IsCounted z.counts (posts_before (posts_of (Coord c ∷ []))));
      };
      tallied = λ page.
          let none_made : z.limits.seats - c.made ≡ z.limits.seats = omega arith in
          let whole = ap (λ (n : ℕ). z.limits.likes * n) none_made in
          omega arith;
      log = [];
      order = record {
        in_turn = tt;
        rising = tt;
        applied = λ page. refl;
        each = none_done c refl;
        others = λ i none. refl;
      };
    }
  where
    no_worker : (c : CoordSeatView) (place : ℕ) (v : WorkerSeatView) → get_elem? (Coord c ∷ []) place ≡ some (Worker v)
        → v.slots ≡ take (length v.slots) c.slots
    no_worker c zero v at = let clash = some-injective (Coord c) (Worker v) at in absurd (cc)
    no_worker c (suc place) v at = absurd (some-ne-none (Worker v) (sym at))

    only_first : (c : CoordSeatView) (place : ℕ) (d : CoordSeatView) → get_elem? (Coord c ∷ []) place ≡ some (Coord d)
        → place ≡ 0
    only_first c zero d at = refl
    only_first c (suc place) d at = absurd (some-ne-none (Coord d) (sym at))

    each_first : (z : Opening) (c : CoordSeatView) → FitsCoord z (start z) c → (place : ℕ) (v : View)
        → get_elem? (Coord c ∷ []) place ≡ some v → Fits z (start z) v
    each_first z c fits zero v at = subst (Fits z (start z)) (some-injective (Coord c) v at) fits
    each_first z c fits (suc place) v at = absurd (some-ne-none v (sym at))

    none_done : (c : CoordSeatView) → c.joined ≡ [] → (place : ℕ) (v : View) → get_elem? (Coord c ∷ []) place ≡ some v
        → HasOrder [] v
    none_done c none zero v at =
        let has : HasOrder [] (Coord c) =
        λ place w found. absurd (some-ne-none w
        (sym (sym (ap (λ (l : List WorkerSeatView). get_elem? l place) none) ∙ found)))
        in
        subst (HasOrder []) (some-injective (Coord c) v at) has
    none_done c none (suc place) v at = absurd (some-ne-none v (sym at))

-- the words of a new board: the phase word, the counts at their places, no mask, and no page in a slot
pub record AreFirst (words : List ℕ) (word : ℕ) (counts : List ℕ) : Type 0 where
  pub width : length words ≡ word_of (length counts)
  pub phase : get_or words 0 0 ≡ word
  pub pages : (page : ℕ) → page < length counts → get_or words (word_of page) 0 ≡ get_or counts page 0
  pub mask : get_or words mask_place 0 ≡ 0
  pub slots : (slot : ℕ) → slot < hot_pages → slot_in words slot ≡ 0

-- a table that is made with these words starts by the rule
pub opens_key : (key : Key) (word : ℕ) (items words : List ℕ)
    → word ≡ first_word (opening_of key)
    → words ≡ items
    → AreFirst items word key.pages.counts
    → IsOpening (opening_of key)
    → ShowsSome (opening_of key) words (first_view key ∷ [])
opens_key key word items words word_is words_are first opening =
    let z : Opening = opening_of key in
    subst (λ (ws : List ℕ). ShowsSome z ws (first_view key ∷ [])) (sym words_are)
    (opens z items opening first.width (first.phase ∙ word_is) first.pages first.mask first.slots)

-- marks of all pages have no more
pub marks_whole : (pages : ℕ) (marks : List Bool) → length marks ≡ pages → marks_of pages marks ≡ marks
marks_whole pages marks long =
    let none : pages - length marks ≡ 0 = omega arith in
    ap (λ n. marks ++ replicate n false) none ∙ append-nil marks

-- no marks at all are as many that mark nothing
pub marks_none : (pages : ℕ) → marks_of pages [] ≡ replicate pages false
marks_none pages =
    let all : pages - length {A = Bool} [] ≡ pages = omega arith in
    ap (λ n. replicate n false) all

-- the opening of a key that was told these counts and marks
pub opening_told : (key : Key) (counts : List ℕ) (marks : List Bool)
    → key.pages.counts ≡ counts
    → key.pages.marks ≡ marks
    → opening_of key
    ≡ record {
      workers = key.workers;
      counts = counts;
      marks = marks;
      limits = key.limits;
      factor = key.factor;
    }
opening_told key counts marks counts_are marks_are = λ m. record {
  workers = key.workers;
  counts = counts_are m;
  marks = marks_are m;
  limits = key.limits;
  factor = key.factor;
}
