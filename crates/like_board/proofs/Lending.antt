-- What is lent to a post comes back; its looks are fresh, and its steps find the counts of pages.
use Rattle.std.proofs.Common.{◌≡◌, ℕ, zero, suc, ◌+◌, ◌<◌, ◌≤◌, List, [], ◌∷◌, ◌++◌, length, drop, slice_set, refl, subst, ap, sym, ◌∙◌, arith}
use Rattle.std.specs.Prelude.{All}
use Rattle.std.proofs.lemmas.List.{append_assoc, length-append}
use Rattle.std.proofs.lemmas.List.Elements.{All-append, All-cons, All-nil}
use base.Stored.{Gv, gnil, gnum, gcons}
use mathlib.Core.Option.{Option, some, some-ne-none}
use lib.ListN.{get_elem?}
use Rattle.atomic_table.proofs.Lists.{set_again, set_else, set_here}
use Rattle.like_core.specs.declared.page_step.PageStep.{PageStep}
use Rattle.like_core.specs.declared.view.Look.{Look}
use Rattle.like_core.specs.declared.view.View.{View}
use Rattle.like_core.specs.declared.view.View.TheVariants.{Spent, Worker}
use Rattle.like_core.specs.declared.view.WorkerSeatView.{WorkerSeatView}
use Rattle.like_core.specs.PageSteps.{likes_in}
use Rattle.like_core.specs.views.Places.{count_after}
use Rattle.like_core.proofs.Totals.{added-in}
use Rattle.like_core.proofs.views.ViewLists.{sum_swap}
use Rattle.like_core.proofs.views.ViewSums.{added_posts, paged}
use Rattle.like_board.specs.Lent.{HasFound, HasLooked, ShowsBy, lent_board, lent_code, numbers_of}
use Rattle.like_board.specs.Own.{IsPresentCount}

-- numbers tell the value that they are of, and what follows them
numbers_tell : (a b : Gv) (r s : List ℕ) → numbers_of a ++ r ≡ numbers_of b ++ s → (a ≡ b) × (r ≡ s)
unfolding numbers_of
numbers_tell gnil gnil r s same = (refl, cc)
numbers_tell (gnum n) (gnum m) r s same = (let is : n ≡ m = cc in ap gnum is, cc)
numbers_tell (gcons a b) (gcons c d) r s same =
    let tails : (numbers_of a ++ numbers_of b) ++ r ≡ (numbers_of c ++ numbers_of d) ++ s = cc in
    let first = numbers_tell a c (numbers_of b ++ r) (numbers_of d ++ s)
    (sym (append_assoc (numbers_of a) (numbers_of b) r) ∙ tails ∙ append_assoc (numbers_of c) (numbers_of d) s) in
    let second = numbers_tell b d r s first.1 in
    (λ m. gcons (first.0 m) (second.0 m), second.1)
numbers_tell gnil (gnum m) r s same = absurd (cc)
numbers_tell gnil (gcons c d) r s same = absurd (cc)
numbers_tell (gnum n) gnil r s same = absurd (cc)
numbers_tell (gnum n) (gcons c d) r s same = absurd (cc)
numbers_tell (gcons a b) gnil r s same = absurd (cc)
numbers_tell (gcons a b) (gnum m) r s same = absurd (cc)

-- the last of two settings of a place counts
pub set_twice : {A : Type 0} (l : List A) (i : ℕ) (x y : A) → slice_set (slice_set l i x) i y ≡ slice_set l i y
set_twice [] i x y = refl
set_twice (z ∷ l) zero x y = refl
set_twice (z ∷ l) (suc i) x y = λ m. z ∷ set_twice l i x y m

-- a place that has an element is within the list
pub inside : {A : Type 0} (l : List A) (i : ℕ) (x : A) → get_elem? l i ≡ some x → i < length l
inside [] i x at = absurd (some-ne-none x (sym at))
inside (y ∷ l) zero x at = omega arith
inside (y ∷ l) (suc i) x at = let before = inside l i x at in omega (arith, before)

-- the seat that made a step knows what it is said to know
pub known_after : (views after : List View) (place : ℕ) (v w : View)
    → get_elem? views place ≡ some v
    → after ≡ slice_set views place w
    → get_elem? after place ≡ some w
known_after views after place v w at stepped =
    ap (λ l. get_elem? l place) stepped ∙ set_here views place w (inside views place v at)

-- the first seat knows the same after a step of another
pub first_after : (views after : List View) (place : ℕ) (w : View)
    → 1 ≤ place
    → after ≡ slice_set views place w
    → get_elem? after 0 ≡ get_elem? views 0
first_after views after place w other stepped =
    ap (λ l. get_elem? l 0) stepped
    ∙ set_else views place 0 w (λ same. omega (arith, same, other))

-- a step of the seat changes no number
pub board_after : (views after : List View) (place : ℕ) (w before : View)
    → after ≡ slice_set views place w
    → lent_board after place before ≡ lent_board views place before
board_after views after place w before stepped =
    ap (λ l. numbers_of (lent_code.code (l, (place, before))))
    (ap (λ l. slice_set l place Spent) stepped ∙ set_twice views place w Spent)

-- the numbers tell the place, what the seat knew, and what all know now, by what it knows now
pub lent_tells : (views after : List View) (place there : ℕ) (before known : View) (w : View)
    → lent_board after there known ≡ lent_board views place before
    → get_elem? after there ≡ some w
    → (there ≡ place) × (known ≡ before) × (after ≡ slice_set views place w)
lent_tells views after place there before known w same at =
    let a : List View × (ℕ × View) = (slice_set after there Spent, (there, known)) in
    let b : List View × (ℕ × View) = (slice_set views place Spent, (place, before)) in
    let code = (numbers_tell (lent_code.code a) (lent_code.code b) [] [] (ap (λ l. l ++ []) same)).0 in
    let is : a ≡ b = lent_code.inj a b code in
    let places : there ≡ place = ap (λ (p : List View × (ℕ × View)). p.1.0) is in
    let others : slice_set after there Spent ≡ slice_set views place Spent =
    ap (λ (p : List View × (ℕ × View)). p.0) is in (
      places,
      ap (λ (p : List View × (ℕ × View)). p.1.1) is,
      sym (set_again after there w at) ∙ sym (set_twice after there Spent w)
          ∙ (λ m. slice_set (others m) (places m) w) ∙ set_twice views place Spent w,
    )

-- what is left of a longer list
drop_more : {A : Type 0} (n : ℕ) (l m : List A) → n ≤ length l → drop n (l ++ m) ≡ drop n l ++ m
drop_more zero l m few = refl
drop_more (suc n) [] m few = absurd (omega arith)
drop_more (suc n) (x ∷ l) m few = drop_more n l m (omega arith)

-- a step that is no look leaves what each look since then showed
pub looked_same : (first next : Option View) (before v w : WorkerSeatView)
    → next ≡ first
    → w.looks ≡ v.looks
    → HasLooked first before v
    → HasLooked next before w
looked_same first next before v w same looks has = record {
  more = subst (λ l. length before.looks ≤ length l) (sym looks) has.more;
  fresh = subst (λ l. All (λ look. ShowsBy next look.sight) (drop (length before.looks) l)) (sym looks)
      (subst (λ f. All (λ look. ShowsBy f look.sight) (drop (length before.looks) v.looks)) (sym same) has.fresh);
}

-- one that shows the phase as it is goes on with it
pub looked_more : (first next : Option View) (before v w : WorkerSeatView) (look : Look)
    → next ≡ first
    → w.looks ≡ v.looks ++ look ∷ []
    → ShowsBy first look.sight
    → HasLooked first before v
    → HasLooked next before w
looked_more first next before v w look same looks shows has =
    let longer = length-append v.looks (look ∷ []) in
    let few = has.more in
    record {
      more = subst (λ l. length before.looks ≤ length l) (sym looks) (omega (arith, longer, few));
      fresh = subst (λ l. All (λ k. ShowsBy next k.sight) (drop (length before.looks) l)) (sym looks)
          (subst (λ f. All (λ k. ShowsBy f k.sight) (drop (length before.looks) (v.looks ++ look ∷ []))) (sym same)
          (subst (All (λ k. ShowsBy first k.sight)) (sym (drop_more (length before.looks) v.looks (look ∷ []) few))
          (All-append (λ k. ShowsBy first k.sight) (drop (length before.looks) v.looks) (look ∷ []) has.fresh
          (All-cons (λ k. ShowsBy first k.sight) look [] shows (All-nil (λ k. ShowsBy first k.sight))))));
    }

-- a page's count is the one when a seat knew this, and what the seat has added since
count_since : (counts : List ℕ) (views : List View) (place page : ℕ) (v before : WorkerSeatView)
    → get_elem? views place ≡ some (Worker v)
    → count_after counts views page + likes_in page before.did
    ≡ count_after counts (slice_set views place (Worker before)) page + likes_in page v.did
count_since counts views place page v before at =
    let was : List View = slice_set views place (Worker before) in
    let swap = sum_swap (paged page) views place (Worker v) (Worker before) at in
    let now = added_posts page views in
    let then_ = added_posts page was in
    let mine = added-in page v.did in
    let old = added-in page before.did in
    omega (arith, swap, now, then_, mine, old)

-- at first nothing was found
pub found_none : (views : List View) (v : WorkerSeatView) → HasFound views v v
found_none views v c later earlier s first split past =
    let whole = ap (λ (l : List PageStep). length l) split in
    let both = length-append later (s ∷ earlier) in
    absurd (omega (arith, whole, both, past))

-- a step that is none at a page leaves what was found since then
pub found_same : (views : List View) (before v w : WorkerSeatView)
    → w.did ≡ v.did
    → HasFound views before v
    → HasFound views before w
found_same views before v w same has c later earlier s first split = has c later earlier s first (sym same ∙ split)

-- one that finds its page's count goes on with it
pub found_more : (views : List View) (place : ℕ) (before v w : WorkerSeatView) (step : PageStep)
    → 1 ≤ place
    → get_elem? views place ≡ some (Worker v)
    → w.did ≡ step ∷ v.did
    → IsPresentCount views step.page step.found
    → HasFound (slice_set views place (Worker before)) before v
    → HasFound (slice_set views place (Worker before)) before w
found_more views place before v w step other at did present has c [] earlier s first split past =
    let both : step ∷ v.did ≡ s ∷ earlier = sym did ∙ split in
    let same : step ≡ s = cc both in
    let rest : v.did ≡ earlier = cc both in
    let found = present c (sym (first_after views _ place (Worker before) other refl) ∙ first) in
    let since = count_since c.opening.counts views place step.page v before at in
    let here : step.found + likes_in step.page before.did
    ≡ count_after c.opening.counts (slice_set views place (Worker before)) step.page + likes_in step.page v.did =
    omega (arith, found, since) in
    ap (λ (x : PageStep). x.found + likes_in x.page before.did) (sym same) ∙ here
    ∙ (λ m. count_after c.opening.counts (slice_set views place (Worker before)) (same m).page
    + likes_in (same m).page (rest m))
found_more views place before v w step other at did present has c (x ∷ later) earlier s first split past =
    let both : step ∷ v.did ≡ x ∷ (later ++ s ∷ earlier) = sym did ∙ split in
    let rest : v.did ≡ later ++ s ∷ earlier = cc both in
    has c later earlier s first rest past
