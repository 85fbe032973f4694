-- The numbers of the state after an event are those of the table.
use Rattle.std.proofs.Common.{◌≡◌, ℕ, ◌+◌, Bool, true, false, cond, List, [], ◌∷◌, ◌++◌, length, replicate, slice_index, length-append, ap, sym, ◌∙◌, refl, arith}
use Rattle.std.proofs.lemmas.List.{length-replicate}
use Rattle.like_core.specs.declared.event.Event.{Event}
use Rattle.like_core.specs.declared.event.Event.TheVariants.{Look, Acknowledge, Report, Retire, Like, Read, Merge, Hot, CoordLook, CoordRead, Announce, Release}
use Rattle.like_core.specs.declared.opening.Opening.{Opening}
use Rattle.like_core.specs.Functions.{update, times}
use Rattle.like_core.specs.core.Numbers.{with_unmerged, with_more}
use Rattle.like_core.specs.core.Table.{next}
use Rattle.like_core.specs.core.State.{CoreState, Label, without, is_split_now, after, numbers}
use Rattle.like_core.proofs.Updates.{update-same, update-other, update_cases}
use Rattle.like_core.proofs.Times.{times-push, times-without}

-- a function of a choice
ap-cond : {A B : Type 0} (f : A → B) (b : Bool) (x y : A) (v w : B) → f x ≡ v → f y ≡ w → f (cond b x y) ≡ cond b v w
ap-cond f true x y v w then_is else_is = then_is
ap-cond f false x y v w then_is else_is = else_is

-- the numbers of unmerged likes where one worker's list changes
pub times-update : (lists : ℕ → List ℕ) (i : ℕ) (list : List ℕ) (page likes : ℕ)
    → ((q : ℕ) → times q list ≡ update (λ r. times r (lists i)) page likes q)
    → (j q : ℕ)
    → times q (update lists i list j)
    ≡ update (λ k r. times r (lists k)) i (update (λ r. times r (lists i)) page likes) j q
times-update lists i list page likes same j q =
    let all : ℕ → ℕ → ℕ = λ k r. times r (lists k) in
    let row : ℕ → ℕ = update (all i) page likes in
    let P : ℕ → List ℕ → Type 0 = λ k xs. times q xs ≡ update all i row k q in
    update_cases P lists i list
    (same q ∙ sym (ap (λ (h : ℕ → ℕ). h q) (update-same all i row)))
    (λ k other. sym (ap (λ (h : ℕ → ℕ). h q) (update-other all i row k other)))
    j

-- the counts where likes are added at the end of a page's list
pub count-update : (counts : List ℕ) (lists : ℕ → List Label) (page : ℕ) (more : List Label) (q : ℕ)
    → slice_index counts q + length (update lists page (lists page ++ more) q)
    ≡ update (λ r. slice_index counts r + length (lists r)) page
    (slice_index counts page + length (lists page) + length more) q
count-update counts lists page more q =
    let all : ℕ → ℕ = λ r. slice_index counts r + length (lists r) in
    let sum : ℕ = slice_index counts page + length (lists page) + length more in
    let P : ℕ → List Label → Type 0 = λ r xs. slice_index counts r + length xs ≡ update all page sum r in
    let joined = length-append (lists page) more in
    let here = update-same all page sum in
    update_cases P lists page (lists page ++ more)
    (omega arith)
    (λ r other. sym (update-other all page sum r other))
    q

-- the numbers of the state after an event are the next numbers
pub numbers-after : (z : Opening) (s : CoreState) (event : Event)
    → numbers z (after z s event) ≡ next (numbers z s) event
numbers-after z s (Look i) = refl
numbers-after z s (Acknowledge i) = refl
numbers-after z s (Report i) = refl
numbers-after z s (Retire i) = refl
numbers-after z s (Like i page) =
    let n = numbers z s in
    let sliced_like : CoreState = record s { unmerged = update s.unmerged i (s.unmerged i ++ page ∷ []) } in
    let label : Label = record { worker = i; phase = s.phase } in
    let plain_like : CoreState = record s { applied = update s.applied page (s.applied page ++ label ∷ []) } in
    let in_slice : numbers z sliced_like ≡ with_unmerged n i page (n.unmerged i page + 1) =
    λ m. record n {
      unmerged =
          λ j q. times-update s.unmerged i (s.unmerged i ++ page ∷ []) page (n.unmerged i page + 1)
          (times-push (s.unmerged i) page) j q m;
    }
    in
    let in_count : numbers z plain_like ≡ with_more n page 1 =
    λ m. record n { count = λ q. count-update z.counts s.applied page (label ∷ []) q m }
    in
    ap-cond (numbers z) (is_split_now z s page) sliced_like plain_like _ _ in_slice in_count
numbers-after z s (Read i page) = refl
numbers-after z s (Merge i page) =
    let n = numbers z s in
    let likes = times page (s.unmerged i) in
    let label : Label = record { worker = i; phase = s.phase } in
    let size : length (replicate likes label) ≡ likes = length-replicate likes label in
    let counts : (q : ℕ)
    → slice_index z.counts q + length (update s.applied page (s.applied page ++ replicate likes label) q)
    ≡ update n.count page (n.count page + likes) q =
    λ q.
    count-update z.counts s.applied page (replicate likes label) q ∙
    ap (λ l. update n.count page (n.count page + l) q) size
    in
    λ m. record n {
      unmerged = λ j q. times-update s.unmerged i (without page (s.unmerged i)) page 0
          (times-without (s.unmerged i) page) j q m;
      count = λ q. counts q m;
    }
numbers-after z s (Hot i) = refl
numbers-after z s CoordLook = refl
numbers-after z s (CoordRead page) = refl
numbers-after z s Announce = refl
numbers-after z s (Release mask) =
    λ m. record (next (numbers z s) (Release mask)) { hot = update-same s.hot (s.phase + 1) mask m }
