-- A station that enters the next phase.
use Rattle.std.proofs.Common.{◌≡◌, ℕ, ◌+◌, ◌%◌, ◌==◌, ◌<◌, ◌≤◌, ◌⊎◌, ◌&&◌, ◌||◌, nat_lt, Bool, true, false, cond, List, [], ◌∷◌, length, get_or, sum, inl, inr, refl, sym, ap, subst, ◌∙◌, arith}
use Rattle.std.specs.List.{list_any}
use Rattle.std.proofs.lemmas.Bool.{and_from, and_parts, cases_eq, cond-true, eq-eqb, lt-ltb, ltb-true, or_right}
use Rattle.like_core.specs.declared.sight.Sight.{Sight}
use Rattle.like_core.specs.declared.view.PhaseMask.{PhaseMask}
use Rattle.like_core.specs.declared.worker_state.WorkerState.{WorkerState}
use Rattle.like_core.specs.declared.worker_state.WorkerState.TheVariants as state
use Rattle.like_core.specs.declared.worker_state.WorkerState.TheVariants.{Answered, Gone, Runs}
use Rattle.like_core.specs.Additions.{all_added}
use Rattle.like_core.specs.Phase.{IsJoined, IsSplit, is_hot_by, is_marked}
use Rattle.like_core.specs.Functions.{has_bit}
use Rattle.like_core.specs.OpeningLimits.{AreLimits}
use Rattle.like_core.specs.PhaseMasks.{HasMask, mask_of}
use Rattle.like_core.specs.Slots.{IsChoice, mask_of_slots}
use Rattle.like_core.proofs.Slots.{slots_tell}
use Rattle.like_limits.specs.Limits.{hot_pages}
use Rattle.like_core.specs.Post.{looked_at, pages_of, returned}
use Rattle.like_core.specs.WorkerState.{IsRunning, RunsSplit, seen}
use Rattle.like_core.specs.PageSteps.{additions_among}
use Rattle.like_core.specs.declared.view.WorkerSeatView.{WorkerSeatView}
use Rattle.like_tables.specs.SplitSlice.{IsSplitSlice, SplitSlice, by_page, has_split, likes_in}
use Rattle.like_tables.proofs.ByPage.{by_page-none, length-by_page, likes_in-none, likes_in-other}
use Rattle.like_tables.proofs.Sliced.{counts-none}
use Rattle.like_seat.specs.declared.tables.Tables.{Tables}
use Rattle.like_seat.specs.Kept.{EntersBy, IsFilled, IsFilledBySlots, IsKept, IsOfService, MayEnter, SplitsPages, is_split_by}
use Rattle.like_seat.specs.Steps.{masks_entered}
use Rattle.like_core.proofs.Below.{same_truth}
use Rattle.like_seat.proofs.Filling.{number-kept}
use Rattle.like_seat.proofs.Keeping.{in-split, splits-none}

parity : (n : ℕ) → IsSplit n ⊎ IsJoined n
parity n = elim (cases_eq (n % 2) 1) [ inl odd ↦ inl odd | inr even ↦ inr (omega arith) ]

-- who has answered, or is gone, runs no split phase
pub idle-answered : (s : WorkerState) (k : ℕ) → s ≡ Answered k → RunsSplit s → ⊥
idle-answered s k is runs = absurd (subst RunsSplit is runs)

pub idle-gone : (s : WorkerState) → s ≡ Gone → RunsSplit s → ⊥
idle-gone s is runs = absurd (subst RunsSplit is runs)

-- the post when it runs a phase, as it has looked by now
abbrev pub ran : WorkerSeatView → WorkerSeatView → ℕ → WorkerSeatView
ran post looked phase =
    record post { state = Runs phase; last = looked.last; looks = looked.looks; logged = looked.logged; slots = [] }

-- so it does after a look that showed the next phase, and after it came back
pub ran-looked : (post looked : WorkerSeatView) (sight : Sight) (k number : ℕ) → looked ≡ looked_at post sight number
    → post.state ≡ Answered k → sight.waits ≡ false → looked ≡ ran post looked (k + 1)
ran-looked post looked sight k number look is goes =
    let runs : seen post.state sight ≡ Runs (k + 1) =
    ap (λ s. seen s sight) is ∙ ap (λ (b : Bool). cond b (Answered k) (Runs (k + 1))) goes in
    subst (λ (p : WorkerSeatView). p ≡ ran post p (k + 1)) (sym look)
    (λ i. record (looked_at post sight number) { state = runs i })

pub ran-returned : (post looked : WorkerSeatView) (phase number : ℕ) → looked ≡ returned post phase number
    → looked ≡ ran post looked phase
ran-returned post looked phase number back = subst (λ (p : WorkerSeatView). p ≡ ran post p phase) (sym back) refl

-- who ran no split phase may enter the phase that it runs
pub MayEnter-kept : {W C : Type 0} (post looked : WorkerSeatView) (t : Tables W C) (phase : ℕ) → IsKept post t
    → (RunsSplit post.state → ⊥) → looked ≡ ran post looked phase → MayEnter looked t.slice phase
MayEnter-kept post looked t phase kept idle look =
    let may : MayEnter (ran post looked phase) t.slice phase = record {
      runs = refl;
      unread = refl;
      limits = kept.station.limits;
      few_pages = kept.station.few_pages;
      unsplit = record { slice = kept.slice; factor = kept.factor; none = splits-none post t.slice kept.splits idle };
      numbers = kept.numbers;
    } in subst (λ (p : WorkerSeatView). MayEnter p t.slice phase) (sym look) may

-- its board is the same
pub opening-ran : (post looked : WorkerSeatView) (phase : ℕ) → looked ≡ ran post looked phase
    → looked.opening ≡ post.opening
opening-ran post looked phase look = ap (λ (p : WorkerSeatView). p.opening) look

-- in a service the pages in the slots in use are split
pub filled-service : (post : WorkerSeatView) (slots : ℕ → ℕ) (word : ℕ) (s after : SplitSlice) → IsOfService post.opening
    → AreLimits post.opening.limits → pages_of post ≤ post.opening.limits.pages → IsChoice post.opening.factor (pages_of post) slots word
    → IsFilledBySlots s slots word hot_pages after
    → IsFilled s (pages_of post) (is_split_by post (mask_of_slots slots word hot_pages)) after
filled-service post slots word s after service limits few choice f = record {
  slice = f.slice;
  factor = f.factor;
  counts = f.counts;
  splits = λ page.
      let mask = mask_of_slots slots word hot_pages in
      let n : ℕ = pages_of post in
      let h : ℕ = post.opening.limits.hot in
      let most = limits.slotted service.slotted in
      same_truth (has_split after page) (nat_lt page n && (is_marked post.opening.marks page || is_hot_by h mask page))
      (λ held.
      let i = (f.splits page).0 held in
      let there : page < n = omega (arith, choice.there i.slot i.below i.used, i.holds) in
      and_from (nat_lt page n) _ (lt-ltb page n there)
      (or_right (is_marked post.opening.marks page) _
      (and_from (nat_lt page h) (has_bit mask page) (lt-ltb page h (omega (arith, there, few, most)))
      ((slots_tell slots word hot_pages page).1 i))))
      (λ both.
      let parts = and_parts (nat_lt page n) (is_marked post.opening.marks page || is_hot_by h mask page) both in
      let hot : is_hot_by h mask page ≡ true =
      sym (ap (λ (b : Bool). b || is_hot_by h mask page) (service.unmarked page)) ∙ parts.1 in
      (f.splits page).1 ((slots_tell slots word hot_pages page).0 (and_parts (nat_lt page h) (has_bit mask page) hot).1));
}

-- a slice with these numbers, of which no page was split, has no like
empty : {W C : Type 0} (post : WorkerSeatView) (t : Tables W C) (s : SplitSlice) → IsKept post t → (RunsSplit post.state → ⊥)
    → s.counts ≡ t.slice.counts → by_page s (pages_of post) ≡ by_page t.slice (pages_of post)
empty post t s kept idle same =
    let n : ℕ = pages_of post in
    let unsplit = splits-none post t.slice kept.splits idle in
    let none : (page : ℕ) → likes_in t.slice page ≡ 0 =
    λ page. likes_in-other t.slice page (unsplit page) in
    by_page-none s n (likes_in-none s
    (λ b. ap (λ (xs : List ℕ). get_or xs b 0) same ∙ counts-none t.slice kept.slice none b))
    ∙ sym (by_page-none t.slice n none)

-- the mask of the phase that it enters
entered-mask : (masks : List PhaseMask) (phase mask : ℕ) → IsSplit phase
    → mask_of (masks_entered masks phase mask) phase ≡ mask
entered-mask masks phase mask odd =
    ap (λ (ms : List PhaseMask). mask_of ms phase)
    (cond-true (phase % 2 == 1) (record { phase = phase; mask = mask } ∷ masks) masks (eq-eqb (phase % 2) 1 odd))
    ∙ ap (λ (b : Bool). cond b mask (mask_of masks phase)) (eq-eqb phase phase refl)

-- who enters a split phase has read its mask
pub entered-has : (masks : List PhaseMask) (phase mask : ℕ) → IsSplit phase → HasMask phase (masks_entered masks phase mask)
entered-has masks phase mask odd =
    subst (HasMask phase)
    (sym (cond-true (phase % 2 == 1) (record { phase = phase; mask = mask } ∷ masks) masks (eq-eqb (phase % 2) 1 odd)))
    (ap (λ (b : Bool). b || list_any (λ (m : PhaseMask). m.phase == phase) masks) (eq-eqb phase phase refl))

-- the post that has entered a phase
abbrev pub entered : WorkerSeatView → WorkerSeatView → ℕ → ℕ → WorkerSeatView
entered post looked phase mask =
    record (ran post looked phase) { masks = masks_entered post.masks phase mask }

-- the pages that are to be split are those that are split
fills : (post looked : WorkerSeatView) (phase mask : ℕ) (s : SplitSlice) → IsSplit phase
    → ((page : ℕ) → has_split s page ≡ (nat_lt page (pages_of post) && is_split_by post mask page))
    → SplitsPages (entered post looked phase mask) s
fills post looked phase mask s odd splits page =
    let test : ℕ → Bool = λ m. is_split_by post m page in
    let masks = entered-mask post.masks phase mask odd in (
      λ held.
          let parts = and_parts (nat_lt page (pages_of post)) (test mask) (sym (splits page) ∙ held) in (
            odd,
            ltb-true page (pages_of post) parts.0,
            and_from (phase % 2 == 1) (test (mask_of (masks_entered post.masks phase mask) phase))
                (eq-eqb (phase % 2) 1 odd) (ap test masks ∙ parts.1),
          ),
      λ sliced.
          let parts = and_parts (phase % 2 == 1) (test (mask_of (masks_entered post.masks phase mask) phase)) sliced.2 in
          splits page ∙ and_from (nat_lt page (pages_of post)) (test mask) (lt-ltb page (pages_of post) sliced.1)
          (sym (ap test masks) ∙ parts.1),
    )

-- what is true of the slice of who has entered a phase
pub record IsEntered (post : WorkerSeatView) (s s' : SplitSlice) : Type 0 where
  pub lawful : IsSplitSlice s'
  pub factor : s'.splits.factor ≡ post.opening.factor
  pub counts : s'.counts ≡ s.counts
  pub splits : SplitsPages post s'

entered-slice : {W C : Type 0} (post looked now : WorkerSeatView) (t after : Tables W C) (phase mask : ℕ)
    → IsKept post t → (RunsSplit post.state → ⊥) → looked ≡ ran post looked phase → EntersBy looked phase mask now t after
    → IsEntered (entered post looked phase mask) t.slice after.slice
entered-slice {W} {C} post looked now t after phase mask kept idle look e = elim (parity phase) [
  | inl odd ↦
      let filled = e.split odd in
      record {
        lawful = filled.slice;
        factor = filled.factor ∙ kept.factor;
        counts = filled.counts;
        splits = fills post looked phase mask after.slice odd
            (subst (λ (p : WorkerSeatView). (page : ℕ)
            → has_split after.slice page ≡ (nat_lt page (pages_of p) && is_split_by p mask page)) look filled.splits);
      }
  | inr even ↦
      let same = e.joined even in
      record {
        lawful = subst IsSplitSlice (sym same) kept.slice;
        factor = ap (λ (s : SplitSlice). s.splits.factor) same ∙ kept.factor;
        counts = ap (λ (s : SplitSlice). s.counts) same;
        splits = λ page. (
          λ held. absurd (cc (
            ap (λ (s : SplitSlice). has_split s page) same,
            splits-none post t.slice kept.splits idle page,
            held,
          )),
          λ sliced. absurd (omega (arith, even, sliced.0)),
        );
      }
]

module _ {W C : Type 0} (post looked now : WorkerSeatView) (t after : Tables W C) (phase mask : ℕ)
    (kept : IsKept post t) (idle : RunsSplit post.state → ⊥)
    (look : looked ≡ ran post looked phase) (e : EntersBy looked phase mask now t after) where
  -- its post now
  pub now-entered : now ≡ entered post looked phase mask
  now-entered = e.at_post ∙ ap (λ (p : WorkerSeatView). record p { masks = masks_entered p.masks phase mask }) look

  -- its slice is empty, as it was
  pub empty-entered : by_page after.slice (pages_of now) ≡ by_page t.slice (pages_of post)
  empty-entered =
      ap (λ (p : WorkerSeatView). by_page after.slice (pages_of p)) now-entered
      ∙ empty post t after.slice kept idle (entered-slice post looked now t after phase mask kept idle look e).counts

  -- its tables are those of the post
  pub IsKept-entered : phase ≤ post.opening.limits.last_phase → IsKept now after
  IsKept-entered within =
      let s = entered-slice post looked now t after phase mask kept idle look e in
      let n : ℕ = pages_of post in
      let same = empty post t after.slice kept idle s.counts in
      let at : WorkerSeatView = entered post looked phase mask in
      let tables : Tables W C = record t { state = Runs phase; slice = after.slice } in
      let likes : t.likes.likes ≡ all_added (additions_among post.did) + sum (by_page after.slice n) =
      kept.likes ∙ ap (λ (xs : List ℕ). all_added (additions_among post.did) + sum xs) (sym same) in
      let keeps : IsKept at tables = record {
        run = kept.run;
        service = kept.service;
        state = refl;
        slice = s.lawful;
        factor = s.factor;
        numbers = λ page there.
            number-kept t.slice after.slice page (s.factor ∙ sym kept.factor) (ap (λ (xs : List ℕ). length xs) s.counts)
            (kept.numbers page there);
        splits = s.splits;
        sums = ap (λ (xs : List ℕ). sum xs) same ∙ kept.sums ∙ sym (ap (λ (xs : List ℕ). sum xs) s.counts);
        likes = likes;
        station = record {
          few_pages = kept.station.few_pages;
          limits = kept.station.limits;
          factor = kept.station.factor;
          within = within;
          sized = length-by_page after.slice n;
          masked = λ odd. entered-has post.masks phase mask odd;
          split = in-split at after.slice s.splits;
          few = omega (arith, likes, kept.likes, kept.station.few);
          waiting = kept.station.waiting;
        };
      } in
      subst (λ (p : WorkerSeatView). IsKept p after) (sym now-entered) (subst (λ (x : Tables W C). IsKept at x) (sym e.rest) keeps)

-- who has not answered stays in its phase
pub stays : (s : WorkerState) (sight : Sight) → ((k : ℕ) → s ≡ Answered k → ⊥) → seen s sight ≡ s
stays (state.Runs k) sight runs = refl
stays (state.Answered k) sight runs = absurd (runs k refl)
stays state.Gone sight runs = refl

-- a look that leaves the phase
pub IsKept-looked : {W C : Type 0} (post now : WorkerSeatView) (t : Tables W C) (sight : Sight) (number : ℕ)
    → IsKept post t → now ≡ looked_at post sight number → seen post.state sight ≡ post.state → IsKept now t
IsKept-looked {W} {C} post now t sight number k look same =
    let at : WorkerSeatView = record (looked_at post sight number) { state = post.state } in
    let is : now ≡ at = look ∙ (λ i. record (looked_at post sight number) { state = same i }) in
    let keeps : IsKept at t = record {
      run = k.run;
      service = k.service;
      state = k.state;
      slice = k.slice;
      factor = k.factor;
      numbers = k.numbers;
      splits = k.splits;
      sums = k.sums;
      likes = k.likes;
      station = record {
        few_pages = k.station.few_pages;
        limits = k.station.limits;
        factor = k.station.factor;
        within = k.station.within;
        sized = k.station.sized;
        masked = k.station.masked;
        split = k.station.split;
        few = k.station.few;
        waiting = k.station.waiting;
      };
    } in subst (λ (p : WorkerSeatView). IsKept p t) (sym is) keeps

-- a look of who runs a phase leaves the phase
pub running-stays : (s : WorkerState) (sight : Sight) → IsRunning s → seen s sight ≡ s
running-stays s sight runs = stays s sight (λ k is. subst IsRunning is runs)
