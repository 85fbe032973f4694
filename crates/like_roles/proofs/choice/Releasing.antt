-- What the coordinator's releases keep of its choices.
use Rattle.std.proofs.Common.{◌≡◌, ℕ, ◌+◌, ◌-◌, ◌%◌, ◌<◌, ◌≤◌, Bool, true, false, cond, eqb, ltb, leb, min, List, [], ◌∷◌, length, get_or, Option, Some, None, refl, sym, ap, ◌∙◌, subst, arith, inl, inr, zero-add, append-nil}
use Rattle.std.specs.Option.{unwrap_or}
use Rattle.std.proofs.lemmas.Bool.{cases_eq, eq-eqb, ne_eqb}
use Rattle.std.proofs.lemmas.List.{length-take-le, get_or-take}
use Rattle.like_core.specs.declared.view.CoordSeatView.{CoordSeatView}
use Rattle.like_core.specs.declared.view.PhaseMask.{PhaseMask}
use Rattle.like_core.specs.declared.opening.Opening.{Opening}
use Rattle.like_limits.specs.Limits.{hot_pages}
use Rattle.like_core.specs.Phase.{IsJoined, IsSplit}
use Rattle.like_core.specs.PhaseMasks.{mask_of}
use Rattle.like_core.specs.Functions.{mask}
use Rattle.like_core.specs.views.Views.{published_coord, released_coord}
use Rattle.like_core.proofs.word.Masks.{mask_same}
use Rattle.like_seat.specs.Lead.{counted_from, has_risen, risen}
use Rattle.like_seat.proofs.Leading.{counted-is}
use Rattle.like_promises.specs.declared.chosen.Chosen.{Chosen}
use Rattle.like_roles.specs.coordinator.Choice.{AreTotals, ChoiceView, HasChosen, ReleasesNext, chooses_none, chooses_risen, first_choice, likes_counted, releases_joined, releases_split, total_before, with_chosen, within_limit}
use Rattle.like_promises.specs.HotPages.{chosen_below, hot_by, liked_pages}
use Rattle.like_promises.proofs.LikedPages.{liked_pages-is}
use Rattle.like_roles.proofs.choice.Choosing.{chosen-more, limit-is, totals-from}
use Rattle.like_roles.proofs.choice.Totals.{total_before-next}

-- the masks with that of the next phase
masks-on : (f : ℕ → ℕ) (phase m : ℕ) (masks : List PhaseMask)
    → ((k : ℕ) → k ≤ phase → mask_of masks k ≡ f k)
    → m ≡ f (phase + 1)
    → (k : ℕ) → k ≤ phase + 1 → mask_of (record { phase = phase + 1; mask = m } ∷ masks) k ≡ f k
masks-on f phase m masks old is k within = elim (cases_eq k (phase + 1)) [
  | inl same ↦ ap (λ b. cond b m (mask_of masks k)) (eq-eqb k (phase + 1) same) ∙ is ∙ ap f (sym same)
  | inr other ↦ ap (λ b. cond b m (mask_of masks k)) (ne_eqb k (phase + 1) other) ∙ old k (omega (arith, within, other))
]

-- the choices with that of the next phase
chosen-on : (f : ℕ → ℕ) (phase m : ℕ) (chosen : List Chosen)
    → chosen ≡ chosen_below f (phase + 1)
    → m ≡ f (phase + 1)
    → with_chosen chosen (phase + 1) m ≡ chosen_below f (phase + 1 + 1)
chosen-on f phase m chosen old is =
    ap (λ xs. with_chosen xs (phase + 1) m) old ∙ ap (with_chosen (chosen_below f (phase + 1)) (phase + 1)) is
    ∙ sym (chosen-more f (phase + 1))

-- no page is hot in an even phase
pub none-even : (hot : Option ℕ) (pages : ℕ) (got : ℕ → ℕ → ℕ) (phase : ℕ)
    → phase % 2 ≡ 0
    → hot_by hot pages got phase ≡ 0
none-even None pages got phase even = refl
none-even (Some least) pages got phase even =
    ap (λ x. cond (ltb (length (chosen_below (liked_pages least pages got) phase)) 1024) x 0) none
    ∙ both (ltb (length (chosen_below (liked_pages least pages got) phase)) 1024) where
      none : liked_pages least pages got phase ≡ 0
      none = liked_pages-is least pages got phase
          ∙ ap (λ b. cond b (mask (λ page. leb least (got phase page)) (min hot_pages pages)) 0)
          (ne_eqb (phase % 2) 1 (λ odd. absurd (omega (arith, even, odd))))

      both : (b : Bool) → ◌≡◌ {A = ℕ} (cond b 0 0) 0
      both true = refl
      both false = refl

module _ (c : CoordSeatView) (v : ChoiceView) (total : ℕ → ℕ → ℕ) (old : HasChosen c v total) where
  abbrev got : ℕ → ℕ → ℕ
  got = likes_counted c.opening.counts total

  abbrev hot : ℕ → ℕ
  hot = hot_by v.hot (length c.opening.counts) got

  -- the pages whose counts rose are those that got enough likes
  risen-is : (least : ℕ) (counts : List ℕ) → IsJoined c.phase → v.hot ≡ Some least → length counts ≡ length v.before
      → ((k : ℕ) → k < length counts → get_or counts k 0 ≡ total c.phase (0 + k))
      → risen least v.before counts ≡ liked_pages least (length c.opening.counts) got (c.phase + 1)
  risen-is least counts joined some same read =
      mask_same (has_risen least v.before counts) (λ page. leb least (got (c.phase + 1) page)) (length v.before) each
      ∙ ap (mask (λ page. leb least (got (c.phase + 1) page))) old.sized
      ∙ sym (ap (λ b. cond b
      (mask (λ page. leb least (got (c.phase + 1) page)) (min hot_pages (length c.opening.counts))) 0)
      (eq-eqb ((c.phase + 1) % 2) 1 odd))
      ∙ sym (liked_pages-is least (length c.opening.counts) got (c.phase + 1)) where
        odd : (c.phase + 1) % 2 ≡ 1
        odd = omega (arith, joined)

        back : c.phase ≡ c.phase + 1 - 1
        back = omega arith

        each : (page : ℕ) → page < length v.before
            → has_risen least v.before counts page ≡ leb least (got (c.phase + 1) page)
        each page below =
            ap (λ n. leb least (n - get_or v.before page 0))
            (read page (omega (arith, below, same)) ∙ ap (total c.phase) (zero-add page))
            ∙ ap (λ n. leb least (total c.phase page - n)) (old.before least some page below)
            ∙ ap (λ k. leb least (total k page - total_before c.opening.counts total k page)) back

  -- after a release of a split phase with the mask that is wanted
  split-on : (ready : CoordSeatView) (m : ℕ) → IsJoined c.phase → ready.opening ≡ c.opening → ready.phase ≡ c.phase
      → ready.masks ≡ c.masks → ready.published ≡ Some m → m ≡ hot (c.phase + 1)
      → (w : ChoiceView)
      → w.hot ≡ v.hot
      → w.chosen ≡ with_chosen v.chosen (c.phase + 1) m
      → length w.before ≡ length v.before
      → ((least : ℕ) → v.hot ≡ Some least → (page : ℕ) → page < length w.before
      → get_or w.before page 0 ≡ total c.phase page)
      → HasChosen (released_coord ready) w total
  split-on ready m joined opening phase masks published is w hots chosen many before = record {
    masks = λ k within.
        ap (λ (xs : List PhaseMask). mask_of xs k) (λ i. record { phase = phase i + 1; mask = released i } ∷ masks i)
        ∙ masks-on hot c.phase m c.masks old.masks is k (omega (arith, within, phase))
        ∙ same k;
    chosen = chosen ∙ chosen-on hot c.phase m v.chosen old.chosen is
        ∙ ap (λ f. chosen_below f (c.phase + 1 + 1)) (λ i k. same k i)
        ∙ ap (λ n. chosen_below (hot_by w.hot (length ready.opening.counts) (likes_counted ready.opening.counts total))
        (n + 1 + 1)) (sym phase);
    sized = many ∙ old.sized ∙ ap (λ (z : Opening). min hot_pages (length z.counts)) (sym opening);
    before = λ least some page below.
        before least (sym hots ∙ some) page below ∙ ap (λ k. total k page) joined-back
        ∙ sym (total_before-next ready.opening.counts total c.phase page)
        ∙ ap (λ k. total_before ready.opening.counts total (k + 1) page) (sym phase);
  } where
    released : cond (eqb (ready.phase % 2) 0) (unwrap_or ready.published 0) 0 ≡ m
    released =
        ap (λ b. cond b (unwrap_or ready.published 0) 0) (eq-eqb (ready.phase % 2) 0 (ap (λ n. n % 2) phase ∙ joined))
        ∙ ap (λ o. unwrap_or o 0) published

    same : (k : ℕ) → hot k ≡ hot_by w.hot (length ready.opening.counts) (likes_counted ready.opening.counts total) k
    same k =
        ap (λ h. hot_by h (length c.opening.counts) got k) (sym hots)
        ∙ ap (λ (z : Opening). hot_by w.hot (length z.counts) (likes_counted z.counts total) k) (sym opening)

    joined-back : c.phase ≡ c.phase - c.phase % 2
    joined-back = omega (arith, joined)

  -- after a release of a joined phase
  pub joined-on : IsSplit c.phase → HasChosen (released_coord c) v total
  joined-on split = record {
    masks = masks-on hot c.phase (cond (eqb (c.phase % 2) 0) (unwrap_or c.published 0) 0) c.masks old.masks
        (released ∙ sym none);
    chosen = sym (append-nil v.chosen) ∙ chosen-on hot c.phase 0 v.chosen old.chosen (sym none);
    sized = old.sized;
    before = λ least some page below. old.before least some page below
        ∙ ap (λ k. total_before c.opening.counts total k page) was
        ∙ total_before-next c.opening.counts total (c.phase - 1) page ∙ ap (λ k. total k page) at
        ∙ sym (total_before-next c.opening.counts total c.phase page);
  } where
    released : cond (eqb (c.phase % 2) 0) (unwrap_or c.published 0) 0 ≡ 0
    released = ap (λ b. cond b (unwrap_or c.published 0) 0)
        (ne_eqb (c.phase % 2) 0 (λ even. absurd (omega (arith, split, even))))

    none : hot (c.phase + 1) ≡ 0
    none = none-even v.hot (length c.opening.counts) got (c.phase + 1) (omega (arith, split))

    was : c.phase ≡ (c.phase - 1) + 1
    was = omega (arith, split)

    at : (c.phase - 1) - (c.phase - 1) % 2 ≡ c.phase - c.phase % 2
    at = omega (arith, split)

-- a release keeps that it chose by its counts
pub release-on : (c d : CoordSeatView) (v w : ChoiceView) → ReleasesNext c v d w
    → ((total : ℕ → ℕ → ℕ) → AreTotals total c.counted → HasChosen c v total)
    → (total : ℕ → ℕ → ℕ)
    → AreTotals total d.counted
    → HasChosen d w total
release-on c d v w (releases_joined split is same) old total all =
    let at : HasChosen (released_coord c) v total =
    joined-on c v total (old total (subst (λ (x : CoordSeatView). AreTotals total x.counted) is all)) split in
    subst (λ (x : CoordSeatView). HasChosen x w total) (sym is)
    (subst (λ x. HasChosen (released_coord c) x total) (sym same) at)
release-on c d v w (releases_split joined ready (chooses_none none published same) is) old total all =
    let counted : AreTotals total c.counted =
    subst (λ (x : CoordSeatView). AreTotals total x.counted) published
    (subst (λ (x : CoordSeatView). AreTotals total x.counted) is all) in
    let was : HasChosen c v total = old total counted in
    let zero-is : 0 ≡ hot_by v.hot (length c.opening.counts) (likes_counted c.opening.counts total) (c.phase + 1) =
    sym (ap (λ h. hot_by h (length c.opening.counts) (likes_counted c.opening.counts total) (c.phase + 1)) none) in
    let at : HasChosen (released_coord (published_coord c 0)) v total =
    split-on c v total was (published_coord c 0) 0 joined refl refl refl refl zero-is v refl
    (sym (append-nil v.chosen)) refl (λ least some page below. absurd (cc (sym none ∙ some))) in
    subst (λ (x : CoordSeatView). HasChosen x w total) (sym (is ∙ ap released_coord published))
    (subst (λ x. HasChosen (released_coord (published_coord c 0)) x total) (sym same) at)
release-on c d v w
    (releases_split joined ready (chooses_risen least counts some many m limit published same) is) old total all =
    let now : CoordSeatView = published_coord (counted_from c 0 counts) m in
    let reads : AreTotals total (counted_from c 0 counts).counted =
    subst (λ (x : CoordSeatView). AreTotals total x.counted) published
    (subst (λ (x : CoordSeatView). AreTotals total x.counted) is all) in
    let both = totals-from total c 0 counts reads in
    let was : HasChosen c v total = old total both.0 in
    let rose = risen-is c v total was least counts joined some many both.1 in
    let hots : hot_by (Some least) (length c.opening.counts) (likes_counted c.opening.counts total) (c.phase + 1)
    ≡ hot_by v.hot (length c.opening.counts) (likes_counted c.opening.counts total) (c.phase + 1) =
    ap (λ h. hot_by h (length c.opening.counts) (likes_counted c.opening.counts total) (c.phase + 1)) (sym some) in
    let listed : v.chosen
    ≡ chosen_below (hot_by (Some least) (length c.opening.counts) (likes_counted c.opening.counts total))
    (c.phase + 1) =
    was.chosen ∙ ap (λ h. chosen_below (hot_by h (length c.opening.counts) (likes_counted c.opening.counts total))
    (c.phase + 1)) some in
    let wanted : m ≡ hot_by v.hot (length c.opening.counts) (likes_counted c.opening.counts total) (c.phase + 1) =
    limit ∙ ap (λ xs. within_limit xs (risen least v.before counts)) listed
    ∙ limit-is least (length c.opening.counts) (likes_counted c.opening.counts total) (c.phase + 1)
    (risen least v.before counts) rose ∙ hots in
    let kept = counted-is c 0 counts in
    let next : ChoiceView = record v { before = counts; chosen = with_chosen v.chosen (c.phase + 1) m } in
    let at : HasChosen (released_coord now) next total =
    split-on c v total was now m joined (ap (λ (x : CoordSeatView). x.opening) kept)
    (ap (λ (x : CoordSeatView). x.phase) kept)
    (ap (λ (x : CoordSeatView). x.masks) kept) refl wanted next refl refl many
    (λ k is page below. both.1 page below ∙ ap (total c.phase) (zero-add page)) in
    subst (λ (x : CoordSeatView). HasChosen x w total) (sym (is ∙ ap released_coord published))
    (subst (λ x. HasChosen (released_coord now) x total) (sym same) at)

-- what was chosen at first
pub chosen-first : (c : CoordSeatView) (hot : Option ℕ) (counts : List ℕ)
    → counts ≡ c.opening.counts
    → c.phase ≡ 0
    → c.masks ≡ []
    → (total : ℕ → ℕ → ℕ)
    → HasChosen c (first_choice hot counts) total
chosen-first c hot counts same start none total = record {
  masks = λ k within. ap (λ (xs : List PhaseMask). mask_of xs k) none
      ∙ sym (zeroth hot k (omega (arith, within, start)));
  chosen = sym (empty hot)
      ∙ ap (λ n. chosen_below (hot_by hot (length c.opening.counts) (likes_counted c.opening.counts total)) (n + 1))
      (sym start);
  sized = length-take-le (min hot_pages (length counts)) counts (omega arith)
      ∙ ap (λ (xs : List ℕ). min hot_pages (length xs)) same;
  before = λ least some page below.
      get_or-take (min hot_pages (length counts)) counts page 0
      (omega (arith, below, length-take-le (min hot_pages (length counts)) counts (omega arith)))
      ∙ ap (λ xs. get_or xs page 0) same ∙ ap (λ k. total_before c.opening.counts total k page) (sym start);
} where
  zeroth : (h : Option ℕ) (k : ℕ) → k ≡ 0
      → hot_by h (length c.opening.counts) (likes_counted c.opening.counts total) k ≡ 0
  zeroth h k is = none-even h (length c.opening.counts) (likes_counted c.opening.counts total) k (omega (arith, is))

  empty : (h : Option ℕ)
      → chosen_below (hot_by h (length c.opening.counts) (likes_counted c.opening.counts total)) 1 ≡ []
  empty None = refl
  empty (Some least) = refl
