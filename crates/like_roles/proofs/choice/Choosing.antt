-- What the coordinator chooses, by the counts that it read.
use Rattle.std.proofs.Common.{◌≡◌, ◌⊎◌, ℕ, zero, suc, ◌+◌, ◌<◌, ◌≤◌, Bool, true, false, cond, ltb, min, List, [], ◌∷◌, ◌++◌, length, get_or, Option, Some, refl, sym, ap, ◌∙◌, subst, arith, inl, inr, add-zero, zero-add, append-nil, length-append, rules}
use Rattle.std.proofs.lemmas.Bool.{cases_lt, le-ltb, lt-ltb}
use Rattle.std.proofs.lemmas.List.FromFn.{filter_of_map_range_with_len_more}
use Rattle.like_core.specs.declared.view.CoordSeatView.{CoordSeatView}
use Rattle.like_core.specs.declared.view.PageCount.{PageCount}
use Rattle.like_core.specs.views.Views.{counted_coord, published_coord, released_coord, saw_all_gone, MayRelease, SawAllIn}
use Rattle.like_seat.proofs.Leading.{saw-still, counted-is}
use Rattle.like_seat.specs.Lead.{ChoosesRisen, LeadView, counted_from, none_asked, published, those_risen}
use Rattle.like_promises.specs.declared.chosen.Chosen.{Chosen}
use Rattle.like_roles.specs.coordinator.Choice.{AreTotals, ChoiceView, Chooses, ReleasesNext, chooses_none, chooses_risen, choice_of, releases_joined, releases_split, with_chosen, within_limit}
use Rattle.like_promises.specs.HotPages.{chosen_below, hot_by, liked_pages, max_chosen}

-- a mask within the limit is no greater
limited-le : (chosen : List Chosen) (m : ℕ) → within_limit chosen m ≤ m
limited-le chosen m =
    let P : Bool → Type 0 = λ b. cond b m 0 ≤ m in
    elim (ltb (length chosen) max_chosen) as P [
      | true ↦ omega arith
      | false ↦ omega arith
    ]

-- no mask is within each limit
limited-none : (chosen : List Chosen) → within_limit chosen 0 ≡ 0
limited-none chosen = let le = limited-le chosen 0 in omega arith

-- the counts that were read are the totals, as those before them are
pub totals-from : (total : ℕ → ℕ → ℕ) (c : CoordSeatView) (page : ℕ) (counts : List ℕ)
    → AreTotals total (counted_from c page counts).counted
    → AreTotals total c.counted × ((k : ℕ) → k < length counts → get_or counts k 0 ≡ total c.phase (page + k))
totals-from total c page [] all = (all, λ k h. absurd (omega (arith, h)))
totals-from total c page (x ∷ counts) all =
    let rest = totals-from total (counted_coord c page x) (page + 1) counts all in
    let first : x ≡ total c.phase page = rest.0 0 (record { phase = c.phase; page = page; count = x }) (omega arith) in
    (λ k d h. rest.0 (suc k) d (omega (arith, h)), at first rest.1)
  where
    at : x ≡ total c.phase page → ((k : ℕ) → k < length counts → get_or counts k 0 ≡ total c.phase (page + 1 + k))
        → (k : ℕ) → k < suc (length counts) → get_or (x ∷ counts) k 0 ≡ total c.phase (page + k)
    at first others zero h = first ∙ ap (λ p. total c.phase p) (sym (add-zero page))
    at first others (suc k) h = others k (omega (arith, h)) ∙ ap (λ p. total c.phase p) (omega arith)

-- the phases with pages below one phase more
pub chosen-more : (masks : ℕ → ℕ) (n : ℕ)
    → chosen_below masks (n + 1)
    ≡ chosen_below masks n ++ cond (ltb 0 (masks n)) (record { phase = n; mask = masks n } ∷ []) []
chosen-more masks n =
    filter_of_map_range_with_len_more (λ (c : Chosen). ltb 0 c.mask) (λ k. record { phase = k; mask = masks k }) 0 n n
    (zero-add n)

module _ (least pages : ℕ) (got : ℕ → ℕ → ℕ) where
  abbrev pub enough : ℕ → ℕ
  enough = liked_pages least pages got

  abbrev pub hot : ℕ → ℕ
  hot = hot_by (Some least) pages got

  abbrev one : Bool → ℕ → ℕ → List Chosen
  one b n m = cond b (record { phase = n; mask = m } ∷ []) []

  -- as many phases are chosen as got enough likes, up to the limit
  chosen-count : (n : ℕ) → length (chosen_below hot n) ≡ min max_chosen (length (chosen_below enough n))
  chosen-count zero = refl
  chosen-count (suc n) =
      ap (λ k. length (chosen_below hot k)) next ∙ ap length (chosen-more hot n)
      ∙ length-append (chosen_below hot n) (one (ltb 0 (hot n)) n (hot n))
      ∙ ap (λ k. k + length (one (ltb 0 (hot n)) n (hot n))) (chosen-count n)
      ∙ by_limit (cases_lt (length (chosen_below enough n)) max_chosen)
      ∙ ap (λ k. min max_chosen k)
      (sym (length-append (chosen_below enough n) (one (ltb 0 (enough n)) n (enough n)))
      ∙ ap length (sym (chosen-more enough n)) ∙ ap (λ k. length (chosen_below enough k)) (sym next)) where
        next : suc n ≡ n + 1
        next = omega arith

        size : (b : Bool) (m : ℕ) → length (one b n m) ≡ cond b 1 0
        size true m = refl
        size false m = refl

        few : (b : Bool) (k : ℕ) → k < 1024 → min 1024 k + cond b 1 0 ≡ min 1024 (k + cond b 1 0)
        few true k h = omega (arith, h)
        few false k h = omega (arith, h)

        many : (b : Bool) (k : ℕ) → 1024 ≤ k → min 1024 k + 0 ≡ min 1024 (k + cond b 1 0)
        many true k h = omega (arith, h)
        many false k h = omega (arith, h)

        by_limit : (length (chosen_below enough n) < max_chosen) ⊎ (max_chosen ≤ length (chosen_below enough n))
            → min max_chosen (length (chosen_below enough n)) + length (one (ltb 0 (hot n)) n (hot n))
            ≡ min max_chosen (length (chosen_below enough n) + length (one (ltb 0 (enough n)) n (enough n)))
        by_limit (inl below) =
            let same : hot n ≡ enough n =
            ap (λ b. cond b (enough n) 0) (lt-ltb (length (chosen_below enough n)) max_chosen below) in
            ap (λ m. min max_chosen (length (chosen_below enough n)) + length (one (ltb 0 m) n m)) same
            ∙ ap (λ k. min max_chosen (length (chosen_below enough n)) + k) (size (ltb 0 (enough n)) (enough n))
            ∙ few (ltb 0 (enough n)) (length (chosen_below enough n)) below
            ∙ ap (λ k. min max_chosen (length (chosen_below enough n) + k)) (sym (size (ltb 0 (enough n)) (enough n)))
        by_limit (inr past) =
            let none : hot n ≡ 0 =
            ap (λ b. cond b (enough n) 0) (le-ltb (length (chosen_below enough n)) max_chosen past) in
            ap (λ m. min max_chosen (length (chosen_below enough n)) + length (one (ltb 0 m) n m)) none
            ∙ many (ltb 0 (enough n)) (length (chosen_below enough n)) past
            ∙ ap (λ k. min max_chosen (length (chosen_below enough n) + k)) (sym (size (ltb 0 (enough n)) (enough n)))

  -- the limit on choices is that on phases with enough likes
  pub limit-is : (n : ℕ) (m : ℕ) → m ≡ enough n → within_limit (chosen_below hot n) m ≡ hot n
  limit-is n m is =
      ap (λ x. cond (ltb (length (chosen_below hot n)) max_chosen) x 0) is
      ∙ ap (λ b. cond b (enough n) 0) (tests (cases_lt (length (chosen_below enough n)) max_chosen)) where
        tests : (length (chosen_below enough n) < max_chosen) ⊎ (max_chosen ≤ length (chosen_below enough n))
            → ltb (length (chosen_below hot n)) max_chosen ≡ ltb (length (chosen_below enough n)) max_chosen
        tests (inl below) =
            let count = chosen-count n in
            lt-ltb (length (chosen_below hot n)) max_chosen (omega (arith, count, below))
            ∙ sym (lt-ltb (length (chosen_below enough n)) max_chosen below)
        tests (inr past) =
            let count = chosen-count n in
            le-ltb (length (chosen_below hot n)) max_chosen (omega (arith, count, past))
            ∙ sym (le-ltb (length (chosen_below enough n)) max_chosen past)

-- a choice is made at the lead's own board
pub chooses-board : (v : LeadView) (m : ℕ) (after : LeadView) → ChoosesRisen v m after → after.board ≡ v.board
chooses-board v m after (none_asked none zero-is same) = ap (λ (l : LeadView). l.board) same
chooses-board v m after (those_risen least counts some many risen-is same) = ap (λ (l : LeadView). l.board) same

-- what a lead chooses, limited, noted and published, is a choice
pub chooses-limited : (lead ready after : LeadView) (chosen : List Chosen) (m : ℕ)
    → ChoosesRisen lead m ready
    → after ≡ published ready (within_limit chosen m)
    → Chooses lead.seat (choice_of lead chosen) after.seat
    (choice_of after (with_chosen chosen (lead.seat.phase + 1) (within_limit chosen m)))
chooses-limited lead ready after chosen m (none_asked none zero-is same) is =
    let zero-within : within_limit chosen m ≡ 0 = ap (within_limit chosen) zero-is ∙ limited-none chosen in
    chooses_none none
    (ap (λ (l : LeadView). l.seat) is ∙ (λ i. published_coord (same i).seat (zero-within i)))
    (λ i. record {
      hot = (ap (λ (l : LeadView). l.hot) is ∙ ap (λ (l : LeadView). l.hot) same) i;
      before = (ap (λ (l : LeadView). l.before) is ∙ ap (λ (l : LeadView). l.before) same) i;
      chosen = (ap (with_chosen chosen (lead.seat.phase + 1)) zero-within ∙ append-nil chosen) i;
    })
chooses-limited lead ready after chosen m (those_risen least counts some many risen-is same) is =
    chooses_risen least counts some many (within_limit chosen m) (ap (within_limit chosen) risen-is)
    (ap (λ (l : LeadView). l.seat) is ∙ ap (λ (l : LeadView). published_coord l.seat (within_limit chosen m)) same)
    (ap (λ (l : LeadView). choice_of l (with_chosen chosen (lead.seat.phase + 1) (within_limit chosen m))) is
    ∙ ap (λ (l : LeadView). choice_of l (with_chosen chosen (lead.seat.phase + 1) (within_limit chosen m))) same)

-- after a choice the seat has published, and still has seen all in
pub may-release : (c d : CoordSeatView) (v w : ChoiceView) → Chooses c v d w → SawAllIn c → MayRelease d
may-release c d v w (chooses_none none published same) saw =
    subst MayRelease (sym published) (saw, λ joined. search rules)
may-release c d v w (chooses_risen least counts some many m limit published same) saw =
    subst MayRelease (sym published) (saw-still c 0 counts saw, λ joined. search rules)

-- a release changes nothing else of what the seat knows before it
pub release-is : (c d : CoordSeatView) (v w : ChoiceView) → ReleasesNext c v d w
    → (counted : List PageCount) × (published : Option ℕ)
    × (d ≡ released_coord (record c { counted = counted; published = published }))
release-is c d v w (releases_joined split is same) = (c.counted, c.published, is)
release-is c d v w (releases_split joined ready (chooses_none none published same) is) =
    (c.counted, Some 0, is ∙ ap released_coord published)
release-is c d v w (releases_split joined ready (chooses_risen least counts some many m limit published same) is) = (
  (counted_from c 0 counts).counted,
  Some m,
  is ∙ ap released_coord published
      ∙ ap (λ (x : CoordSeatView). released_coord (published_coord x m)) (counted-is c 0 counts),
)

-- after a release a split phase has all gone only where the last sight had it
pub release-gone : (c d : CoordSeatView) (v w : ChoiceView) → ReleasesNext c v d w → d.gone ≡ saw_all_gone c.last
release-gone c d v w r = ap (λ (x : CoordSeatView). x.gone) (release-is c d v w r).2

-- the board is the one that opened so
pub release-opening : (c d : CoordSeatView) (v w : ChoiceView) → ReleasesNext c v d w → d.opening ≡ c.opening
release-opening c d v w r = ap (λ (x : CoordSeatView). x.opening) (release-is c d v w r).2
