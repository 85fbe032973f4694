-- In a strict service each deed fits what all deeds with lesser numbers leave.
use Rattle.std.proofs.Common.{◌≡◌, ℕ, zero, suc, ◌+◌, ◌<◌, ◌≤◌, ◌==◌, nat_lt, ◌⊎◌, inl, inr, Bool, List, [], ◌∷◌, ◌++◌, filter, take, drop, get_or, slice_get, Some, refl, ap, ap₂, sym, ◌∙◌, subst, arith, append-nil, ne_eqb}
use Rattle.std.specs.List.{AllByRecursion, flat_map, last_or}
use Rattle.std.proofs.lemmas.List.Elements.{filter-append}
use Rattle.like_promises.specs.declared.reply.Reply.TheVariants.{Seen}
use Rattle.like_promises.specs.Store.{Store}
use Rattle.like_requests.specs.Verdict.{home}
use Rattle.like_serial.proofs.Increasing.{Earlier, Pairwise, alone_above, filter_rec, pairwise_at, pairwise_of}
use Rattle.like_serial.proofs.Interleaved.{key_all, key_none, with_key}
use Rattle.like_serial.proofs.Parts.{at_place}
use Rattle.like_serial.proofs.Phases.{all_append, all_below, all_then, filter-swap, key_is, none_below, rec_all}
use Rattle.like_serial.proofs.Totals.{same_in_all}
use Rattle.like_serial.proofs.Weigh.{sum-weigh, weigh, weigh-filter}
use Rattle.like_live.specs.declared.opening.Opening.{Opening}
use Rattle.like_live.specs.DeedStore.{Fits, store_after}
use Rattle.like_live.specs.Deeds.{Act, Deed, counted, glimpsed, showed}
use Rattle.like_live.specs.StrictService.{DeedsFitEarlier, IsStrictService, opened}
use Rattle.like_live.proofs.DeedLikes.{count_is, last_is, likes_among, pages_counted, user_likes}
use Rattle.like_live.proofs.DeedTotals.{likes_of_deed}

-- what is true at each place is true of all
rec_of : {X : Type 0} (P : X → Type 0) (xs : List X) → ((i : ℕ) (x : X) → slice_get xs i ≡ Some x → P x)
    → AllByRecursion P xs
rec_of P [] each = tt
rec_of P (x ∷ xs) each = (each 0 x refl, rec_of P xs (λ i y at. each (suc i) y at))

-- and what is true of all in each list is true of all in all lists
rec_flat : {X : Type 0} (P : X → Type 0) (lists : List (List X)) → ((k : ℕ) → AllByRecursion P (get_or lists k []))
    → AllByRecursion P (flat_map (λ xs. xs) lists)
rec_flat P [] each = tt
rec_flat P (xs ∷ lists) each =
    all_append P xs (flat_map (λ ys. ys) lists) (each 0) (rec_flat P lists (λ k. each (suc k)))

-- lists, each of which has all elements with its number as key
key_flat : {X : Type 0} (key : X → ℕ) (lists : List (List X)) (from : ℕ)
    → ((k : ℕ) → AllByRecursion (λ x. key x ≡ from + k) (get_or lists k []))
    → (k : ℕ) → with_key key (from + k) (flat_map (λ xs. xs) lists) ≡ get_or lists k []
key_flat key [] from each k = refl
key_flat key (xs ∷ lists) from each zero =
    filter-append (λ x. key x == (from + 0)) xs (flat_map (λ ys. ys) lists)
    ∙ ap₂ (λ a b. a ++ b) (key_all key (from + 0) xs (each 0))
    (key_past key lists (suc from) (λ k. next k) (from + 0) (omega arith)) ∙ append-nil xs
  where
    next : (k : ℕ) → AllByRecursion (λ x. key x ≡ suc from + k) (get_or lists k [])
    next k = all_then (λ x. key x ≡ from + suc k) (λ x. key x ≡ suc from + k) (get_or lists k [])
        (λ x is. omega (arith, is)) (each (suc k))

    key_past : {X : Type 0} (key : X → ℕ) (lists : List (List X)) (from : ℕ)
        → ((k : ℕ) → AllByRecursion (λ x. key x ≡ from + k) (get_or lists k []))
        → (j : ℕ) → j < from → with_key key j (flat_map (λ xs. xs) lists) ≡ []
    key_past key [] from each j less = refl
    key_past key (ys ∷ lists) from each j less =
        filter-append (λ x. key x == j) ys (flat_map (λ zs. zs) lists)
        ∙ ap₂ (λ a b. a ++ b)
        (key_none key (from + 0) j ys (each 0) (ne_eqb (from + 0) j (λ e. absurd (omega (arith, e, less)))))
        (key_past key lists (suc from)
        (λ k. all_then (λ x. key x ≡ from + suc k) (λ x. key x ≡ suc from + k) (get_or lists k [])
        (λ x is. omega (arith, is)) (each (suc k)))
        j (omega (arith, less)))
key_flat key (xs ∷ lists) from each (suc k) =
    filter-append (λ x. key x == (from + suc k)) xs (flat_map (λ ys. ys) lists)
    ∙ ap₂ (λ a b. a ++ b)
    (key_none key (from + 0) (from + suc k) xs (each 0)
    (ne_eqb (from + 0) (from + suc k) (λ e. absurd (omega (arith, e)))))
    (ap (λ n. with_key key n (flat_map (λ ys. ys) lists)) same
    ∙ key_flat key lists (suc from)
    (λ j. all_then (λ x. key x ≡ from + suc j) (λ x. key x ≡ suc from + j) (get_or lists j [])
    (λ x is. omega (arith, is)) (each (suc j)))
    k)
  where
    same : from + suc k ≡ suc from + k
    same = omega arith

-- a deed fits a store if it fits another with the same count of its page and the same last like of its user
fits_alike : (s t : Store) (user page : ℕ) (a : Act) → t.last user ≡ s.last user → t.count page ≡ s.count page
    → Fits s user page a → Fits t user page a
fits_alike s t user page counted last count fits = tt
fits_alike s t user page (showed seen) last count fits = ap₂ Seen last count ∙ fits
fits_alike s t user page (glimpsed seen) last count fits = last ∙ fits

module _ (o : Opening) (deeds : List (List Deed)) (serial : List Deed) (is : IsStrictService o deeds serial) where
  abbrev whose : Deed → ℕ
  whose d = home o.seats d.user

  abbrev all : List Deed
  all = flat_map (λ ds. ds) deeds

  -- each seat's deeds among all are those in the serial list
  same_seat : (k : ℕ) → with_key whose k all ≡ with_key whose k serial
  same_seat k =
      ap (λ n. with_key whose n all) (zero_and k)
      ∙ key_flat whose deeds 0
      (λ j. all_then (λ (d : Deed). whose d ≡ j) (λ d. whose d ≡ 0 + j) (get_or deeds j [])
      (λ d at. omega (arith, at))
      (subst (AllByRecursion (λ (d : Deed). whose d ≡ j)) (is.own j) (key_is whose j serial)))
      k
      ∙ sym (is.own k) where
        zero_and : (k : ℕ) → k ≡ 0 + k
        zero_and k = omega arith

  same_count : (n page : ℕ)
      → likes_among page (filter (λ e. nat_lt e.number n) all) ≡ likes_among page (filter (λ e. nat_lt e.number n) serial)
  same_count n page =
      let f : Deed → ℕ = likes_of_deed page in
      let early : Deed → Bool = λ e. nat_lt e.number n in
      sum-weigh f (filter early all)
      ∙ same_in_all whose f whose f (filter early all) (filter early serial)
      (λ k. sym (weigh-filter (λ (d : Deed). whose d == k) f (filter early all))
      ∙ ap (weigh f)
      (filter-swap (λ (d : Deed). whose d == k) early all ∙ ap (filter early) (same_seat k)
      ∙ sym (filter-swap (λ (d : Deed). whose d == k) early serial))
      ∙ weigh-filter (λ (d : Deed). whose d == k) f (filter early serial))
      ∙ sym (sum-weigh f (filter early serial))

  same_pages : (n user : ℕ)
      → pages_counted user (filter (λ e. nat_lt e.number n) all) ≡ pages_counted user (filter (λ e. nat_lt e.number n) serial)
  same_pages n user =
      let early : Deed → Bool = λ e. nat_lt e.number n in
      let k = home o.seats user in
      user_likes o user (filter early all)
      ∙ ap (pages_counted user)
      (filter-swap (λ (d : Deed). whose d == k) early all ∙ ap (filter early) (same_seat k)
      ∙ sym (filter-swap (λ (d : Deed). whose d == k) early serial))
      ∙ sym (user_likes o user (filter early serial))

  abbrev IsCounted : Deed → Type 0
  IsCounted d = d.act ≡ counted

  abbrev before : Deed → Deed → Type 0
  before d e = Earlier (λ (c : Deed). c.number) IsCounted d e

  -- the deeds before one that isn't a like are those with lesser numbers
  before_is : (i : ℕ) (d : Deed) → slice_get serial i ≡ Some d → (d.act ≡ counted → ⊥)
      → filter (λ e. nat_lt e.number d.number) serial ≡ take i serial
  before_is i d at alone =
      let rest = drop (suc i) serial in
      let here = at_place serial i d at in
      let up = pairwise_at before (take i serial) d rest (subst (Pairwise before) here (pairwise_of before serial is.in_time)) in
      ap (filter (λ (e : Deed). nat_lt e.number d.number)) here
      ∙ filter-append (λ (e : Deed). nat_lt e.number d.number) (take i serial) (d ∷ rest)
      ∙ ap₂ (λ a b. a ++ b)
      (all_below (λ (e : Deed). e.number) d.number (take i serial)
      (alone_above (λ (e : Deed). e.number) IsCounted d alone (take i serial) up.0))
      (none_below (λ (e : Deed). e.number) d.number (d ∷ rest) (
        omega arith,
        all_then (before d) (λ e. d.number ≤ e.number) rest
            (λ e later. elim later [ inl less ↦ omega (arith, less) | inr same ↦ absurd (alone same.1) ]) up.1,
      ))
      ∙ append-nil (take i serial)

  abbrev FitsEarlier : Deed → Type 0
  FitsEarlier d =
      Fits (store_after (opened o) (filter (λ e. nat_lt e.number d.number) all)) d.user d.page d.act

  each_fits : (i : ℕ) (d : Deed) → slice_get serial i ≡ Some d → FitsEarlier d
  each_fits i d at =
      elim (counted_or d.act) [
        | inl is_counted ↦ subst (λ a. Fits (store_after (opened o) early) d.user d.page a) (sym is_counted) tt
        | inr alone ↦
            let s = opened o in
            fits_alike (store_after s first) (store_after s early) d.user d.page d.act
            (last_is s early d.user
            ∙ ap (last_or (s.last d.user)) (same_pages d.number d.user ∙ ap (pages_counted d.user) (before_is i d at alone))
            ∙ sym (last_is s first d.user))
            (count_is s early d.page
            ∙ ap (λ n. s.count d.page + n)
            (same_count d.number d.page ∙ ap (likes_among d.page) (before_is i d at alone))
            ∙ sym (count_is s first d.page))
            (is.fits i d at)
      ]
    where
      first : List Deed
      first = take i serial

      early : List Deed
      early = filter (λ (e : Deed). nat_lt e.number d.number) all

      counted_or : (a : Act) → (a ≡ counted) ⊎ (a ≡ counted → ⊥)
      counted_or counted = inl refl
      counted_or (showed s) = inr (λ e. absurd (cc e))
      counted_or (glimpsed s) = inr (λ e. absurd (cc e))

pub deeds_fit_earlier : DeedsFitEarlier
deeds_fit_earlier o deeds serial is =
    let P = λ (d : Deed). FitsEarlier o deeds serial is d in
    rec_all P (flat_map (λ ds. ds) deeds)
    (rec_flat P deeds
    (λ k. subst (AllByRecursion P) (is.own k)
    (filter_rec P (λ d. home o.seats d.user == k) serial (rec_of P serial (each_fits o deeds serial is)))))
