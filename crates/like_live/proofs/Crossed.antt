-- Two looks that cross are not those of one thread.
use Rattle.std.proofs.Common.{◌≡◌, ℕ, zero, suc, ◌+◌, ◌≤◌, ◌<◌, ◌==◌, nat_lt, inl, inr, List, [], ◌∷◌, ◌++◌, filter, take, length, get_or, slice_get, Some, refl, ap, sym, ◌∙◌, subst, arith}
use Rattle.std.proofs.lemmas.Bool.{cases_lt, ne_eqb}
use Rattle.like_requests.specs.Verdict.{home}
use Rattle.like_serial.proofs.Crossed.{take_most}
use Rattle.like_serial.proofs.Follows.{weigh-filter_less}
use Rattle.like_serial.proofs.Parts.{passed, place_of_part, take_part}
use Rattle.like_serial.proofs.Increasing.{Pairwise, alone_above, pairwise_at, pairwise_of, pairwise_pairs}
use Rattle.like_serial.proofs.Phases.{all_then, below, pairs_of}
use Rattle.like_serial.proofs.Totals.{same_in_all, weigh-all_alike}
use Rattle.like_serial.proofs.Seen.{not_some, some_is}
use Rattle.like_serial.proofs.Weigh.{only, sum-weigh, weigh, weigh-append, weigh-filter}
use Rattle.like_live.specs.declared.opening.Opening.{Opening}
use Rattle.like_live.specs.CrossedLooks.{CrossedLooksAreNotSerial, IsForTwo, like_and_look}
use Rattle.like_live.specs.Deeds.{Deed, counted, deed, showed}
use Rattle.like_live.specs.StrictService.{IsEarlier, IsStrictService, deeds_by}
use Rattle.like_live.proofs.DeedLikes.{ShowsCount, ShowsLast, count_after, fits_store, last_after, shows_count}
use Rattle.like_live.proofs.DeedPhases.{phase_of_deed}
use Rattle.like_live.proofs.DeedTotals.{likes_of_deed}

-- a seat's like comes before its look, and that shows no like of its own page
record Stands (serial : List Deed) (liked looked : ℕ) : Type 0 where
  place : ℕ
  some : 1 ≤ weigh (likes_of_deed liked) (take place serial)
  none : weigh (likes_of_deed looked) (take place serial) ≡ 0

stands : (o : Opening) (serial : List Deed) (deeds : List (List Deed)) (seat liked looked : ℕ) (a b : Deed)
    → o.seats ≡ 2
    → IsStrictService o deeds serial
    → get_or deeds seat [] ≡ a ∷ b ∷ []
    → weigh (likes_of_deed liked) (a ∷ []) ≡ 1
    → ((n : ℕ) → ShowsCount n b.act → n ≡ 0)
    → b.page ≡ looked
    → Stands serial liked looked
stands o serial deeds seat liked looked a b two is own likes shows page =
    let p = passed (λ (d : Deed). home o.seats d.user == seat) serial (a ∷ []) b [] (is.own seat ∙ own) in
    let place = length p.front in
    let front : take place serial ≡ p.front = ap (take place) p.is ∙ take_part p.front b p.rest in
    let less = weigh-filter_less (λ (d : Deed). home o.seats d.user == seat) (likes_of_deed liked) p.front in
    let mine : weigh (likes_of_deed liked) (filter (λ (d : Deed). home o.seats d.user == seat) p.front) ≡ 1 =
    ap (weigh (likes_of_deed liked)) p.fronts ∙ likes in
    let shown = shows _ (shows_count o (take place serial) b (is.fits place b
    (subst (λ xs. slice_get xs place ≡ Some b) (sym p.is) (place_of_part p.front b p.rest)))) in
    let among = sum-weigh (likes_of_deed b.page) (take place serial) in
    record {
      place = place;
      some = subst (λ xs. 1 ≤ weigh (likes_of_deed liked) xs) (sym front) (omega (arith, less, mine));
      none = subst (λ n. weigh (likes_of_deed n) (take place serial) ≡ 0) page (omega (arith, shown, among));
    }

apart : (o : Opening) (n m : ℕ) (serial : List Deed) → IsForTwo o
    → ¬ IsStrictService o (like_and_look n 0 0 1 0 ∷ like_and_look m 1 1 0 0 ∷ []) serial
apart o n m serial two is =
    let deeds = like_and_look n 0 0 1 0 ∷ like_and_look m 1 1 0 0 ∷ [] in
    let a = stands o serial deeds 0 0 1 (deed n 0 0 0 counted)
    (deed (n + 1) 0 0 1 (showed (record { last = Some 0; count = 0 }))) two.seats is refl refl (λ k e. sym e) refl in
    let b = stands o serial deeds 1 1 0 (deed m 0 1 1 counted)
    (deed (m + 1) 0 1 0 (showed (record { last = Some 1; count = 0 }))) two.seats is refl refl (λ k e. sym e) refl in
    elim (cases_lt a.place b.place) [
      | inl less ↦
          let most = take_most (likes_of_deed 0) serial a.place b.place (omega (arith, less)) in
          let some = a.some in
          let none = b.none in
          absurd (omega (arith, most, some, none))
      | inr least ↦
          let most = take_most (likes_of_deed 1) serial b.place a.place (omega (arith, least)) in
          let some = b.some in
          let none = a.none in
          absurd (omega (arith, most, some, none))
    ]

-- so a look shows no like with a greater number: user 0 is done by the time that user 1 likes the other page
late : (o : Opening) (serial : List Deed) → IsForTwo o
    → ¬ IsStrictService o (like_and_look 0 0 0 1 1 ∷ like_and_look 2 1 1 0 0 ∷ []) serial
late o serial two is =
    let a = deed 0 0 0 0 counted in
    let b = deed 1 0 0 1 (showed (record { last = Some 0; count = 1 })) in
    let own : (k : ℕ) → deeds_by 2 k serial ≡ get_or (like_and_look 0 0 0 1 1 ∷ like_and_look 2 1 1 0 0 ∷ []) k [] =
    subst (λ n. (k : ℕ) → deeds_by n k serial ≡ get_or (like_and_look 0 0 0 1 1 ∷ like_and_look 2 1 1 0 0 ∷ []) k [])
    two.seats is.own in
    let p = passed (λ (d : Deed). home 2 d.user == 0) serial (a ∷ []) b [] (own 0) in
    let f : Deed → ℕ = λ d. only (nat_lt d.number 2) (likes_of_deed 1 d) in
    let none : weigh f serial ≡ 0 =
    same_in_all (λ (d : Deed). home 2 d.user) f (λ (n : ℕ). n) (λ n. 0) serial []
    (λ k. sym (weigh-filter (λ (d : Deed). home 2 d.user == k) f serial) ∙ ap (weigh f) (own k) ∙ by_seat k) in
    let early : weigh (likes_of_deed 1) p.front ≡ weigh f p.front =
    weigh-all_alike (likes_of_deed 1) f p.front
    (all_then (λ (c : Deed). c.number < 1) (λ c. likes_of_deed 1 c ≡ f c) p.front
    (λ c less. sym (ap (λ t. only t (likes_of_deed 1 c)) (below c.number 2 (omega (arith, less)))))
    (alone_above (λ (c : Deed). c.number) (λ c. c.act ≡ counted) b (λ e. absurd (cc e)) p.front
    (pairwise_at IsEarlier p.front b p.rest (subst (Pairwise IsEarlier) p.is (pairwise_of IsEarlier serial is.in_time))).0)) in
    let front : take (length p.front) serial ≡ p.front = ap (take (length p.front)) p.is ∙ take_part p.front b p.rest in
    let shown = shows_count o (take (length p.front) serial) b (is.fits (length p.front) b
    (subst (λ xs. slice_get xs (length p.front) ≡ Some b) (sym p.is) (place_of_part p.front b p.rest))) in
    absurd (omega (
      arith,
      shown,
      none,
      early,
      ap (λ xs. get_or xs 1 0) two.counts,
      sum-weigh (likes_of_deed 1) (take (length p.front) serial),
      ap (weigh (likes_of_deed 1)) front,
      ap (weigh f) p.is,
      weigh-append f p.front (b ∷ p.rest),
    ))
  where
    by_seat : (k : ℕ)
        → weigh (λ d. only (nat_lt d.number 2) (likes_of_deed 1 d))
        (get_or (like_and_look 0 0 0 1 1 ∷ like_and_look 2 1 1 0 0 ∷ []) k [])
        ≡ 0
    by_seat zero = refl
    by_seat (suc zero) = refl
    by_seat (suc (suc k)) = refl

module _ (o : Opening) (two : IsForTwo o) where
  abbrev both : List Deed
  both = like_and_look 0 0 0 1 0 ++ like_and_look 2 1 1 0 1

  own : (seat : ℕ) → deeds_by 2 seat both ≡ get_or (like_and_look 0 0 0 1 0 ∷ like_and_look 2 1 1 0 1 ∷ []) seat []
  own zero = refl
  own (suc zero) = refl
  own (suc (suc seat)) =
      rw (
        ne_eqb 0 (suc (suc seat)) (λ e. absurd (omega (arith, e))),
        ne_eqb 1 (suc (suc seat)) (λ e. absurd (omega (arith, e))),
      ) refl

  lasts : (i : ℕ) (d : Deed) → slice_get both i ≡ Some d → ShowsLast (last_after o d.user (take i both)) d.act
  lasts zero d at = subst (λ (e : Deed). ShowsLast (last_after o e.user []) e.act) (some_is _ d at) tt
  lasts (suc zero) d at =
      subst (λ (e : Deed). ShowsLast (last_after o e.user (take 1 both)) e.act) (some_is _ d at) refl
  lasts (suc (suc zero)) d at =
      subst (λ (e : Deed). ShowsLast (last_after o e.user (take 2 both)) e.act) (some_is _ d at) tt
  lasts (suc (suc (suc zero))) d at =
      subst (λ (e : Deed). ShowsLast (last_after o e.user (take 3 both)) e.act) (some_is _ d at) refl
  lasts (suc (suc (suc (suc i)))) d at = absurd (not_some d at)

  counts : (i : ℕ) (d : Deed) → slice_get both i ≡ Some d → ShowsCount (count_after o d.page (take i both)) d.act
  counts zero d at = subst (λ (e : Deed). ShowsCount (count_after o e.page []) e.act) (some_is _ d at) tt
  counts (suc zero) d at =
      subst (λ (e : Deed). ShowsCount (count_after o e.page (take 1 both)) e.act) (some_is _ d at)
      (ap (λ xs. get_or xs 1 0 + 0) (sym two.counts))
  counts (suc (suc zero)) d at =
      subst (λ (e : Deed). ShowsCount (count_after o e.page (take 2 both)) e.act) (some_is _ d at) tt
  counts (suc (suc (suc zero))) d at =
      subst (λ (e : Deed). ShowsCount (count_after o e.page (take 3 both)) e.act) (some_is _ d at)
      (ap (λ xs. get_or xs 0 0 + 1) (sym two.counts))
  counts (suc (suc (suc (suc i)))) d at = absurd (not_some d at)

  in_order : IsStrictService o (like_and_look 0 0 0 1 0 ∷ like_and_look 2 1 1 0 1 ∷ []) both
  in_order = record {
    own = λ seat. subst (λ n. deeds_by n seat both ≡ get_or (like_and_look 0 0 0 1 0 ∷ like_and_look 2 1 1 0 1 ∷ []) seat [])
        (sym two.seats) (own seat);
    in_time = pairwise_pairs IsEarlier both (
      (inl (omega arith), (inl (omega arith), (inl (omega arith), tt))),
      ((inl (omega arith), (inl (omega arith), tt)), ((inl (omega arith), tt), (tt, tt))),
    );
    rising = pairs_of phase_of_deed both
        ((omega arith, (omega arith, (omega arith, tt))), ((omega arith, (omega arith, tt)), ((omega arith, tt), (tt, tt))));
    fits = λ i d at. fits_store o (take i both) d (lasts i d at) (counts i d at);
  }

pub crossed_looks_are_not_serial : CrossedLooksAreNotSerial
crossed_looks_are_not_serial = record { crossed = apart; ordered = in_order; in_time = late }
