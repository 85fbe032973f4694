-- The calls of all seats of a service are those of one thread, in the order of their numbers.
use Rattle.std.proofs.Common.{◌≡◌, ℕ, suc, ◌+◌, ◌≤◌, ◌<◌, inl, inr, Bool, cond, nat_lt, ◌==◌, List, [], ◌∷◌, ◌++◌, filter, map, take, drop, length, get_or, slice_get, Some, refl, ap, sym, ◌∙◌, subst, arith, eq-eqb}
use Rattle.std.specs.List.{All, AllByRecursion, last_or, sum_by}
use Rattle.std.proofs.lemmas.List.{length-map}
use Rattle.std.proofs.lemmas.List.Elements.{filter-append}
use Rattle.like_core.specs.declared.page_step.PageCall.TheVariants.{Read}
use Rattle.like_core.specs.declared.worker_state.WorkerState.TheVariants.{Gone}
use Rattle.like_core.specs.Additions.{added_before}
use Rattle.like_core.specs.Log.{logged_by, numbered}
use Rattle.like_core.specs.declared.log.LogEntry.{LogEntry}
use Rattle.like_core.specs.PageSteps.{additions_among, page_step}
use Rattle.like_core.proofs.views.Clock.{IsAt}
use Rattle.like_core.specs.WorkerState.{RunsSplit}
use Rattle.like_requests.specs.Verdict.{home}
use Rattle.like_seat.specs.StationView.{phase_at}
use Rattle.like_serial.proofs.ByNumber.{FitsLog, IsLogged, IsMerged, IsReadAt, merged_by_number}
use Rattle.like_serial.proofs.Counts.{weigh-map}
use Rattle.like_serial.proofs.Increasing.{Earlier, Pairwise, pairwise_pairs}
use Rattle.like_serial.proofs.LogSteps.{adds_in, adds_of_worker}
use Rattle.like_serial.proofs.Interleaved.{with_key}
use Rattle.like_serial.proofs.Parts.{at_place, place_of_part, take_part}
use Rattle.like_serial.proofs.Phases.{all_then, pairs_of}
use Rattle.like_serial.proofs.Seen.{not_some, some_is}
use Rattle.like_serial.proofs.Totals.{only-none, same_in_all}
use Rattle.like_serial.proofs.Weigh.{only, sum-weigh, weigh, weigh-filter}
use Rattle.like_tables.specs.UserTable.{last_in, last_of}
use Rattle.like_live.specs.declared.opening.Opening.{Opening}
use Rattle.like_live.specs.LiveView.{LiveView}
use Rattle.like_live.specs.Deeds.{Act, Deed, counted, glimpsed, showed}
use Rattle.like_live.specs.StrictService.{HasLastLikes, IsStrictService, SeatHistory, deeds_in, opened as store_opened}
use Rattle.like_live.proofs.DeedPlaces.{MayHave}
use Rattle.like_live.proofs.DeedLikes.{ShowsCount, ShowsLast, count_after, fits_store, last_after, last_is, likes_among, pages_counted, user_likes}
use Rattle.like_live.proofs.DeedPhases.{phase_of_deed}
use Rattle.like_live.proofs.DeedPlain.{ReadsPlain, deed_under, entry_under}
use Rattle.like_live.proofs.DeedTotals.{deed_in, is_none, likes_of_deed, sliced_in, step_in}
use Rattle.like_live.proofs.Snapshots.{at_number}
use Rattle.like_live.proofs.Places.{all_of_places, alike_at, at_map, deeds_at, deeds_past, deeds_there, none_at, none_past, place}
use Rattle.like_live.proofs.SeatInOrder.{AreInOrder, HasEntry, done, early_none, ends_of, entry_of, has_before, has_entries, has_lasts, has_owners, has_plain, has_totals, left_lasts, logged, of_end, split_among, stands, worker_is, in_time as seat_in_time}

abbrev number_of_deed : Deed → ℕ
number_of_deed d = d.number

-- a deed shows a count of a page, by a look or a glance at one that isn't split then
abbrev ShowsBy : (at : ℕ) → Act → (page count : ℕ) → Type 0
ShowsBy at counted page count = ⊥
ShowsBy at (showed s) page count = (at ≡ page) × (s.count ≡ count)
ShowsBy at (glimpsed s) page count = ⊥

abbrev Shows : Deed → ℕ → ℕ → Type 0
Shows d page count = ShowsBy d.page d.act page count

-- and one that counts a like may share a number
abbrev IsCounted : Deed → Type 0
IsCounted d = d.act ≡ counted

module _ (o : Opening) (hs : List SeatHistory) (r : AreInOrder o hs) where
  abbrev ends : List LiveView
  ends = ends_of hs

  abbrev log : List LogEntry
  log = r.log

  abbrev last : ℕ
  last = r.phase

  abbrev split : ℕ → ℕ → Bool
  split = split_among o hs r

  -- no seat has a like in its slice in this phase
  abbrev pub IsSettled : ℕ → Type 0
  IsSettled k = All (λ (s : LiveView). (page : ℕ) → sliced_in k page s ≡ 0) ends

  -- what is true of no deeds past all seats, and of each seat's
  each_run : (P : ℕ → List Deed → Type 0) → ((i : ℕ) → length hs ≤ i → P i [])
      → ((i : ℕ) (h : SeatHistory) → slice_get hs i ≡ Some h → P i (deeds_in h))
      → (i : ℕ) → P i (deeds_at hs i)
  each_run P past there i = elim (place hs i) [
    | inl h ↦ subst (P i) (sym (deeds_there hs i h.0 h.1)) (there i h.0 h.1)
    | inr none ↦ subst (P i) (sym (deeds_past hs i none)) (past i none)
  ]

  none_logged : (i : ℕ) → length hs ≤ i → logged_by i log ≡ []
  none_logged i past =
      r.order.others i
      (none_past hs 0 i (λ k h at. let e = worker_is o hs r k h at in omega (arith, e)) (omega (arith, past)))

  abbrev user_home : Deed → ℕ
  user_home d = home o.seats d.user

  abbrev first_count : ℕ → ℕ
  first_count page = get_or o.counts.items page 0

  abbrev IsLoggedDeed : Deed → Type 0
  IsLoggedDeed = IsLogged user_home number_of_deed phase_of_deed likes_of_deed IsCounted Shows split first_count last log (length hs) (deeds_at hs)

  abbrev IsReadDeed : Deed → ℕ → ℕ → Type 0
  IsReadDeed = IsReadAt user_home number_of_deed phase_of_deed likes_of_deed IsCounted Shows split first_count last log (length hs) (deeds_at hs)

  abbrev Fits : Type 0
  Fits = FitsLog user_home number_of_deed phase_of_deed likes_of_deed IsCounted Shows split first_count last log (length hs) (deeds_at hs)

  logged_deeds : (i : ℕ) (ds : List Deed) → AllByRecursion (HasEntry i log) ds
      → AllByRecursion (λ d. (d.user < o.users) × (home o.seats d.user ≡ i)) ds → AllByRecursion IsLoggedDeed ds
  logged_deeds i [] has his = tt
  logged_deeds i (d ∷ ds) has his =
      let e = has.0 in
      let is = entry_of i d.phase d.page d.act e.entry e.is in (
        record { entry = e.entry; at = e.at; by = is.0 ∙ sym his.0.1; phase_is = is.1 },
        logged_deeds i ds has.1 his.1,
      )

  read_deeds : (i : ℕ) (ds : List Deed) → AllByRecursion (HasEntry i log) ds
      → AllByRecursion (λ d. ReadsPlain (split d.phase d.page) d.act) ds
      → AllByRecursion (λ d. (page count : ℕ) → Shows d page count → IsReadDeed d page count) ds
  read_deeds i [] has plain = tt
  read_deeds i (d ∷ ds) has plain = (
    (λ page count. by d.act page count has.0.is plain.0),
    read_deeds i ds has.1 plain.1,
  ) where
    by : (a : Act) (page count : ℕ) → MayHave i d.phase d.page a has.0.entry → ReadsPlain (split d.phase d.page) a
        → ShowsBy d.page a page count → IsReadDeed d page count
    by counted page count is none shows = absurd shows
    by (glimpsed s) page count is none shows = absurd shows
    by (showed s) page count is none shows = record {
      step = page_step i d.phase d.page s.count Read;
      at = subst (λ e. IsAt log (numbered d.number e)) is has.0.at;
      there = shows.0;
      found = shows.1;
      plain = ap (split d.phase) (sym shows.0) ∙ none;
    }

  fits : Fits
  fits = record {
    turn = r.order.in_turn;
    rising = r.order.rising;
    own = each_run (λ i ds. AllByRecursion (λ d. user_home d ≡ i) ds) (λ i past. tt)
        (λ i h at. all_then (λ (d : Deed). (d.user < o.users) × (home o.seats d.user ≡ i)) (λ d. user_home d ≡ i) (deeds_in h)
        (λ d both. both.1) (has_owners o hs r i h at));
    past = λ i none. deeds_past hs i none;
    numbers = each_run (λ i ds. Pairwise (Earlier number_of_deed IsCounted) ds) (λ i past. tt)
        (λ i h at. seat_in_time o hs r i h at);
    alone = λ d page count shows is. subst (λ a. ShowsBy d.page a page count) is shows;
    logged = each_run (λ i ds. AllByRecursion IsLoggedDeed ds) (λ i past. tt)
        (λ i h at. logged_deeds i (deeds_in h) (has_entries o hs r i h at) (has_owners o hs r i h at));
    reads = each_run (λ i ds. AllByRecursion (λ d. (page count : ℕ) → Shows d page count → IsReadDeed d page count) ds)
        (λ i past. tt) (λ i h at. read_deeds i (deeds_in h) (has_entries o hs r i h at) (has_plain o hs r i h at).1);
    plain = λ i k page under is.
        each_run (λ i ds. weigh (deed_under k page under) ds ≡ weigh (entry_under k page under) (logged_by i log))
        (λ i past. sym (ap (weigh (entry_under k page under)) (none_logged i past)))
        (λ i h at. (has_plain o hs r i h at).0 k page under is ∙ ap (weigh (entry_under k page under)) (sym (logged o hs r i h at))) i;
    totals = λ i k page less.
        each_run (λ i ds. weigh (deed_in k page) ds ≡ weigh (adds_in k page) (logged_by i log))
        (λ i past. sym (ap (weigh (adds_in k page)) (none_logged i past)))
        (λ i h at. has_totals o hs r i h at k page (early_none o hs r i h at k page less)
        ∙ sym (adds_of_worker i k page log ∙ ap (weigh (step_in k page)) (done o hs r i h at))) i;
  }

  abbrev Merge : List Deed → Type 0
  Merge = IsMerged user_home number_of_deed phase_of_deed likes_of_deed IsCounted Shows split first_count last log (length hs) (deeds_at hs)

  module _ (serial : List Deed) (m : Merge serial) where
    lasts : (j : ℕ) (d : Deed) → slice_get serial j ≡ Some d → ShowsLast (last_after o d.user (take j serial)) d.act
    lasts j d at =
        let w = user_home d in
        let before = take j serial in
        let after = drop (suc j) serial in
        let part : with_key user_home w (before ++ d ∷ after) ≡ with_key user_home w before ++ d ∷ with_key user_home w after =
        filter-append (λ (e : Deed). user_home e == w) before (d ∷ after)
        ∙ ap (λ b. with_key user_home w before ++ cond b (d ∷ with_key user_home w after) (with_key user_home w after))
        (eq-eqb w w refl) in
        let mine : with_key user_home w before ++ d ∷ with_key user_home w after ≡ deeds_at hs w =
        sym part ∙ ap (with_key user_home w) (sym (at_place serial j d at)) ∙ m.own w in
        let n = length (with_key user_home w before) in
        let here : slice_get (deeds_at hs w) n ≡ Some d =
        subst (λ xs. slice_get xs n ≡ Some d) mine
        (place_of_part (with_key user_home w before) d (with_key user_home w after)) in
        let front : take n (deeds_at hs w) ≡ with_key user_home w before =
        subst (λ xs. take n xs ≡ with_key user_home w before) mine
        (take_part (with_key user_home w before) d (with_key user_home w after)) in
        subst (λ (ps : List ℕ). ShowsLast (last_or (last_in o.lasts.items d.user) ps) d.act)
        (ap (pages_counted d.user) front ∙ sym (user_likes o d.user before))
        (each_run
        (λ i ds. (k : ℕ) (e : Deed) → slice_get ds k ≡ Some e → ShowsLast (last_after o e.user (take k ds)) e.act)
        (λ i past k e none. absurd (not_some e none)) (has_lasts o hs r) w n d here)

    counts_by : (j : ℕ) (d : Deed) (a : Act) → slice_get serial j ≡ Some (record d { act = a })
        → ShowsCount (count_after o d.page (take j serial)) a
    counts_by j d counted at = tt
    counts_by j d (glimpsed s) at = tt
    counts_by j d (showed s) at =
        m.counts j (record d { act = showed s }) d.page s.count at (refl, refl)
        ∙ ap (λ n. first_count d.page + n) (sym (sum-weigh (likes_of_deed d.page) (take j serial)))

    -- what the seats added before a phase is what the deeds before it count
    all_before : (n page : ℕ) → ((k : ℕ) → k < n → IsSettled k)
        → sum_by (λ (s : LiveView). added_before n page (additions_among s.station.post.did)) ends
        ≡ likes_among page (filter (λ d. nat_lt (phase_of_deed d) n) serial)
    all_before n page settled =
        let G : Deed → ℕ = λ d. only (nat_lt (phase_of_deed d) n) (likes_of_deed page d) in
        let number : SeatHistory → ℕ = λ h. h.last.station.post.worker in
        sum-weigh (λ (s : LiveView). added_before n page (additions_among s.station.post.did)) ends
        ∙ weigh-map (λ (s : LiveView). added_before n page (additions_among s.station.post.did)) (λ (h : SeatHistory). h.last) hs
        ∙ alike_at (λ (h : SeatHistory). added_before n page (additions_among h.last.station.post.did)) (λ h. weigh G (deeds_in h)) hs
        (λ i h at. has_before o hs r i h at n page
        (λ k less. of_end o hs r i h at (λ s. (p : ℕ) → sliced_in k p s ≡ 0) (settled k less) page))
        ∙ sym (same_in_all user_home G number (λ (h : SeatHistory). weigh G (deeds_in h)) serial hs
        (λ k. sym (weigh-filter (λ (d : Deed). user_home d == k) G serial) ∙ ap (weigh G) (m.own k)
        ∙ sym (ap (λ j. weigh (λ (h : SeatHistory). only (number h == j) (weigh G (deeds_in h))) hs) (zero_and k)
        ∙ at_number number (λ (h : SeatHistory). weigh G (deeds_in h)) hs 0
        (λ j h at. let e = worker_is o hs r j h at in omega (arith, e)) (λ j. weigh G (deeds_at hs j))
        (λ j h at. ap (weigh G) (deeds_there hs j h at)) (λ j past. ap (weigh G) (deeds_past hs j past)) k)))
        ∙ sym (weigh-filter (λ d. nat_lt (phase_of_deed d) n) (likes_of_deed page) serial)
        ∙ sym (sum-weigh (likes_of_deed page) (filter (λ d. nat_lt (phase_of_deed d) n) serial)) where
          zero_and : (k : ℕ) → k ≡ 0 + k
          zero_and k = omega arith

    is_strict : IsStrictService o (map deeds_in hs) serial
    is_strict = record {
      own = m.own;
      in_time = pairwise_pairs (Earlier number_of_deed IsCounted) serial m.numbers;
      rising = pairs_of phase_of_deed serial m.rising;
      fits = λ j d at. fits_store o (take j serial) d (lasts j d at) (counts_by j d d.act at);
    }

    -- the last likes of all seats are those after all deeds
    last_likes : HasLastLikes o (map (λ (h : SeatHistory). h.last) hs) serial
    last_likes i user v at there mine = elim (place hs i) [
      | inl h ↦
          let mine_in : deeds_in h.0 ≡ with_key user_home (home o.seats user) serial =
          sym (deeds_there hs i h.0 h.1) ∙ sym (m.own i) ∙ ap (λ k. with_key user_home k serial) (sym mine) in
          ap (λ (w : LiveView). last_of w.station.last user)
          (some_is v h.0.last (sym at ∙ at_map (λ (g : SeatHistory). g.last) hs i h.0 h.1))
          ∙ left_lasts o hs r i h.0 h.1 user there mine
          ∙ ap (last_or (last_in o.lasts.items user)) (ap (pages_counted user) mine_in ∙ sym (user_likes o user serial))
          ∙ sym (last_is (store_opened o) serial user)
      | inr past ↦ absurd (not_some v
          (sym (none_at ends i (let long = length-map hs (λ (h : SeatHistory). h.last) in omega (arith, past, long))) ∙ at))
    ]

  -- a strict list, and what it says of the seats' last likes, and of their additions before each phase
  abbrev pub Strict : List Deed → Type 0
  Strict serial =
      IsStrictService o (map deeds_in hs) serial
      × HasLastLikes o ends serial
      × ((n page : ℕ) → ((k : ℕ) → k < n → IsSettled k)
      → sum_by (λ (s : LiveView). added_before n page (additions_among s.station.post.did)) ends
      ≡ likes_among page (filter (λ d. nat_lt (phase_of_deed d) n) serial))

  pub in_one_order : (serial : List Deed) × Strict serial
  in_one_order =
      let m = merged_by_number user_home number_of_deed phase_of_deed likes_of_deed IsCounted Shows split first_count last log
      (length hs) (deeds_at hs) fits in
      (m.0, (is_strict m.0 m.1, last_likes m.0 m.1, all_before m.0 m.1))

  -- a seat that is gone has no like in its slice
  pub settled_once_gone : All (λ (s : LiveView). s.station.post.state ≡ Gone) ends → (k : ℕ) → IsSettled k
  settled_once_gone gone k =
      all_of_places (λ (s : LiveView). (page : ℕ) → sliced_in k page s ≡ 0) ends (λ i s at page. elim (place hs i) [
        | inl h ↦
            let is = some_is s h.0.last (sym at ∙ at_map (λ (g : SeatHistory). g.last) hs i h.0 h.1) in
            let none = is_none (get_or h.0.last.station.slice page 0)
            (λ has. subst RunsSplit (of_end o hs r i h.0 h.1 (λ w. w.station.post.state ≡ Gone) gone)
            ((stands o hs r i h.0 h.1).split page has).0) in
            ap (sliced_in k page) is
            ∙ ap (only (phase_at h.0.last.station == k)) none ∙ only-none (phase_at h.0.last.station == k)
        | inr past ↦
            let long = length-map hs (λ (h : SeatHistory). h.last) in
            absurd (not_some s (sym (none_at ends i (omega (arith, past, long))) ∙ at))
      ])
