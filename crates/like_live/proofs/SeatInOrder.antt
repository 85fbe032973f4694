-- What one order says of a seat's deeds.
use Rattle.std.proofs.Common.{◌≡◌, ◌≢◌, ℕ, zero, suc, ◌+◌, ◌%◌, ◌≤◌, ◌<◌, ◌&&◌, inl, inr, Bool, true, false, cond, eqb, nat_lt, ◌==◌, List, [], ◌∷◌, filter, map, take, drop, reverse, length, get_or, slice_get, Some, None, refl, ap, sym, ◌∙◌, subst, subst₂, arith, eq-eqb, ne_eqb}
use Rattle.std.specs.List.{All, AllByRecursion, last_or}
use Rattle.std.proofs.Math.Nat.{mod-eq_of_lt}
use Rattle.std.proofs.lemmas.Bool.{cases_eq, lt-ltb}
use Rattle.std.proofs.lemmas.List.{length-map}
use Rattle.std.proofs.lemmas.List.Elements.{All-head, All-tail}
use Rattle.std.proofs.lemmas.List.FromFn.{get_or-map-range_with_len}
use Rattle.like_board.specs.Seats.{BoardId, board_numbers}
use Rattle.like_core.specs.declared.page_step.PageStep.{PageStep}
use Rattle.like_core.specs.Post.{fresh}
use Rattle.like_core.specs.OpeningLimits.{service_limits}
use Rattle.like_core.specs.Additions.{added_before}
use Rattle.like_core.specs.Log.{entry_phase, entry_worker, logged_by, numbered, steps_in}
use Rattle.like_core.specs.declared.log.LogEntry.{LogEntry}
use Rattle.like_core.specs.views.Order.{HasMade}
use Rattle.like_core.specs.views.PostOrder.{IsOrderOf}
use Rattle.like_core.specs.PageSteps.{AddsSome, additions_among, adds_to, earliest_first, steps_by}
use Rattle.like_core.proofs.views.Clock.{IsAt, logged_are}
use Rattle.like_core.specs.Phase.{is_marked, split_by}
use Rattle.like_core.specs.PhaseMasks.{AreMasksOf}
use Rattle.like_core.specs.WorkerState.{RunsSplit}
use Rattle.like_requests.specs.Verdict.{home}
use Rattle.like_core.proofs.Steps.{by-earliest, earliest-reverse}
use Rattle.like_core.specs.declared.view.WorkerSeatView.{WorkerSeatView}
use Rattle.like_seat.specs.StationView.{phase_at}
use Rattle.like_seat.proofs.MergedLikes.{same_everywhere}
use Rattle.like_serial.proofs.Increasing.{Earlier, Pairwise, filter_rec, rec_at}
use Rattle.like_serial.proofs.Parts.{at_place}
use Rattle.like_serial.proofs.InTurn.{turn_below}
use Rattle.like_serial.proofs.Phases.{Rises, all_rec, all_then, rec_all}
use Rattle.like_serial.proofs.Seen.{not_some, some_is}
use Rattle.like_serial.proofs.Totals.{only-none, same_below, weigh-reverse}
use Rattle.like_serial.proofs.Weigh.{only, weigh}
use Rattle.like_tables.specs.Share.{Share, owns, share_of}
use Rattle.like_tables.specs.UserTable.{UserTable, last_in, last_of}
use Rattle.like_live.specs.declared.opening.Opening.{Opening}
use Rattle.like_live.specs.LiveView.{LiveView}
use Rattle.like_live.specs.History.{IsUnused}
use Rattle.like_live.specs.Opening.{board_opening}
use Rattle.like_live.specs.Service.{AreOpenedSeats, IsOpenedSeat, posts_at}
use Rattle.like_live.specs.Deeds.{Act, Deed, counted, glimpsed, showed}
use Rattle.like_live.specs.StrictService.{SeatHistory, deeds_in}
use Rattle.like_live.proofs.Closing.{all-of-map, post_at}
use Rattle.like_live.proofs.DeedPlaces.{HasPlace, HavePlaces, MayHave, calls_have_places, each_place, places_in_time}
use Rattle.like_live.proofs.DeedLasts.{calls_leave_lasts, deeds_show}
use Rattle.like_live.proofs.DeedLikes.{ShowsLast, last_after, pages_counted}
use Rattle.like_live.proofs.DeedOwners.{AreHis, his_kept}
use Rattle.like_live.proofs.DeedPlain.{HasPlain, ReadsPlain, deed_under, entry_under, plain_kept}
use Rattle.like_live.proofs.DeedTotals.{HasTotals, deed_in, likes_of_deed, sliced_in, step_in, totals_kept}
use Rattle.like_live.proofs.Ordered.{IsOrdered, split_in}
use Rattle.like_live.proofs.Snapshots.{before_steps}
use Rattle.like_live.proofs.Standing.{Stands, kept_by_calls, stands_by_calls}
use Rattle.like_live.proofs.Places.{at_all, at_map, within}
use Rattle.like_live.proofs.OwnEntries.{filter_rises, reverse_all, turn_rises, turn_some, numbers_rise}
use Rattle.like_live.proofs.DeedPhases.{phase_of_deed, phase_of_step}

-- the entry of a worker's deed, which a like may share
pub record HasEntry (worker : ℕ) (log : List LogEntry) (d : Deed) : Type 0 where
  pub entry : LogEntry
  pub at : IsAt log (numbered d.number entry)
  pub is : MayHave worker d.phase d.page d.act entry

-- whose it is, and of which phase
pub entry_of : (worker phase page : ℕ) (a : Act) (entry : LogEntry) → MayHave worker phase page a entry
    → (entry_worker entry ≡ worker) × (entry_phase entry ≡ phase)
entry_of worker phase page counted entry (inl is) = (ap entry_worker is, ap entry_phase is)
entry_of worker phase page counted entry (inr is) = (ap entry_worker is.2, ap entry_phase is.2)
entry_of worker phase page (showed s) entry is = (ap entry_worker is, ap entry_phase is)
entry_of worker phase page (glimpsed s) entry is = (ap entry_worker is.1, ap entry_phase is.1)

-- the seats of an opened service, and one order of all that they made, which is a board's log: each has read the right
-- masks, and who runs a split phase runs the present one
pub record AreInOrder (o : Opening) (hs : List SeatHistory) : Type 0 where
  pub factor : ℕ
  pub board : BoardId
  pub masks : ℕ → ℕ
  pub phase : ℕ
  pub log : List LogEntry
  pub opened : AreOpenedSeats o factor board (map (λ (h : SeatHistory). h.first) hs)
  pub right : All (λ (s : LiveView). AreMasksOf masks s.station.post.masks) (map (λ (h : SeatHistory). h.last) hs)
  pub present : All (λ (s : LiveView). RunsSplit s.station.post.state → phase_at s.station ≡ phase)
      (map (λ (h : SeatHistory). h.last) hs)
  pub order : IsOrderOf (λ page. get_or o.counts.items page 0) phase
      (posts_at (map (λ (h : SeatHistory). h.last) hs)) log

-- the seats as they are in the end
abbrev pub ends_of : List SeatHistory → List LiveView
ends_of hs = map (λ (h : SeatHistory). h.last) hs

-- whether a page is split in a phase
abbrev pub split_among : (o : Opening) (hs : List SeatHistory) → AreInOrder o hs → ℕ → ℕ → Bool
split_among o hs r = split_by service_limits.hot (is_marked (board_opening o r.factor).marks) r.masks

module _ (o : Opening) (hs : List SeatHistory) (r : AreInOrder o hs) (i : ℕ) (h : SeatHistory) (at : slice_get hs i ≡ Some h)
  where
    seat : IsOpenedSeat o r.factor r.board i h.first
    seat = r.opened.each i h.first (at_map (λ (g : SeatHistory). g.first) hs i h at)

    below : i < o.seats
    below =
        subst (λ n. i < n) (sym (length-map hs (λ (g : SeatHistory). g.first)) ∙ r.opened.len) (within hs i h at)

    unused : IsUnused h.first
    unused = record {
      board = board_numbers r.board;
      post = fresh (board_opening o r.factor) i;
      share = share_of o.users o.seats o.seats i;
      lasts = o.lasts.items;
      room = o.room;
      fresh = refl;
      new = seat;
    }

    pub stands : Stands h.first h.last
    stands =
        stands_by_calls h.first (λ w. Unit {0}) (AreHis h.first) (his_kept h.first) h.told h.last h.done unused

    pub worker_is : h.last.station.post.worker ≡ i
    worker_is = stands.worker ∙ ap (λ (p : WorkerSeatView). p.worker) seat.at_post

    pub of_end : (P : LiveView → Type 0) → All P (ends_of hs) → P h.last
    of_end P all = at_all P (λ (g : SeatHistory). g.last) hs i h all at

    -- likes in the slice are of the present phase
    sliced_now : (page : ℕ) → get_or h.last.station.slice page 0 ≢ 0 → phase_at h.last.station ≡ r.phase
    sliced_now page has =
        of_end (λ s. RunsSplit s.station.post.state → phase_at s.station ≡ r.phase) r.present (stands.split page has).0

    pub early_none : (k page : ℕ) → k < r.phase → sliced_in k page h.last ≡ 0
    early_none k page less = elim (cases_eq (get_or h.last.station.slice page 0) 0) [
      | inl none ↦ ap (only (phase_at h.last.station == k)) none ∙ only-none (phase_at h.last.station == k)
      | inr has ↦
          let is = sliced_now page has in
          ap (λ b. only b (get_or h.last.station.slice page 0))
          (ne_eqb (phase_at h.last.station) k (λ e. absurd (omega (arith, e, is, less))))
    ]

    made : HasMade r.log h.last.station.post
    made = of_end (λ s. HasMade r.log s.station.post) (all-of-map (HasMade r.log) post_at (ends_of hs) r.order.each)

    pub logged : logged_by i r.log ≡ h.last.station.post.logged
    logged = ap (λ n. logged_by n r.log) (sym worker_is) ∙ made.logged

    pub done : steps_by i (steps_in r.log) ≡ h.last.station.post.did
    done = ap (λ n. steps_by n (steps_in r.log)) (sym worker_is) ∙ made.done

    did : filter (λ s. s.worker == i) (reverse (steps_in r.log)) ≡ earliest_first h.last.station.post.did
    did = sym (by-earliest i (steps_in r.log)) ∙ ap earliest_first done

    ordered : IsOrdered r.masks h.last
    ordered = record {
      some = subst (AllByRecursion (λ (s : PageStep). AddsSome s.call)) did
          (filter_rec (λ (s : PageStep). AddsSome s.call) (λ s. s.worker == i) (reverse (steps_in r.log))
          (reverse_all (λ (s : PageStep). AddsSome s.call) (steps_in r.log) (turn_some _ r.phase (steps_in r.log) r.order.in_turn)));
      right = of_end (λ s. AreMasksOf r.masks s.station.post.masks) r.right;
      rises = subst (Rises phase_of_step) did
          (filter_rises phase_of_step (λ s. s.worker == i) (reverse (steps_in r.log)) (turn_rises _ r.phase (steps_in r.log) r.order.in_turn));
      none_later = λ page has.
          subst (λ n. AllByRecursion (λ (s : PageStep). s.phase ≤ n) (earliest_first h.last.station.post.did))
          (sym (sliced_now page has))
          (subst (AllByRecursion (λ (s : PageStep). s.phase ≤ r.phase)) did
          (filter_rec (λ (s : PageStep). s.phase ≤ r.phase) (λ s. s.worker == i) (reverse (steps_in r.log))
          (reverse_all (λ (s : PageStep). s.phase ≤ r.phase) (steps_in r.log)
          (all_then (λ (s : PageStep). s.phase < suc r.phase) (λ s. s.phase ≤ r.phase) (steps_in r.log) (λ s less. omega (arith, less))
          (turn_below _ r.phase (steps_in r.log) r.order.in_turn)))));
    }

    -- its r.masks, marks and limits are those of all
    split_is : split_in h.first r.masks ≡ split_among o hs r
    split_is = λ m phase page. split_by (seat.at_post m).opening.limits.hot (is_marked (seat.at_post m).opening.marks) r.masks phase page

    nothing_done : earliest_first h.first.station.post.did ≡ []
    nothing_done = ap (λ (p : WorkerSeatView). earliest_first p.did) seat.at_post

    -- where a page isn't split, its deeds count what its entries add, number by number
    abbrev pub HasPlainBy : (ℕ → ℕ → Bool) → Type 0
    HasPlainBy f =
        ((k page under : ℕ) → f k page ≡ false
        → weigh (deed_under k page under) (deeds_in h) ≡ weigh (entry_under k page under) h.last.station.post.logged)
        × AllByRecursion (λ d. ReadsPlain (f d.phase d.page) d.act) (deeds_in h)

    pub has_plain : HasPlainBy (split_among o hs r)
    has_plain =
        let k = kept_by_calls h.first (IsOrdered r.masks) (HasPlain h.first r.masks) (plain_kept h.first r.masks) h.told h.last
        h.done unused ordered
        (record {
          counts = λ n page under is. sym (ap (λ (p : WorkerSeatView). weigh (entry_under n page under) p.logged) seat.at_post);
          reads_plain = tt;
        }) in
        subst HasPlainBy split_is (k.counts, k.reads_plain)

    -- and in each phase of which it has no like in its slice, what its (steps_in r.log) add
    pub has_totals : (phase page : ℕ) → sliced_in phase page h.last ≡ 0
        → weigh (deed_in phase page) (deeds_in h) ≡ weigh (step_in phase page) h.last.station.post.did
    has_totals phase page none =
        let k = kept_by_calls h.first (λ w. Unit {0}) HasTotals (totals_kept h.first) h.told h.last h.done unused tt
        (record {
          total = λ k p.
              sym (ap (λ xs. weigh (step_in k p) xs + only (0 == k) 0) nothing_done ∙ ap (λ n. 0 + n) (only-none (0 == k)))
              ∙ sym (at_first k p);
        }) in
        k.total phase page
        ∙ omega (
          arith,
          none,
          ap (weigh (step_in phase page)) (earliest-reverse h.last.station.post.did)
              ∙ weigh-reverse (step_in phase page) h.last.station.post.did,
        ) where
          at_first : (k p : ℕ)
              → weigh (step_in k p) (earliest_first h.first.station.post.did) + only (phase_at h.first.station == k) (get_or h.first.station.slice p 0)
              ≡ weigh (step_in k p) (earliest_first h.first.station.post.did) + only (0 == k) 0
          at_first k p =
              ap (λ n. weigh (step_in k p) (earliest_first h.first.station.post.did) + n)
              (ap (only (phase_at h.first.station == k))
              (ap (λ (xs : List ℕ). get_or xs p 0) seat.slice ∙ same_everywhere _ p 0)
              ∙ only-none (phase_at h.first.station == k) ∙ sym (only-none (0 == k)))

    -- its deeds have entries of its own, in the same order
    pub places : HavePlaces i (reverse (logged_by i r.log)) 0 (deeds_in h)
    places =
        subst₂ (λ n es. HavePlaces n es 0 (deeds_in h))
        (ap (λ (p : WorkerSeatView). p.worker) seat.at_post)
        (ap reverse (sym logged))
        (subst (λ n. HavePlaces h.first.station.post.worker (reverse h.last.station.post.logged) n (deeds_in h))
        (ap (λ (p : WorkerSeatView). length p.logged) seat.at_post)
        (calls_have_places h.told h.first h.last h.done))

    pub has_entries : AllByRecursion (HasEntry i r.log) (deeds_in h)
    has_entries =
        let es = reverse (logged_by i r.log) in
        let all : AllByRecursion (IsAt r.log) es =
        reverse_all (IsAt r.log) (logged_by i r.log) (all_rec (IsAt r.log) (logged_by i r.log) (logged_are i r.log)) in
        all_then (HasPlace i es 0) (HasEntry i r.log) (deeds_in h)
        (λ d p. record {
          entry = p.entry.entry;
          at = subst (λ n. IsAt r.log (numbered n p.entry.entry)) p.number
              (rec_at (IsAt r.log) (take p.place es) p.entry (drop (suc p.place) es) es all
              (at_place es p.place p.entry p.there));
          is = p.is;
        })
        (each_place i es 0 (deeds_in h) places)

    -- and are in time
    pub in_time : Pairwise (Earlier (λ d. d.number) (λ d. d.act ≡ counted)) (deeds_in h)
    in_time = places_in_time i (reverse (logged_by i r.log)) (numbers_rise i r.log) 0 (deeds_in h) places

    -- what it added before a phase is what its deeds count
    pub has_before : (n page : ℕ) → ((k : ℕ) → k < n → sliced_in k page h.last ≡ 0)
        → added_before n page (additions_among h.last.station.post.did)
        ≡ weigh (λ d. only (nat_lt d.phase n) (likes_of_deed page d)) (deeds_in h)
    has_before n page none =
        before_steps n page h.last.station.post.did
        ∙ same_below phase_of_step (adds_to page) phase_of_deed (likes_of_deed page) h.last.station.post.did (deeds_in h) n
        (λ k less. sym (has_totals k page (none k less)))

    share_is : h.first.station.last.share ≡ share_of o.users o.seats o.seats i
    share_is = ap (λ (t : UserTable). t.share) seat.last

    pub has_owners : AllByRecursion (λ d. (d.user < o.users) × (home o.seats d.user ≡ i)) (deeds_in h)
    has_owners =
        subst
        (λ (s : Share). AllByRecursion (λ (d : Deed). (d.user < s.users) × (home s.submitters d.user ≡ s.worker)) (deeds_in h))
        share_is
        (kept_by_calls h.first (λ w. Unit {0}) (AreHis h.first) (his_kept h.first) h.told h.last h.done unused tt tt)

    -- a user's last like at the opening
    opened_last : (user : ℕ) → user < o.users → home o.seats user ≡ i → last_of h.first.station.last user ≡ last_in o.lasts.items user
    opened_last user there mine =
        let s = share_of o.users o.seats o.seats i in
        ap (λ (t : UserTable). last_of t user) seat.last
        ∙ get_or-map-range_with_len (λ u. cond (owns s u) (last_in o.lasts.items u) None) 0 o.users user user None there
        (omega arith)
        ∙ ap (λ b. cond b (last_in o.lasts.items user) None) owned where
          owned : owns (share_of o.users o.seats o.seats i) user ≡ true
          owned =
              ap (λ b. b && (eqb (home o.seats user % o.seats) i)) (lt-ltb user o.users there)
              ∙ eq-eqb (home o.seats user % o.seats) i
              (ap (λ n. n % o.seats) mine ∙ mod-eq_of_lt below)

    pub has_lasts : (j : ℕ) (d : Deed) → slice_get (deeds_in h) j ≡ Some d
        → ShowsLast (last_after o d.user (take j (deeds_in h))) d.act
    has_lasts j d there =
        let mine = rec_all (λ (e : Deed). (e.user < o.users) × (home o.seats e.user ≡ i)) (deeds_in h) has_owners in
        let his = at_list (deeds_in h) j d mine there in
        subst (λ x. ShowsLast (last_or x (pages_counted d.user (take j (deeds_in h)))) d.act)
        (opened_last d.user his.0 his.1)
        (deeds_show h.first h.last h.told h.done unused j d there) where
          at_list : (xs : List Deed) (j : ℕ) (d : Deed)
              → All (λ e. (e.user < o.users) × (home o.seats e.user ≡ i)) xs → slice_get xs j ≡ Some d
              → (d.user < o.users) × (home o.seats d.user ≡ i)
          at_list [] j d all at = absurd (not_some d at)
          at_list (e ∷ xs) zero d all at =
              subst (λ (z : Deed). (z.user < o.users) × (home o.seats z.user ≡ i)) (some_is e d at)
              (All-head (λ (z : Deed). (z.user < o.users) × (home o.seats z.user ≡ i)) e xs all)
          at_list (e ∷ xs) (suc j) d all at =
              at_list xs j d (All-tail (λ (z : Deed). (z.user < o.users) × (home o.seats z.user ≡ i)) e xs all) at

    -- the last likes that it has at the end are those that its deeds say
    pub left_lasts : (user : ℕ) → user < o.users → home o.seats user ≡ i
        → last_of h.last.station.last user ≡ last_after o user (deeds_in h)
    left_lasts user there mine =
        (calls_leave_lasts h.first h.last h.told h.done unused).table user
        ∙ ap (λ x. last_or x (pages_counted user (deeds_in h))) (opened_last user there mine)
