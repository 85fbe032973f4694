-- The last counts of a service are those of its store.
use Rattle.std.proofs.Common.{◌≡◌, ℕ, ◌+◌, ◌==◌, List, [], ◌∷◌, drop, map, get_or, slice_get, sum_by, Some, ap, sym, ◌∙◌, refl, arith}
use Rattle.like_board.specs.Seats.{board_numbers}
use Rattle.like_core.specs.declared.log.Logged.{Logged}
use Rattle.like_core.specs.Post.{fresh}
use Rattle.like_core.specs.declared.opening.Opening.{Opening as CoreOpening}
use Rattle.like_core.specs.declared.view.WorkerSeatView.{WorkerSeatView}
use Rattle.like_requests.specs.Verdict.{home}
use Rattle.like_serial.proofs.Totals.{same_in_all}
use Rattle.like_serial.proofs.Weigh.{only, sum-weigh, weigh, weigh-append, weigh-filter}
use Rattle.like_tables.specs.Share.{share_of}
use Rattle.like_live.specs.declared.answer.GlanceAnswer.TheVariants as glanced
use Rattle.like_live.specs.declared.answer.LikeAnswer.TheVariants as liked
use Rattle.like_live.specs.declared.answer.LookAnswer.TheVariants as looked
use Rattle.like_live.specs.declared.asked.Found.{Found}
use Rattle.like_live.specs.declared.opening.Opening.{Opening}
use Rattle.like_live.specs.LiveView.{LiveView, tally}
use Rattle.like_live.specs.History.{HasDone, IsUnused, Told, come_back, glance, like, like_on, like_told, look, retire, take_found, turn}
use Rattle.like_live.specs.Deeds.{Deed, deeds_found, deeds_of, deeds_of_call, found_by, made_since, own_deed}
use Rattle.like_live.specs.Driver.{DriverView, IsSameDriver}
use Rattle.like_live.specs.Opening.{board_opening}
use Rattle.like_live.specs.Service.{AreOpened, IsClosedService}
use Rattle.like_live.specs.StrictService.{HasLastCounts, IsStrictService, SeatHistory, ServicesAreStrict, deeds_in, opened as store_opened}
use Rattle.like_core.proofs.Lists.{sum-of-map}
use Rattle.like_live.proofs.DeedLikes.{count_is}
use Rattle.like_live.proofs.DeedTotals.{likes_of_deed}
use Rattle.like_live.proofs.Histories.{histories_are_counted}
use Rattle.like_live.proofs.ClosedOrder.{opening_is, strict_service}
use Rattle.like_live.proofs.Places.{alike_at, at_map, deeds_at, deeds_past, deeds_there}
use Rattle.like_live.proofs.Snapshots.{at_number}

-- the deeds of a call count what it was told
found_none : (page : ℕ) (entries : List Logged) (found : List Found)
    → weigh (likes_of_deed page) (deeds_found entries found) ≡ 0
found_none page entries [] = refl
found_none page entries (f ∷ found) = let more = found_none page (drop 1 entries) found in omega arith

own_told : (page : ℕ) (now : LiveView) (t : Told) → weigh (likes_of_deed page) (own_deed now t) ≡ like_told page t
own_told page now (like user other liked.Liked) = omega arith
own_told page now (like user other answer) = refl
own_told page now (like_on user other liked.Liked) = omega arith
own_told page now (like_on user other answer) = refl
own_told page now (look user other tag (looked.Seen shown)) = refl
own_told page now (look user other tag answer) = refl
own_told page now (glance user other (glanced.Seen shown)) = refl
own_told page now (glance user other (glanced.Glimpsed shown)) = refl
own_told page now (glance user other answer) = refl
own_told page now (turn answer) = refl
own_told page now (take_found found) = refl
own_told page now (retire answer) = refl
own_told page now (come_back answer) = refl

all_told : (page : ℕ) (told : List Told) (v after : LiveView) (done : HasDone v told after)
    → weigh (likes_of_deed page) (deeds_of told v after done) ≡ weigh (like_told page) told
all_told page [] v after done = refl
all_told page (t ∷ told) v after done =
    let call = deeds_of_call v t done.0 in
    let rest = all_told page told done.0 after done.1.1 in
    let both = weigh-append (likes_of_deed page) call (deeds_of told done.0 after done.1.1) in
    let entries = drop 1 (made_since v done.0) in
    let parts = weigh-append (likes_of_deed page) (deeds_found entries (found_by v done.0)) (own_deed done.0 t) in
    let found = found_none page entries (found_by v done.0) in
    let own = own_told page done.0 t in
    omega (arith, rest, both, parts, found, own)

-- so a seat's tally is what its deeds count
tally_is : (h : SeatHistory) (page : ℕ) → IsUnused h.first → tally h.last page ≡ weigh (likes_of_deed page) (deeds_in h)
tally_is h page unused =
    (histories_are_counted h.first h.last h.told unused h.done).tallies page ∙ sum-weigh (like_told page) h.told
    ∙ sym (all_told page h.told h.first h.last h.done)

zero_and : (k : ℕ) → k ≡ 0 + k
zero_and k = omega arith

last_counts_are : (o : Opening) (driver now : DriverView) (hs : List SeatHistory) (counts : List ℕ) (serial : List Deed)
    → AreOpened o driver (map (λ h. h.first) hs)
    → IsSameDriver driver now
    → IsClosedService now (map (λ h. h.last) hs) counts
    → IsStrictService o (map deeds_in hs) serial
    → HasLastCounts o counts serial
last_counts_are o driver now hs counts serial opened same closed is page below =
    let f : Deed → ℕ = likes_of_deed page in
    let G : SeatHistory → ℕ = λ h. weigh f (deeds_in h) in
    let number : SeatHistory → ℕ = λ h. h.first.station.post.worker in
    let seat = λ (i : ℕ) (h : SeatHistory) (at : slice_get hs i ≡ Some h).
    opened.fresh.each i h.first (at_map (λ (g : SeatHistory). g.first) hs i h at) in
    let all : weigh f serial ≡ weigh G hs =
    same_in_all (λ (d : Deed). home o.seats d.user) f number G serial hs
    (λ k. sym (weigh-filter (λ (d : Deed). home o.seats d.user == k) f serial) ∙ ap (weigh f) (is.own k)
    ∙ sym (ap (λ j. weigh (λ (h : SeatHistory). only (number h == j) (G h)) hs) (zero_and k)
    ∙ at_number number G hs 0 (λ j h at. ap (λ (p : WorkerSeatView). p.worker) (seat j h at).at_post ∙ zero_and j) (λ j. weigh f (deeds_at hs j))
    (λ j h at. ap (weigh f) (deeds_there hs j h at)) (λ j past. ap (weigh f) (deeds_past hs j past)) k)) in
    closed.totals page below
    ∙ ap (λ (z : CoreOpening). get_or z.counts page 0 + sum_by (λ s. tally s page) (map (λ (h : SeatHistory). h.last) hs))
    (opening_is o driver now hs counts opened same closed)
    ∙ ap (λ n. get_or o.counts.items page 0 + n)
    (sum-of-map (λ (s : LiveView). tally s page) (λ (h : SeatHistory). h.last) hs
    ∙ sum-weigh (λ (h : SeatHistory). tally h.last page) hs
    ∙ alike_at (λ (h : SeatHistory). tally h.last page) G hs
    (λ i h at. tally_is h page (record {
      board = board_numbers driver.lead.board;
      post = fresh (board_opening o opened.factor) i;
      share = share_of o.users o.seats o.seats i;
      lasts = o.lasts.items;
      room = o.room;
      fresh = refl;
      new = seat i h at;
    }))
    ∙ sym all ∙ sym (sum-weigh f serial))
    ∙ sym (count_is (store_opened o) serial page)

pub services_are_strict : ServicesAreStrict
services_are_strict o driver now hs counts opened same closed gone =
    let one = strict_service o driver now hs counts opened same closed gone in
    (one.0, one.1, one.2, last_counts_are o driver now hs counts one.0 opened same closed one.1, one.3)
