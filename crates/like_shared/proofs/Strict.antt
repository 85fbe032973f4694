-- All that all clients did is what one thread could have done.
use Rattle.std.proofs.Common.{◌≡◌, ℕ, zero, suc, ◌+◌, ◌*◌, false, true, List, [], ◌∷◌, ◌++◌, map, Some, None, Ok, Err, refl, sym, ap, ◌∙◌, subst}
use Rattle.std.specs.List.{AllZip, slice_get}
use Rattle.std.specs.Prelude.{All, filter, flat_map, nat_lt, slice_index, sum_by}
use Rattle.std.proofs.lemmas.List.Concat.{flat_map-cons}
use Rattle.std.proofs.lemmas.List.Elements.{All-cons, All-nil, All-weaker}
use Rattle.std.proofs.lemmas.List.Sums.{sum_by-append, sum_by-cons}
use Rattle.std.proofs.lemmas.Option.{same_Some}
use Rattle.told_lock.specs.Deeds.{HasRun, LogsWeighAll, deeds_in}
use Rattle.like_board.specs.Seats.{BoardId, board_numbers}
use Rattle.like_core.specs.Post.{fresh}
use Rattle.like_tables.specs.LastLike.{page_or_none}
use Rattle.like_tables.specs.Share.{Share, share_of}
use Rattle.like_tables.specs.UserTable.{last_of}
use Rattle.like_live.specs.declared.opening.Opening.{Opening}
use Rattle.like_live.specs.Driver.{DriverView}
use Rattle.like_live.specs.Opening.{board_opening}
use Rattle.like_live.specs.History.{HasDone, HistoriesAreCounted, IsUnused, Told, like_told, likes_told}
use Rattle.like_live.specs.Lasts.{user_at}
use Rattle.like_live.specs.LiveView.{LiveView, tally}
use Rattle.like_live.specs.Service.{AreGone, AreOpened, IsClosedService, IsOpenedSeat}
use Rattle.like_core.specs.declared.view.PageCount.{PageCount}
use Rattle.like_live.specs.DeedStore.{store_after}
use Rattle.like_live.specs.Deeds.{Deed}
use Rattle.like_live.specs.StrictService.{HasLastLikes, SeatHistory, ServicesAreStrict, opened}
use Rattle.like_live.proofs.LikeRows.{rows_are_likes}
use Rattle.like_shared.specs.declared.deed.DriverDeed.{DriverDeed}
use Rattle.like_shared.specs.declared.deed.DriverDeed.TheVariants.{LastCounts, Propose, Snapshot, SplitPages, Turn}
use Rattle.like_shared.specs.declared.deed.SeatDeed.{SeatDeed}
use Rattle.like_shared.specs.declared.deed.SeatDeed.TheVariants as deed
use Rattle.like_shared.specs.Deeds.{SeatDoes, SeatMakes, calls_of, liked_by}
use Rattle.like_shared.specs.Strict.{IsHistoryOf, SeatEnd, SharedServicesAreStrict, ShowsLast, ShowsLasts, ShowsStore, firsts, lasts, likes_at}
use Rattle.like_shared.proofs.Batches.{done-append}
use Rattle.like_shared.proofs.Written.{Written, all-written}
use Rattle.like_shared.proofs.Runs.{driver-runs, seat-runs}

-- a deed is a call of a history, or none
calls-of : (v w : LiveView) (d : SeatDeed) → SeatMakes v d w → HasDone v (calls_of d) w
calls-of v w (deed.Turn answer) made = (w, (made, refl))
calls-of v w (deed.Like user page answer) made = (w, (made, refl))
calls-of v w (deed.LikeRow likes told) made = rows_are_likes v w likes told made
calls-of v w (deed.Look user page tag answer) made = (w, (made, refl))
calls-of v w (deed.Glance user page answer) made = (w, (made, refl))
calls-of v w (deed.TakeFound taken) made = (w, (made, refl))
calls-of v w (deed.Retire answer) made = (w, (made, refl))
calls-of v w (deed.ComeBack answer) made = (w, (made, refl))
calls-of v w (deed.Last user answer) made = made.1
calls-of v w (deed.Lasts from pages is_done) made = made.1

-- deeds, one after the other, are calls of a history
pub done-of : (v w : LiveView) (ds : List SeatDeed) → HasRun SeatDoes v ds w → HasDone v (flat_map calls_of ds) w
done-of v w [] run = run
done-of v w (d ∷ ds) run =
    subst (λ l. HasDone v l w) (sym (flat_map-cons calls_of d ds))
    (done-append v run.0 w (calls_of d) (flat_map calls_of ds) (calls-of v run.0 d run.1.0) (done-of run.0 w ds run.2))

-- the history of a seat, with the calls of all clients
abbrev history-of : SeatEnd → SeatHistory
history-of e = record {
  first = e.first;
  last = e.last;
  told = flat_map calls_of (deeds_in e.leads.order);
  done = done-of e.first e.last (deeds_in e.leads.order) e.leads.run;
}

-- a map of a map
map-map : {A B C : Type 0} (f : B → C) (g : A → B) (h : A → C) → ((a : A) → f (g a) ≡ h a) → (xs : List A)
    → map f (map g xs) ≡ map h xs
map-map f g h same [] = refl
map-map f g h same (x ∷ xs) = λ i. same x i ∷ map-map f g h same xs i

-- what is at a place of a map
get-map : {A B : Type 0} (f : A → B) (xs : List A) (i : ℕ) (x : A) → slice_get xs i ≡ Some x
    → slice_get (map f xs) i ≡ Some (f x)
get-map f [] i x at = absurd (cc at)
get-map f (y ∷ xs) zero x at = ap (λ z. Some (f z)) (same_Some y x at)
get-map f (y ∷ xs) (suc i) x at = get-map f xs i x at

-- likes that deeds were told are those of their calls
likes-map : (page : ℕ) (ds : List SeatDeed) → likes_told page (flat_map calls_of ds) ≡ sum_by (liked_by page) ds
likes-map page [] = refl
likes-map page (d ∷ ds) =
    ap (likes_told page) (flat_map-cons calls_of d ds)
    ∙ sum_by-append (like_told page) (calls_of d) (flat_map calls_of ds)
    ∙ ap (λ n. liked_by page d + n) (likes-map page ds)
    ∙ sym (sum_by-cons (liked_by page) d ds)

-- a seat's tally is the likes that all clients were told there
tally-of : HistoriesAreCounted → LogsWeighAll SeatDoes → (e : SeatEnd) → IsUnused e.first → (page : ℕ)
    → tally e.last page ≡ likes_at page e
tally-of counted weigh e unused page =
    let h = history-of e in
    (counted h.first h.last h.told unused h.done).tallies page ∙ likes-map page (deeds_in e.leads.order)
    ∙ weigh e.first e.last e.told e.seen (liked_by page) e.leads

-- so are those of all seats
tallies-of : HistoriesAreCounted → LogsWeighAll SeatDoes → (page : ℕ) (ends : List SeatEnd)
    → ((i : ℕ) (e : SeatEnd) → slice_get ends i ≡ Some e → IsUnused e.first)
    → sum_by (λ s. tally s page) (lasts ends) ≡ sum_by (likes_at page) ends
tallies-of counted weigh page [] unused = refl
tallies-of counted weigh page (e ∷ es) unused =
    sum_by-cons (λ s. tally s page) e.last (lasts es)
    ∙ (λ i. tally-of counted weigh e (unused 0 e refl) page i
    + tallies-of counted weigh page es (λ j. unused (suc j)) i)
    ∙ sym (sum_by-cons (likes_at page) e es)

-- a seat that was just opened has done nothing yet
unused-of : (o : Opening) (factor number : ℕ) (board : BoardId) (s : LiveView) → IsOpenedSeat o factor board number s
    → IsUnused s
unused-of o factor number board s new = record {
  board = board_numbers board;
  post = fresh (board_opening o factor) number;
  share = share_of o.users o.seats o.seats number;
  lasts = o.lasts.items;
  room = o.room;
  fresh = refl;
  new = new;
}

-- each history has the calls of all clients
each-of : (ends : List SeatEnd) → AllZip IsHistoryOf ends (map history-of ends)
each-of [] = tt
each-of (e ∷ es) = (record { first = refl; last = refl; told = refl }, each-of es)

-- where a deed was done
deed-at : (x y : LiveView) (before after : List SeatDeed) (d : SeatDeed) → HasRun SeatDoes x (before ++ d ∷ after) y
    → (z : LiveView) × (w : LiveView) × HasRun SeatDoes x before z × SeatDoes z d w
deed-at x y [] after d run = (x, run.0, refl, run.1)
deed-at x y (c ∷ before) after d run =
    let rest = deed-at run.0 y before after d run.2 in (rest.0, rest.1, (run.0, run.1, rest.2), rest.3)

-- so last likes that were told there are those that the seat's calls left
shows-last : HistoriesAreCounted → (first z w : LiveView) (before : List Told) (d : SeatDeed) → IsUnused first
    → z.station.last.share ≡ first.station.last.share → HasDone first before z → SeatMakes z d w
    → ShowsLast first before d
shows-last counted first z w before (deed.Last user (Ok page)) unused same done made =
    made.0.1 ∙ (counted first z before unused done).last user
shows-last counted first z w before (deed.Lasts from pages true) unused same done made = λ i less.
    (made.0.lasts refl).lasts i less
    ∙ ap page_or_none
    (ap (λ (s : Share). last_of z.station.last ((from + i) * s.workers + s.worker)) same
    ∙ (counted first z before unused done).last (user_at first (from + i)))
shows-last counted first z w before (deed.Last user (Err why)) unused same done made = tt
shows-last counted first z w before (deed.Lasts from pages false) unused same done made = tt
shows-last counted first z w before (deed.Turn answer) unused same done made = tt
shows-last counted first z w before (deed.Like user page answer) unused same done made = tt
shows-last counted first z w before (deed.LikeRow likes told) unused same done made = tt
shows-last counted first z w before (deed.Look user page tag answer) unused same done made = tt
shows-last counted first z w before (deed.Glance user page answer) unused same done made = tt
shows-last counted first z w before (deed.TakeFound taken) unused same done made = tt
shows-last counted first z w before (deed.Retire answer) unused same done made = tt
shows-last counted first z w before (deed.ComeBack answer) unused same done made = tt

-- those of all seats
shows-lasts : HistoriesAreCounted → (ends : List SeatEnd)
    → ((i : ℕ) (e : SeatEnd) → slice_get ends i ≡ Some e → IsUnused e.first) → All ShowsLasts ends
shows-lasts counted [] unused = All-nil ShowsLasts
shows-lasts counted (e ∷ es) unused =
    All-cons ShowsLasts e es
    (λ before after d is.
    let at = deed-at e.first e.last before after d (subst (λ ds. HasRun SeatDoes e.first ds e.last) is e.leads.run) in
    shows-last counted e.first at.0 at.1 (flat_map calls_of before) d (unused 0 e refl)
    (seat-runs e.first at.0 before at.2).share (done-of e.first at.0 before at.2) at.3.0)
    (shows-lasts counted es (λ j. unused (suc j)))

-- a count of a page is the store's at the end of its phase
abbrev Stands : Opening → List Deed → PageCount → Type 0
Stands o serial r =
    r.count ≡ (store_after (opened o) (filter (λ d. nat_lt d.phase (r.phase + 1)) serial)).count r.page

-- so counts that a client was told show the store
shows : (o : Opening) (serial : List Deed) (d : DriverDeed) → Written (Stands o serial) d → ShowsStore o serial d
shows o serial (Turn end answer) written = tt
shows o serial (Propose pages) written = tt
shows o serial (Snapshot from counts None) written = tt
shows o serial (Snapshot from counts (Some phase)) written = written
shows o serial (SplitPages pages many) written = tt
shows o serial (LastCounts from counts false) written = tt
shows o serial (LastCounts from counts true) written = written

pub shared-strict : ServicesAreStrict → HistoriesAreCounted → LogsWeighAll SeatDoes → SharedServicesAreStrict
shared-strict strict counted weigh o driver ends counts begun closed gone =
    let hs = map history-of ends in
    let firsts-are : map (λ (h : SeatHistory). h.first) hs ≡ firsts ends =
    map-map (λ (h : SeatHistory). h.first) history-of (λ (e : SeatEnd). e.first) (λ e. refl) ends in
    let lasts-are : map (λ (h : SeatHistory). h.last) hs ≡ lasts ends =
    map-map (λ (h : SeatHistory). h.last) history-of (λ (e : SeatEnd). e.last) (λ e. refl) ends in
    let same = driver-runs driver.first driver.last (deeds_in driver.leads.order) driver.leads.run in
    let one = strict o driver.first driver.last hs counts (subst (AreOpened o driver.first) (sym firsts-are) begun) same
    (subst (λ (l : List LiveView). IsClosedService driver.last l counts) (sym lasts-are) closed)
    (subst AreGone (sym lasts-are) gone) in
    let unused : (i : ℕ) (e : SeatEnd) → slice_get ends i ≡ Some e → IsUnused e.first =
    (λ i e at.
    unused-of o begun.factor i driver.first.lead.board e.first
    (begun.fresh.each i e.first (get-map (λ (x : SeatEnd). x.first) ends i e at))) in
    let counts-are : driver.last.lead.seat.opening.counts ≡ o.counts.items =
    ap (λ (z : _). z.counts) same.opening ∙ ap (λ (d : DriverView). d.lead.seat.opening.counts) begun.new in
    record {
      histories = hs;
      each = each-of ends;
      serial = one.0;
      strict = one.1;
      snapshots =
          All-weaker (Written (Stands o one.0)) (ShowsStore o one.0) (shows o one.0) (deeds_in driver.leads.order)
          (all-written (Stands o one.0) driver.first driver.last (deeds_in driver.leads.order) driver.leads.run
          one.2).1;
      last_counts = one.3;
      last_likes = subst (λ (l : List LiveView). HasLastLikes o l one.0) lasts-are one.4;
      told_lasts = shows-lasts counted ends unused;
      totals = λ page less.
          closed.totals page less
          ∙ (λ i. slice_index (counts-are i) page
          + tallies-of counted weigh page ends unused i);
    }
