-- The replies of a serial list are the store's, and the other way round.
use Rattle.std.proofs.Common.{◌≡◌, ℕ, ◌+◌, List, map, take, Option, Some, None, option_and_then, ap, ap₂, sym, ◌∙◌, refl}
use Rattle.std.specs.Prelude.{option_map}
use Rattle.like_promises.specs.declared.log.Ran.{Ran}
use Rattle.like_promises.specs.declared.reply.Reply.{Reply}
use Rattle.like_promises.specs.declared.reply.Reply.TheVariants.{Liked, Seen, Refused}
use Rattle.like_promises.specs.declared.report.Report.{Report}
use Rattle.like_promises.specs.Asked.{asked, asks}
use Rattle.like_promises.specs.EndToEnd.{runs_of}
use Rattle.like_promises.specs.Likes.{count_in, initial_count, likes_among, look_ran, page_asked}
use Rattle.like_promises.specs.Report.{IsOneThread}
use Rattle.like_promises.specs.Replies.{HasRightAnswers, IsRightAnswer, uncounted}
use Rattle.like_promises.specs.RunStore.{start, store_after}
use Rattle.like_promises.specs.Serial.{HasExactCounts, IsSerial}
use Rattle.like_promises.specs.Store.{Ask, Store, like, look, refuse, replies, reply}
use Rattle.like_promises.specs.Workload.{Workload}
use Rattle.like_serial.specs.Laws.{OneThreadIsSerial}
use Rattle.like_serial.proofs.Seen.{not_some, some_is}
use Rattle.like_serial.proofs.Stores.{adds_by, by_place, count_after, in_list}
use Rattle.like_serial.proofs.Weigh.{sum-weigh}

-- the store's count after entries
pub count_is : (workload : Workload) (entries : List Ran) (page : ℕ)
    → (store_after workload entries).count page
    ≡ initial_count workload.pages page + likes_among workload page entries
count_is workload entries page =
    count_after (start workload) (asks workload entries) page
    ∙ ap (λ n. initial_count workload.pages page + n) (sym (sum-weigh (adds_by page) (asks workload entries)))

-- a reply is the store's if it is, its count aside, and shows the store's count
whole : (s : Store) (a : Ask) (r : Reply)
    → uncounted (reply s a) ≡ uncounted r
    → ((page : ℕ) → page_asked a ≡ Some page → count_in r ≡ s.count page)
    → reply s a ≡ r
whole s (like user page) Liked is shows = refl
whole s (like user page) (Seen last count) is shows = absurd (cc is)
whole s (like user page) (Refused why) is shows = absurd (cc is)
whole s (look user page) Liked is shows = absurd (cc is)
whole s (look user page) (Seen last count) is shows =
    let same : s.last user ≡ last = cc is in ap₂ Seen same (sym (shows page refl))
whole s (look user page) (Refused why) is shows = absurd (cc is)
whole s (refuse why) Liked is shows = absurd (cc is)
whole s (refuse why) (Seen last count) is shows = absurd (cc is)
whole s (refuse why) (Refused other) is shows = is

-- an entry's reply is the store's if it is right, and shows the exact count
module _ (workload : Workload) (before : List Ran) (e : Ran) where
  abbrev s : Store
  s = store_after workload before

  abbrev ask : Option Ask
  ask = asked workload e.submitter e.number

  -- the reply shows the exact count
  abbrev pub IsExact : Type 0
  IsExact =
      (page : ℕ) → look_ran workload e ≡ Some page
      → count_in e.reply ≡ initial_count workload.pages page + likes_among workload page before

  pub store_replies : IsRightAnswer workload before e → IsExact → option_map (reply s) ask ≡ Some e.reply
  store_replies right exact = by ask right (λ page is. exact page is ∙ sym (count_is workload before page)) where
    by : (o : Option Ask)
        → option_map (λ a. uncounted (reply s a)) o ≡ Some (uncounted e.reply)
        → ((page : ℕ) → option_and_then page_asked o ≡ Some page → count_in e.reply ≡ s.count page)
        → option_map (reply s) o ≡ Some e.reply
    by None right shows = absurd (not_some (uncounted e.reply) right)
    by (Some a) right shows = ap Some (whole s a e.reply (some_is _ _ right) shows)

  -- and the other way round
  pub right_reply : option_map (reply s) ask ≡ Some e.reply → IsRightAnswer workload before e × IsExact
  right_reply is = (right ask is, λ page seen. shows ask is page seen ∙ count_is workload before page) where
    right : (o : Option Ask) → option_map (reply s) o ≡ Some e.reply
        → option_map (λ a. uncounted (reply s a)) o ≡ Some (uncounted e.reply)
    right None is = absurd (not_some e.reply is)
    right (Some a) is = ap (λ r. Some (uncounted r)) (some_is _ e.reply is)

    shows : (o : Option Ask) → option_map (reply s) o ≡ Some e.reply
        → (page : ℕ) → option_and_then page_asked o ≡ Some page → count_in e.reply ≡ s.count page
    shows None is page seen = absurd (not_some page seen)
    shows (Some (like user liked)) is page seen = absurd (not_some page seen)
    shows (Some (look user looked)) is page seen =
        sym (ap count_in (some_is _ e.reply is)) ∙ ap s.count (some_is looked page seen)
    shows (Some (refuse why)) is page seen = absurd (not_some page seen)

-- where each answer is right after the entries before it, and counts are exact, the replies are the store's
pub serial_is_one_thread : (workload : Workload) (serial : List Ran)
    → HasRightAnswers workload serial
    → HasExactCounts workload serial
    → map (λ e. e.reply) serial ≡ replies (start workload) (asks workload serial)
serial_is_one_thread workload serial right exact =
    in_list (λ e. asked workload e.submitter e.number) (start workload) serial
    (λ i e at. store_replies workload (take i serial) e (right i e at) (λ page seen. exact i page e at seen))

pub one_thread_is_serial : OneThreadIsSerial
one_thread_is_serial workload serial is =
    let each = by_place (λ e. asked workload e.submitter e.number) (start workload) serial is in (
      λ i e at. (right_reply workload (take i serial) e (each i e at)).0,
      λ i page e at seen. (right_reply workload (take i serial) e (each i e at)).1 page seen,
    )

pub serial_in : (workload : Workload) (workers : ℕ) (r : Report) (serial : List Ran)
    → IsOneThread workload workers r serial
    → IsSerial workload workers (runs_of r.logs.items) serial
serial_in workload workers r serial is = record { own = is.own; rising = is.rising; replies = is.replies }
