-- A report that is right end to end shows pages that are there and replies that can be shown.
use Rattle.std.proofs.Common.{◌≡◌, ℕ, zero, suc, ◌<◌, Bool, true, false, List, [], ◌∷◌, length, map, take, get_or, cond, ◌==◌, Option, None, Some, All, refl, sym, ap, ◌∙◌, subst, arith, zero-add}
use Rattle.std.proofs.lemmas.List.Elements.{All-from_recursion}
use Rattle.std.proofs.lemmas.List.FromFn.{get_or-map-range_with_len, length-map-range_with_len}
use Rattle.std.proofs.lemmas.Option.{get_or_from_slice_get, slice_get_within}
use Rattle.std.specs.Prelude.{◌≢◌, option_map}
use Rattle.std.specs.List.{AllByRecursion, cons_option, filter, slice_get}
use Rattle.std.specs.Option.{ForSome, option_and_then, option_to_list}
use Rattle.like_requests.specs.Setup.{IsPlan, IsThere}
use Rattle.like_requests.specs.declared.request.Request.{Request}
use Rattle.like_requests.specs.declared.verdict.Verdict.{Verdict}
use Rattle.like_requests.specs.declared.verdict.Verdict.TheVariants.{Accepted}
use Rattle.like_promises.proofs.RequestAt.{request_at-plan}
use Rattle.like_promises.proofs.Asked.{asking, like-there, refused-why}
use Rattle.like_promises.specs.Asked.{asks}
use Rattle.like_promises.specs.declared.log.Ran.{Ran}
use Rattle.like_promises.specs.declared.reply.Reply.{Reply}
use Rattle.like_promises.specs.declared.reply.Reply.TheVariants.{Liked, Seen, Refused}
use Rattle.like_promises.specs.Replies.{HasRightAnswers, IsRightAnswer, uncounted}
use Rattle.like_promises.specs.Store.{Ask, Store, after, after_all, like, look, refuse, reply}
use Rattle.like_promises.specs.Workload.{Workload, nth, request_at, submitters}
use Rattle.like_promises.specs.declared.answer.Answer.{Answer}
use Rattle.like_promises.specs.declared.report.Report.{Report}
use Rattle.like_promises.specs.Collected.{rows_of, answer_of, entries_of}
use Rattle.like_collection.proofs.Entries.{is_of}
use Rattle.like_replies.specs.Reported.{reported}
use Rattle.like_replies.specs.Rows.{IsShowable, IsWritable}
use Rattle.like_promises.specs.RunStore.{start, store_after}
use Rattle.like_promises.specs.Report.{IsRunOf}
use Rattle.like_serial.proofs.OneThread.{one_thread_is_serial}

-- what holds of each element by its place holds of all
all_from_get : {X : Type 0} (P : X → Type 0) (xs : List X)
    → ((i : ℕ) (x : X) → slice_get xs i ≡ Some x → P x)
    → AllByRecursion P xs
all_from_get P [] each = tt
all_from_get P (x ∷ xs) each = (each 0 x refl, all_from_get P xs (λ i y h. each (suc i) y h))

kept : {X : Type 0} (P : X → Type 0) (b : Bool) (x : X) (rest : List X)
    → P x
    → AllByRecursion P rest
    → AllByRecursion P (cond b (x ∷ rest) rest)
kept P true x rest first all = (first, all)
kept P false x rest first all = all

-- so it does of those that pass a test
all_filter : {X : Type 0} (P : X → Type 0) (test : X → Bool) (xs : List X)
    → AllByRecursion P xs
    → AllByRecursion P (filter test xs)
all_filter P test [] all = tt
all_filter P test (x ∷ xs) all = kept P (test x) x (filter test xs) all.0 (all_filter P test xs all.1)

all_map : {X Y : Type 0} (f : X → Y) (P : Y → Type 0) (xs : List X)
    → AllByRecursion (λ x. P (f x)) xs
    → AllByRecursion P (map f xs)
all_map f P [] all = tt
all_map f P (x ∷ xs) all = (all.0, all_map f P xs all.1)

module _ (workload : Workload) (planned : All (IsPlan workload.pages) workload.plans) where
  -- the page that a request of a plan knows is there
  in_plan : (plan : List Request) (number : ℕ) (r : Request) → IsPlan workload.pages plan
      → nth plan number ≡ Some r → IsThere (length workload.pages) r.page
  in_plan plan zero r is at = absurd (let no : None ≡ Some r = at in cc no)
  in_plan plan (suc n) r is at =
      subst (λ (x : Request). IsThere (length workload.pages) x.page) (get_or_from_slice_get plan n r r at)
      (is.there n r (slice_get_within plan n r at))

  asked_there : (submitter number : ℕ) (r : Request) → request_at workload submitter number ≡ Some r
      → IsThere (length workload.pages) r.page
  asked_there submitter number r at =
      by_plan (slice_get workload.plans submitter) refl (sym (request_at-plan workload submitter number) ∙ at) where
        by_plan : (o : Option (List Request)) → slice_get workload.plans submitter ≡ o
            → option_and_then (λ plan. nth plan number) o ≡ Some r → IsThere (length workload.pages) r.page
        by_plan None is h = absurd (let no : None ≡ Some r = h in cc no)
        by_plan (Some plan) is h =
            in_plan plan number r
            (subst (IsPlan workload.pages) (get_or_from_slice_get workload.plans submitter plan plan is)
            (planned submitter plan (slice_get_within workload.plans submitter plan is))) h

  -- what a submitter's request asks
  abbrev asking_of : ℕ → Request → Ask
  asking_of submitter r = asking workload.users (submitters workload) submitter r

  -- a store whose last likes are of pages that are there
  abbrev HasPages : Store → Type 0
  HasPages s = (user : ℕ) → ForSome (s.last user) (λ p. p < length workload.pages)

  -- so it is after a request of a plan
  after_there : (s : Store) (a : Ask) → ((user page : ℕ) → a ≡ like user page → page < length workload.pages)
      → HasPages s → HasPages (after s a)
  after_there s (like who page) there has user = by (who == user) where
    by : (b : Bool) → ForSome (cond b (Some page) (s.last user)) (λ p. p < length workload.pages)
    by true = λ p h. subst (λ q. q < length workload.pages) (cc h) (there who page refl)
    by false = has user
  after_there s (look who page) there has user = has user
  after_there s (refuse why) there has user = has user

  -- and after entries
  ran_there : (s : Store) (entries : List Ran) → HasPages s → HasPages (after_all s (asks workload entries))
  ran_there s [] has = has
  ran_there s (e ∷ rest) has =
      by (λ t kept. ran_there t rest kept) (request_at workload e.submitter e.number)
      (λ r at. asked_there e.submitter e.number r at) where
        by : ((t : Store) → HasPages t → HasPages (after_all t (asks workload rest)))
            → (o : Option Request) → ((r : Request) → o ≡ Some r → IsThere (length workload.pages) r.page)
            → HasPages (after_all s (cons_option (option_map (asking_of e.submitter) o) (asks workload rest)))
        by more None there = more s has
        by more (Some r) there =
            more (after s (asking_of e.submitter r))
            (after_there s (asking_of e.submitter r)
            (like-there workload.users (submitters workload) e.submitter r (length workload.pages) (there r refl)) has)

  has_pages : (entries : List Ran) → HasPages (store_after workload entries)
  has_pages entries = ran_there (start workload) entries (λ user p h. absurd (let no : None ≡ Some p = h in cc no))

  -- a right reply can be shown
  reply_shows : (s : Store) (a : Ask) (given : Reply) → HasPages s → ((why : Verdict) → a ≡ refuse why → why ≢ Accepted)
      → uncounted (reply s a) ≡ uncounted given → IsShowable workload.pages given
  reply_shows s a Liked has why is = tt
  reply_shows s (like user page) (Seen last count) has why is = absurd (cc is)
  reply_shows s (look user page) (Seen last count) has why is =
      let same : s.last user ≡ last = cc is in
      subst (λ (o : Option ℕ). ForSome o (λ p. p < length workload.pages)) same (has user)
  reply_shows s (refuse reason) (Seen last count) has why is = absurd (cc is)
  reply_shows s (like user page) (Refused given) has why is = absurd (cc is)
  reply_shows s (look user page) (Refused given) has why is = absurd (cc is)
  reply_shows s (refuse reason) (Refused given) has why is =
      let same : reason ≡ given = cc is in subst (λ w. w ≢ Accepted) same (why reason refl)

  entry_shows : (before : List Ran) (e : Ran) → IsRightAnswer workload before e → IsShowable workload.pages e.reply
  entry_shows before e right = by_request (request_at workload e.submitter e.number) right where
    by_request : (o : Option Request)
        → option_map (λ a. uncounted (reply (store_after workload before) a)) (option_map (asking_of e.submitter) o)
        ≡ Some (uncounted e.reply)
        → IsShowable workload.pages e.reply
    by_request None h = absurd (cc h)
    by_request (Some r) h =
        let same : uncounted (reply (store_after workload before) (asking_of e.submitter r)) ≡ uncounted e.reply =
        cc h in
        reply_shows (store_after workload before) (asking_of e.submitter r) e.reply (has_pages before)
        (refused-why workload.users (submitters workload) e.submitter r) same

  list_shows : (ran : List Ran) → HasRightAnswers workload ran
      → AllByRecursion (λ (e : Ran). IsShowable workload.pages e.reply) ran
  list_shows ran right =
      all_from_get (λ (e : Ran). IsShowable workload.pages e.reply) ran
      (λ i e at. entry_shows (take i ran) e (right i e at))

  module _ (workers : ℕ) (r : Report) (serial : List Ran) (h : IsRunOf workload workers r serial) where
    -- all entries can be shown
    all_show : AllByRecursion (λ (e : Ran). IsShowable workload.pages e.reply) serial
    all_show = list_shows serial (one_thread_is_serial workload serial h.one.replies).0

    -- so can each answer, which is that of an entry
    answer_shows : (submitter place : ℕ) (a : Answer) → nth (get_or (rows_of r.replies) submitter []) (suc place) ≡ Some a
        → IsShowable workload.pages a.reply
    answer_shows submitter place a at =
        let one : map answer_of (entries_of submitter (suc place) serial) ≡ a ∷ [] =
        h.one.answers.each submitter (suc place) ∙ ap option_to_list at in
        let shown = all_map answer_of (λ (x : Answer). IsShowable workload.pages x.reply)
        (entries_of submitter (suc place) serial)
        (all_filter (λ (e : Ran). IsShowable workload.pages e.reply) (is_of submitter (suc place)) serial all_show) in
        (subst (AllByRecursion (λ (x : Answer). IsShowable workload.pages x.reply)) one shown).0

    row_shows : (submitter : ℕ) (row : List Answer) → slice_get (rows_of r.replies) submitter ≡ Some row
        → All (λ (a : Answer). IsShowable workload.pages a.reply) row
    row_shows submitter row at =
        All-from_recursion (λ (a : Answer). IsShowable workload.pages a.reply) row
        (all_from_get (λ (a : Answer). IsShowable workload.pages a.reply) row (λ place a there.
        answer_shows submitter place a
        (ap (λ xs. slice_get xs place) (get_or_from_slice_get (rows_of r.replies) submitter row [] at) ∙ there)))

    -- each user's last like is the store's at the end
    abbrev last_of_user : ℕ → Option ℕ
    last_of_user user = (store_after workload serial).last user

    user_shows : (user : ℕ) (last : Option ℕ) → slice_get r.last.items user ≡ Some last
        → ForSome last (λ page. page < length workload.pages)
    user_shows user last at =
        let sized = ap (λ (xs : List (Option ℕ)). length xs) h.one.last
        ∙ length-map-range_with_len last_of_user 0 workload.users in
        let known : user < workload.users = omega (arith, slice_get_within r.last.items user last at, sized) in
        let is : (store_after workload serial).last user ≡ last =
        sym (ap (λ (xs : List (Option ℕ)). get_or xs user None) h.one.last
        ∙ get_or-map-range_with_len last_of_user 0 workload.users user user None known (zero-add user))
        ∙ get_or_from_slice_get r.last.items user last None at in
        subst (λ x. ForSome x (λ page. page < length workload.pages)) is (has_pages serial user)

    -- so the report may be written
    pub IsWritable-end_to_end : IsWritable workload.pages (reported r)
    IsWritable-end_to_end =
        let P : List Answer → Type 0 = λ row. All (λ (a : Answer). IsShowable workload.pages a.reply) row in
        let Q : Option ℕ → Type 0 = λ last. ForSome last (λ page. page < length workload.pages) in
        record {
          counted =
              ap (λ (xs : List ℕ). length xs) h.one.counts
              ∙ length-map-range_with_len (store_after workload serial).count 0 (length workload.pages);
          shown = All-from_recursion P (rows_of r.replies) (all_from_get P (rows_of r.replies) row_shows);
          liked = All-from_recursion Q r.last.items (all_from_get Q r.last.items user_shows);
        }
