-- The answers of a merge: a user's likes are all of one worker.
use Rattle.std.proofs.Common.{◌≡◌, ℕ, suc, Bool, true, false, cond, eqb, ◌==◌, List, [], ◌∷◌, ◌++◌, filter_map, take, drop, length, slice_get, Option, Some, None, true≢false, subst, ap, sym, ◌∙◌, refl, eq-eqb, eqb-true}
use Rattle.std.specs.Prelude.{⊤, option_map}
use Rattle.std.specs.List.{cons_option, last_or}
use Rattle.like_requests.specs.Verdict.{home, is_known}
use Rattle.like_requests.proofs.Verdicts.{accepted-passes}
use Rattle.like_requests.specs.declared.request.Request.{Request}
use Rattle.like_tables.specs.Share.{worker_of}
use Rattle.like_promises.specs.declared.log.Ran.{Ran}
use Rattle.like_promises.specs.declared.reply.Reply.TheVariants.{Seen}
use Rattle.like_promises.specs.Asked.{asked, asks}
use Rattle.like_promises.proofs.Asked.{asking, asking-by}
use Rattle.like_promises.specs.Replies.{HasRightAnswers, IsRightAnswer, uncounted}
use Rattle.like_promises.specs.RunStore.{start, store_after}
use Rattle.like_promises.specs.Serial.{entries_by}
use Rattle.like_promises.specs.Store.{Ask, like, look, refuse, reply}
use Rattle.like_promises.specs.Workload.{Workload, request_at, submitters}
use Rattle.like_serial.proofs.Parts.{at_place, passed, place_of_part, take_part}
use Rattle.like_serial.proofs.Seen.{not_some, some_is}
use Rattle.like_serial.proofs.Stores.{last_after, page_by}
use Rattle.std.proofs.lemmas.List.Elements.{filter-append}

-- who likes or looks is at home
abbrev pub IsHome : ℕ → ℕ → Ask → Type 0
IsHome submitters submitter (like user page) = home submitters user ≡ submitter
IsHome submitters submitter (look user page) = home submitters user ≡ submitter
IsHome submitters submitter (refuse why) = ⊤

pub ask_home : (workload : Workload) (e : Ran) (a : Ask)
    → asked workload e.submitter e.number ≡ Some a
    → IsHome (submitters workload) e.submitter a
ask_home workload e a is = by (request_at workload e.submitter e.number) is where
  by : (o : Option Request) → option_map (asking workload.users (submitters workload) e.submitter) o ≡ Some a
      → IsHome (submitters workload) e.submitter a
  by None is = absurd (not_some a is)
  by (Some r) is =
      subst (IsHome (submitters workload) e.submitter) (some_is _ a is)
      (asking-by workload.users (submitters workload) e.submitter r (IsHome (submitters workload) e.submitter)
      (λ refused. tt)
      (λ accepted page known.
      let at_home =
      (accepted-passes workload.users (submitters workload) e.submitter r.user (is_known r.page) accepted).1 in
      (at_home, at_home)))

-- the likes of a user are all among those of its worker
module _ (workload : Workload) (workers user : ℕ) where
  abbrev pub serving : ℕ
  serving = worker_of workers (home (submitters workload) user)

  abbrev pages : List Ask → List ℕ
  pages given = filter_map (page_by user) given

  abbrev own : List Ran → List Ran
  own xs = entries_by workers serving xs

  one_more : (e : Ran) (xs : List Ran) (b : Bool)
      → eqb (worker_of workers e.submitter) serving ≡ b
      → pages (asks workload xs) ≡ pages (asks workload (own xs))
      → pages (asks workload (e ∷ xs)) ≡ pages (asks workload (cond b (e ∷ own xs) (own xs)))
  one_more e xs true mine same = by (asked workload e.submitter e.number) where
    by : (o : Option Ask) → pages (cons_option o (asks workload xs)) ≡ pages (cons_option o (asks workload (own xs)))
    by None = same
    by (Some a) = ap (cons_option (page_by user a)) same
  one_more e xs false other same = by (asked workload e.submitter e.number) refl where
    by_user : (c : Bool) (liker page : ℕ)
        → eqb liker user ≡ c
        → home (submitters workload) liker ≡ e.submitter
        → cons_option (cond c (Some page) None) (pages (asks workload xs)) ≡ pages (asks workload (own xs))
    by_user false liker page is at_home = same
    by_user true liker page is at_home =
        let mine : worker_of workers e.submitter ≡ serving =
        ap (worker_of workers) (sym at_home ∙ ap (home (submitters workload)) (eqb-true liker user is))
        in
        absurd (true≢false (sym (eq-eqb (worker_of workers e.submitter) serving mine) ∙ other))

    by : (o : Option Ask) → asked workload e.submitter e.number ≡ o
        → pages (cons_option o (asks workload xs)) ≡ pages (asks workload (own xs))
    by None is = same
    by (Some (like liker page)) is = by_user (eqb liker user) liker page refl (ask_home workload e (like liker page) is)
    by (Some (look looker page)) is = same
    by (Some (refuse why)) is = same

  user_likes : (xs : List Ran) → pages (asks workload xs) ≡ pages (asks workload (own xs))
  user_likes [] = refl
  user_likes (e ∷ xs) = one_more e xs (eqb (worker_of workers e.submitter) serving) refl (user_likes xs)

  pub last_of_own : (xs : List Ran)
      → (store_after workload xs).last user ≡ (store_after workload (own xs)).last user
  last_of_own xs =
      last_after (start workload) (asks workload xs) user ∙ ap (last_or None) (user_likes xs)
      ∙ sym (last_after (start workload) (asks workload (own xs)) user)

-- so an answer is right after its worker's entries if it is right after all, and the other way round
module _ (workload : Workload) (workers : ℕ) (before : List Ran) (e : Ran) where
  abbrev mine : List Ran
  mine = entries_by workers (worker_of workers e.submitter) before

  reply_same : (a : Ask) → IsHome (submitters workload) e.submitter a
      → uncounted (reply (store_after workload before) a) ≡ uncounted (reply (store_after workload mine) a)
  reply_same (like user page) at_home = refl
  reply_same (look user page) at_home =
      ap (λ last. Seen last 0)
      (last_of_own workload workers user before
      ∙ ap (λ w. (store_after workload (entries_by workers w before)).last user) (ap (worker_of workers) at_home))
  reply_same (refuse why) at_home = refl

  answer_same : option_map (λ a. uncounted (reply (store_after workload before) a)) (asked workload e.submitter e.number)
      ≡ option_map (λ a. uncounted (reply (store_after workload mine) a)) (asked workload e.submitter e.number)
  answer_same = by (asked workload e.submitter e.number) refl where
    by : (o : Option Ask) → asked workload e.submitter e.number ≡ o
        → option_map (λ a. uncounted (reply (store_after workload before) a)) o
        ≡ option_map (λ a. uncounted (reply (store_after workload mine) a)) o
    by None is = refl
    by (Some a) is = ap Some (reply_same a (ask_home workload e a is))

  right_after_own : IsRightAnswer workload before e → IsRightAnswer workload mine e
  right_after_own right = sym answer_same ∙ right

  right_after_all : IsRightAnswer workload mine e → IsRightAnswer workload before e
  right_after_all right = answer_same ∙ right

-- the place of an entry in its worker's run list
pub own_part : (workers : ℕ) (before : List Ran) (e : Ran) (after : List Ran)
    → entries_by workers (worker_of workers e.submitter) (before ++ e ∷ after)
    ≡ entries_by workers (worker_of workers e.submitter) before
    ++ e ∷ entries_by workers (worker_of workers e.submitter) after
own_part workers before e after =
    let w = worker_of workers e.submitter in
    filter-append (λ (d : Ran). worker_of workers d.submitter == w) before (e ∷ after)
    ∙ ap
    (λ b. entries_by workers w before ++ cond b (e ∷ entries_by workers w after) (entries_by workers w after))
    (eq-eqb w w refl)

-- a merge of run lists has right answers if they do
pub answers_of_own : (workload : Workload) (workers : ℕ) (runs : ℕ → List Ran) (serial : List Ran)
    → ((w : ℕ) → entries_by workers w serial ≡ runs w)
    → ((w : ℕ) → HasRightAnswers workload (runs w))
    → HasRightAnswers workload serial
answers_of_own workload workers runs serial own right i e at =
    let w = worker_of workers e.submitter in
    let before = take i serial in
    let after = drop (suc i) serial in
    let mine : entries_by workers w before ++ e ∷ entries_by workers w after ≡ runs w =
    sym (own_part workers before e after) ∙ ap (entries_by workers w) (sym (at_place serial i e at)) ∙ own w
    in
    let n = length (entries_by workers w before) in
    let here : slice_get (runs w) n ≡ Some e =
    subst (λ xs. slice_get xs n ≡ Some e) mine
    (place_of_part (entries_by workers w before) e (entries_by workers w after))
    in
    let front : take n (runs w) ≡ entries_by workers w before =
    subst (λ xs. take n xs ≡ entries_by workers w before) mine
    (take_part (entries_by workers w before) e (entries_by workers w after))
    in
    right_after_all workload workers before e
    (subst (λ xs. IsRightAnswer workload xs e) front (right w n e here))

-- and a part of it by worker has right answers if the merge does
pub own_answers : (workload : Workload) (workers w : ℕ) (serial : List Ran)
    → HasRightAnswers workload serial
    → HasRightAnswers workload (entries_by workers w serial)
own_answers workload workers w serial right i e at =
    let run = entries_by workers w serial in
    let p = passed (λ (d : Ran). worker_of workers d.submitter == w) serial (take i run) e (drop (suc i) run)
    (at_place run i e at)
    in
    let mine : worker_of workers e.submitter ≡ w = eqb-true (worker_of workers e.submitter) w p.passes in
    let there = right (length p.front) e
    (subst (λ xs. slice_get xs (length p.front) ≡ Some e) (sym p.is) (place_of_part p.front e p.rest))
    in
    let after : IsRightAnswer workload p.front e =
    subst (λ xs. IsRightAnswer workload xs e) (ap (take (length p.front)) p.is ∙ take_part p.front e p.rest) there
    in
    subst (λ xs. IsRightAnswer workload xs e) (ap (λ k. entries_by workers k p.front) mine ∙ p.fronts)
    (right_after_own workload workers p.front e after)
