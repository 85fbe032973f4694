-- A worker that the tests play with.
use Rattle.std.proofs.Common.{zero, suc, ◌≡◌, ℕ, ◌+◌, ◌-◌, ◌^◌, ◌<◌, ◌≤◌, ◌==◌, Bool, true, false, cond, List, Vec, Global, [], ◌∷◌, ◌++◌, length, map, get_or, set, count_by, None, Some, subst, ap, sym, ◌∙◌, refl, arith}
use Rattle.std.specs.List.{All}
use Rattle.std.proofs.lemmas.Bool.{eq-eqb}
use Rattle.std.proofs.lemmas.List.{get_or-map, get_or-set_same, length-map, length-replicate, length-set}
use Rattle.std.proofs.lemmas.List.Sums.{sum_by_push}
use Rattle.std.proofs.lemmas.Option.{get_or_from_slice_get, slice_get_within}
use Rattle.like_requests.specs.Pages.{ArePages, Page, counts_of}
use Rattle.like_requests.specs.Setup.{IsPlan, IsThere, IsWithinLimits}
use Rattle.like_requests.proofs.Planned.{plans-within}
use Rattle.like_requests.specs.declared.request.Request.{Request}
use Rattle.like_requests.specs.declared.request.Taken.{Taken}
use Rattle.like_requests.specs.declared.request.Taken.TheVariants as taken
use Rattle.like_requests.specs.declared.setup.Setup.{Setup}
use Rattle.like_core.specs.Post.{pages_of}
use Rattle.like_core.specs.declared.view.WorkerSeatView.{WorkerSeatView}
use Rattle.like_tables.specs.Share.{dealt}
use Rattle.like_limits.specs.Limits.{max_requests}
use Rattle.like_promises.specs.Workload.{lists_of}
use Rattle.like_promises.specs.declared.log.Took.{Took}
use Rattle.like_roles.specs.declared.terms.Terms.{Terms}
use Rattle.like_roles.specs.declared.turn.Turn.{Turn}
use Rattle.like_roles.specs.declared.turn.Turn.TheVariants as turn
use Rattle.like_roles.specs.worker.New.{IsNew, IsPostOf}
use Rattle.test_parts.specs.Playing.{IsAt, IsNextGiven, IsPlaying}
use Rattle.like_roles.specs.worker.Turns.{CanGive, HasTaken, IsNext, Pends, TakesNothing, with_taken}
use Rattle.like_roles.specs.worker.WorkerView.{WorkerView, phase_at, submitter_at}

-- where nothing was taken, it is where it was
pub stays_at : (plan : List Request) (next : ℕ) (old new : WorkerView)
    → IsAt plan next old
    → TakesNothing old new
    → IsAt plan next new
stays_at plan next old new p same = record {
  one = rw same.ended p.one;
  taken = rw (same.share, same.taken) p.taken;
  left = rw (same.ended, same.left) p.left;
  few = p.few;
  there = rw same.marks p.there;
}

-- no submitter is tried but after the answer that says so
pub tries_none : (answer : Turn) (v : WorkerView)
    → ((submitter : ℕ) → answer ≡ turn.Try submitter → ⊥)
    → Pends answer v
    → v.pending ≡ None
tries_none turn.Ran v other p = p
tries_none turn.Stashed v other p = p
tries_none turn.TookEnd v other p = p
tries_none turn.Nothing v other p = p
tries_none turn.Acknowledged v other p = p
tries_none turn.Reported v other p = p
tries_none turn.Waiting v other p = p
tries_none turn.Idle v other p = p
tries_none turn.Retired v other p = p
tries_none (turn.Try submitter) v other p = absurd (other submitter refl)

-- the submitter that is tried is the only one
only_place : (plan : List Request) (next : ℕ) (v : WorkerView) (submitter place : ℕ)
    → IsAt plan next v
    → Pends (turn.Try submitter) v
    → v.pending ≡ Some place
    → 0 ≡ place
only_place plan next v submitter place p tries is =
    let same : tries.0 ≡ place = (let e = sym tries.1.0 ∙ is in cc) in
    let below = tries.1.2 in
    let one = p.one in
    omega arith

-- what is given may be given
pub may_give : (plan : List Request) (next then : ℕ) (v : WorkerView) (submitter : ℕ) (given : Taken)
    → IsAt plan next v
    → Pends (turn.Try submitter) v
    → IsNextGiven plan next given then
    → CanGive v given
may_give plan next then v submitter (taken.Ask ask) p tries given = λ place is.
    let within = slice_get_within plan next ask.request given.0 in
    let below = tries.1.2 in
    let left = p.left (omega arith) in
    let first : IsNext v 0 ask =
    record {
      number = given.1 ∙ ap (λ n. n + 1) (sym p.taken);
      some = omega arith;
      there = subst (λ (r : Request). IsThere (pages_of v.post) r.page)
          (get_or_from_slice_get plan next ask.request ask.request given.0) (p.there next ask.request within);
    }
    in
    subst (λ k. IsNext v k ask) (only_place plan next v submitter place p tries is) first
may_give plan next then v submitter taken.End p tries given = tt
may_give plan next then v submitter taken.Nothing p tries given = tt

-- a list with an element that is not 0 is not empty
some_there : (xs : List ℕ) → 1 ≤ get_or xs 0 0 → 0 < length xs
some_there [] h = absurd (omega arith)
some_there (x ∷ xs) h = omega arith

-- one more of those that are counted
count_by-push : {X : Type 0} (p : X → Bool) (xs : List X) (x : X)
    → p x ≡ true
    → count_by p (xs ++ x ∷ []) ≡ count_by p xs + 1
count_by-push p xs x passes =
    sum_by_push (λ y. cond (p y) 1 0) xs x ∙ ap (λ (b : Bool). count_by p xs + cond b 1 0) passes

-- and then it is one further
pub gave : (plan : List Request) (next then : ℕ) (v new : WorkerView) (submitter : ℕ) (given : Taken)
    → IsAt plan next v
    → Pends (turn.Try submitter) v
    → IsNextGiven plan next given then
    → HasTaken v given new
    → IsAt plan then new
gave plan next then v new submitter (taken.Ask ask) p tries given took =
    let first = sym (only_place plan next v submitter tries.0 p tries tries.1.0) in
    let same : TakesNothing (with_taken v 0 ask) new = took 0 (tries.1.0 ∙ ap Some first) in
    let within = slice_get_within plan next ask.request given.0 in
    let below = tries.1.2 in
    let left = p.left (omega arith) in
    let there = some_there v.left (omega arith) in
    let one_left = get_or-set_same v.left 0 (get_or v.left 0 0 - 1) 0 there in
    let more = count_by-push (λ (t : Took). t.submitter == submitter_at v 0) v.taken
    (record { phase = phase_at v; submitter = submitter_at v 0; number = ask.number })
    (eq-eqb (submitter_at v 0) (submitter_at v 0) refl) in
    let at : IsAt plan (next + 1) (with_taken v 0 ask) =
    record {
      one = p.one;
      taken = more ∙ ap (λ n. n + 1) p.taken;
      left = λ _. omega arith;
      few = p.few;
      there = p.there;
    }
    in
    subst (λ k. IsAt plan k new) (sym given.2) (stays_at plan (next + 1) (with_taken v 0 ask) new at same)
gave plan next then v new submitter taken.End p tries given took =
    let same = took tries.0 tries.1.0 in
    let at = stays_at plan next (record v { ended = set v.ended tries.0 true }) new (record {
      one = rw (length-set v.ended tries.0 true) p.one;
      taken = p.taken;
      left = rw (length-set v.ended tries.0 true) p.left;
      few = p.few;
      there = p.there;
    }) same in
    subst (λ k. IsAt plan k new) (sym given) at
gave plan next then v new submitter taken.Nothing p tries given took = absurd given

-- a worker past the submitters is dealt none
dealt_none : (workers worker : ℕ) (sizes : List ℕ) → length sizes ≤ worker → dealt workers worker sizes ≡ []
dealt_none workers worker [] few = refl
dealt_none workers zero (x ∷ sizes) few = absurd (omega arith)
dealt_none workers (suc worker) (x ∷ sizes) few = dealt_none workers worker sizes (omega arith)

-- with no more submitters than workers, each worker is dealt one at most: the one with its number
dealt_one : (workers worker : ℕ) (sizes : List ℕ)
    → 1 ≤ workers
    → length sizes ≤ workers
    → (length (dealt workers worker sizes) ≤ 1)
    × (1 ≤ length (dealt workers worker sizes) → get_or (dealt workers worker sizes) 0 0 ≡ get_or sizes worker 0)
dealt_one workers worker [] some few = (omega arith, λ here. absurd (omega arith))
dealt_one workers zero (x ∷ sizes) some few =
    let none : dealt workers (workers - 1) sizes ≡ [] = dealt_none workers (workers - 1) sizes (omega arith) in
    (rw none (omega arith), λ here. refl)
dealt_one workers (suc worker) (x ∷ sizes) some few = dealt_one workers worker sizes some (omega arith)

-- how many requests a submitter has, or none if there is no such submitter
size_at : (plans : List (List Request)) (submitter : ℕ)
    → get_or (map length plans) submitter 0 ≡ length (get_or plans submitter [])
size_at [] submitter = refl
size_at (plan ∷ plans) zero = refl
size_at (plan ∷ plans) (suc submitter) = size_at plans submitter

-- a list of requests that is one of these, or empty, is within the limits
plan_at : (pages : List Page) (plans : List (List Request)) (submitter : ℕ)
    → All (IsPlan pages) plans
    → IsPlan pages (get_or plans submitter [])
plan_at pages [] submitter all = record { few = omega arith; there = λ k d below. absurd (omega arith) }
plan_at pages (plan ∷ plans) zero all = all 0 [] (omega arith)
plan_at pages (plan ∷ plans) (suc submitter) all =
    plan_at pages plans submitter (λ k d below. all (suc k) d (omega arith))

-- a new worker may be played with
pub plays_new : (s : Setup) (plans : List (List Request)) (terms : Terms) (worker : ℕ)
    (post : WorkerSeatView) (plan : List Request) (v : WorkerView)
    → IsWithinLimits s plans
    → terms.sizes.now ≡ map length plans
    → length terms.sizes.now ≤ s.workers
    → plan ≡ get_or plans worker []
    → IsPostOf worker s.pages post
    → IsNew s terms worker post v
    → IsPlaying plan 0 v
plays_new s plans terms worker post plan v w sized few is his new =
    let sizes : List ℕ = terms.sizes.now in
    let own = dealt_one s.workers worker sizes w.0.0 few in
    let lists = plan_at s.pages plans worker (plans-within s plans w) in
    let ended : length v.ended ≡ length v.left = ap length new.ended ∙ length-replicate (length v.left) false in
    let left_is : length v.left ≡ length (dealt s.workers worker sizes) = ap length new.left in
    let size : get_or sizes worker 0 ≡ length plan =
    ap (λ xs. get_or xs worker 0) sized ∙ (size_at plans worker ∙ ap length (sym is)) in
    let pages : pages_of v.post ≡ length s.pages =
    ap pages_of new.at_post ∙ (ap length his.opening.marks ∙ length-map s.pages (λ (p : Page). p.split)) in
    record {
      settled = new.pending;
      at = record {
        one = (let most = own.0 in omega (arith, ended, left_is, most));
        taken = rw new.taken refl;
        left = λ some. (
            let first = own.1 (omega (arith, ended, left_is, some)) in
            let at : get_or v.left 0 0 ≡ get_or (dealt s.workers worker sizes) 0 0 = ap (λ xs. get_or xs 0 0) new.left in
            let all : get_or v.left 0 0 ≡ length plan = at ∙ (first ∙ size) in
            omega (arith, all));
        few = rw is lists.few;
        there = λ k d below. subst (λ many. IsThere many (get_or plan k d).page) (sym pages)
            (subst (All (λ (r : Request). IsThere (length s.pages) r.page)) (sym is) lists.there k d below);
      };
    }

-- the lengths of the requests of plans, in one step
pub sizes_twice : (plans : List (Vec Request Global))
    → map (λ (plan : Vec Request Global). length plan.items) plans ≡ map length (lists_of plans)
sizes_twice [] = refl
sizes_twice (plan ∷ plans) = ap (λ ys. length plan.items ∷ ys) (sizes_twice plans)

-- a plan of which all lengths are small
pub small_at : (plans : List (Vec Request Global)) (k : ℕ) (d : Vec Request Global)
    → All (λ size. size ≤ max_requests) (map length (lists_of plans))
    → k < length plans
    → length (get_or plans k d).items ≤ max_requests
small_at [] k d all below = absurd (omega arith)
small_at (plan ∷ plans) zero d all below = all 0 0 (omega arith)
small_at (plan ∷ plans) (suc k) d all below =
    small_at plans k d (λ j e within. all (suc j) e (omega arith)) (omega arith)

-- each page's count is small
pub counts_small : (pages : List Page)
    → ArePages pages
    → (k d : ℕ)
    → k < length (counts_of pages)
    → get_or (counts_of pages) k d ≤ 10 ^ 18
counts_small pages are k d below =
    let nobody : Page = record { name = []; count = 0; split = false } in
    let within : k < length pages = omega (arith, length-map pages (λ (p : Page). p.count)) in
    let at = get_or-map (λ (p : Page). p.count) pages k nobody d within in
    let small = are.entries.counted k nobody within in
    omega arith
