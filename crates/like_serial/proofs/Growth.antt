-- The count of a page before a phase, how much it grew, and the likes by which it did.
use Rattle.std.proofs.Common.{◌≡◌, ℕ, suc, ◌+◌, ◌-◌, ◌==◌, nat_lt, List, filter, ap, sym, ◌∙◌, arith}
use Rattle.like_promises.specs.declared.log.Ran.{Ran}
use Rattle.like_promises.specs.Likes.{initial_count, likes_within}
use Rattle.like_promises.specs.Report.{grew}
use Rattle.like_promises.specs.RunStore.{Between, count_at}
use Rattle.like_promises.specs.Workload.{Workload}
use Rattle.like_serial.specs.Laws.{GrowthIsLikes}
use Rattle.like_serial.proofs.Counts.{likes-weigh, likes_by}
use Rattle.like_serial.proofs.OneThread.{count_is}
use Rattle.like_serial.proofs.Totals.{weigh-suc}
use Rattle.like_serial.proofs.Weigh.{only, weigh, weigh-filter}

-- a page's count before a phase is the initial one and the likes of earlier phases
pub count_at_is : (workload : Workload) (entries : List Ran) (page phase : ℕ)
    → count_at workload entries page phase
    ≡ initial_count workload.pages page
    + weigh (λ e. only (nat_lt e.phase phase) (likes_by workload page e)) entries
count_at_is workload entries page phase =
    let early : List Ran = filter (λ (e : Ran). nat_lt e.phase phase) entries in
    count_is workload early page
    ∙ ap (λ n. initial_count workload.pages page + n)
    (likes-weigh workload page early
    ∙ weigh-filter (λ (e : Ran). nat_lt e.phase phase) (likes_by workload page) entries)

-- the likes of a page in a phase
pub within-weigh : (workload : Workload) (page : ℕ) (entries : List Ran) (phase : ℕ)
    → likes_within workload page entries phase
    ≡ weigh (λ e. only (e.phase == phase) (likes_by workload page e)) entries
within-weigh workload page entries phase =
    likes-weigh workload page (filter (λ (e : Ran). e.phase == phase) entries)
    ∙ weigh-filter (λ (e : Ran). e.phase == phase) (likes_by workload page) entries

-- before the next phase, a page's count has these too
next_count : (workload : Workload) (entries : List Ran) (page phase : ℕ)
    → count_at workload entries page (suc phase)
    ≡ count_at workload entries page phase + likes_within workload page entries phase
next_count workload entries page phase =
    let before = count_at_is workload entries page phase in
    let after = count_at_is workload entries page (suc phase) in
    let more = weigh-suc (λ (e : Ran). e.phase) (likes_by workload page) phase entries in
    let within = within-weigh workload page entries phase in
    omega arith

pub growth_is_likes : GrowthIsLikes
growth_is_likes workload entries phase page =
    let count : ℕ → ℕ = count_at workload entries page in
    let zeroth : count 1 ≡ count 0 + likes_within workload page entries 0 = next_count workload entries page 0 in
    let first = next_count workload entries page phase in
    let second = next_count workload entries page (suc phase) in
    let now : count (phase + 2) ≡ count (suc (suc phase)) = ap count (omega arith) in
    let early : count (phase + 2 - 2) ≡ count phase = ap count (omega arith) in
    let late : likes_within workload page entries (phase + 1) ≡ likes_within workload page entries (suc phase) =
    ap (likes_within workload page entries) (omega arith) in
    (omega arith, omega arith)

-- entries in whatever order: they count the same
module _ (workload : Workload) (entries others : List Ran) (same : (f : Ran → ℕ) → weigh f entries ≡ weigh f others)
  where
    pub count_same : (page phase : ℕ) → count_at workload entries page phase ≡ count_at workload others page phase
    count_same page phase =
        count_at_is workload entries page phase
        ∙ ap (λ n. initial_count workload.pages page + n)
        (same (λ e. only (nat_lt e.phase phase) (likes_by workload page e)))
        ∙ sym (count_at_is workload others page phase)

    pub grew_same : grew workload entries ≡ grew workload others
    grew_same = λ i phase page. count_same page phase i - count_same page (phase - 2) i

    pub between_same : (phase page count before after : ℕ)
        → Between workload entries phase page count before after
        → Between workload others phase page count before after
    between_same phase page count before after b =
        let first = count_same page phase in
        let next = count_same page (phase + 1) in
        let low = b.lower in
        let high = b.upper in
        record { lower = omega (arith, first, low); upper = omega (arith, next, high) }
