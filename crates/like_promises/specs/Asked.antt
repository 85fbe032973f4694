-- What requests ask of a store.
use Rattle.std.specs.Prelude.{ℕ, List, filter_map, Option, option_map}
use Rattle.like_requests.specs.Types.{Accepted, Known, Like, Look, Op, PageRef, Request, Verdict}
use Rattle.like_requests.specs.Verdict.{is_known, verdict_of}
use Rattle.like_promises.specs.Workload.{Workload, request_at, submitters}
use Rattle.like_promises.specs.{Store.Ask, Store.like, Store.look, Store.refuse, Types.Ran}

-- what a request asks: a like or a look of its page, if it is accepted; else it is refused
abbrev pub asked_by : Verdict → Op → ℕ → PageRef → Ask
asked_by Accepted Like user (Known page) = like user page
asked_by Accepted Look user (Known page) = look user page
asked_by verdict op user page = refuse verdict

-- what a submitter asks by this number, if it does
abbrev pub asked : Workload → ℕ → ℕ → Option Ask
asked workload submitter number =
    let verdict = λ (r : Request). verdict_of workload.users (submitters workload) submitter r.user (is_known r.page) in
    option_map (λ r. asked_by (verdict r) r.op r.user r.page) (request_at workload submitter number)

-- what these entries ask, in their order
abbrev pub asks : Workload → List Ran → List Ask
asks workload entries = filter_map (λ e. asked workload e.submitter e.number) entries
