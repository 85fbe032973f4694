-- What a judged request asks.
use Rattle.std.specs.Prelude.{◌≡◌}
use Rattle.like_tables.specs.{Share.Share, declared.held.Held.Held}
use Rattle.like_promises.specs.Store.{like, look, refuse}
use Rattle.like_roles.specs.declared.worker.judged.Judged.{Judged, Judged as judged}
use Rattle.like_roles.specs.worker.WorkerView.{asked_in}

-- it is judged as what the request asks
abbrev pub IsJudged : Share → Held → Judged → Type 0
IsJudged s h (judged.Like user page) = asked_in s h.submitter h.ask.request ≡ like user page
IsJudged s h (judged.Look user page) = asked_in s h.submitter h.ask.request ≡ look user page
IsJudged s h (judged.Refused verdict) = asked_in s h.submitter h.ask.request ≡ refuse verdict
