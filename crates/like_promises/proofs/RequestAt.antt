-- The requests of submitters that there are.
use Rattle.std.proofs.Common.{◌≡◌, ℕ, zero, suc, List, [], Option, Some, None, refl, sym, ap, ◌∙◌}
use Rattle.std.specs.List.{slice_get}
use Rattle.std.specs.Option.{option_and_then, unwrap_or}
use Rattle.std.proofs.lemmas.Option.{unwrap_or-slice_get}
use Rattle.like_requests.specs.declared.request.Request.{Request}
use Rattle.like_promises.specs.Workload.{Workload, nth, request_at}

-- the request with a number is that of the submitter's plan, if the submitter is there
pub request_at-plan : (workload : Workload) (submitter number : ℕ)
    → request_at workload submitter number
    ≡ option_and_then (λ plan. nth plan number) (slice_get workload.plans submitter)
request_at-plan workload submitter number =
    ap (λ (plan : List Request). nth plan number) (sym (unwrap_or-slice_get workload.plans submitter []))
    ∙ by_plan (slice_get workload.plans submitter) where
      nothing : (n : ℕ) → nth {X = Request} [] n ≡ None
      nothing zero = refl
      nothing (suc n) = refl

      by_plan : (o : Option (List Request)) → nth (unwrap_or o []) number ≡ option_and_then (λ plan. nth plan number) o
      by_plan None = nothing number
      by_plan (Some plan) = refl
