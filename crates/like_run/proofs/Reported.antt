-- The report of a run or a replay whose site is known.
use Rattle.std.proofs.Common.{◌≡◌, Bool, List, subst}
use Rattle.like_requests.specs.declared.request.Request.{Request}
use Rattle.like_requests.specs.declared.setup.Setup.{Setup}
use Rattle.like_promises.specs.declared.report.Report.{Report}
use Rattle.like_promises.specs.Report.{IsReportOf}

-- the report of the lists that were kept, at a site whose workers note as they were asked
pub is-report : (setup : Setup) (kept plans : List (List Request)) (noting notes : Bool) (r : Report)
    → kept ≡ plans
    → noting ≡ notes
    → IsReportOf setup kept noting r
    → IsReportOf setup plans notes r
is-report setup kept plans noting notes r same asked is =
    subst (λ lists. IsReportOf setup lists notes r) same (subst (λ note. IsReportOf setup kept note r) asked is)
