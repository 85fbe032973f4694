use Rattle.std.proofs.Common.{List, Vec, Global}
use Rattle.like_requests.specs.RequestsFile.{IsRequestsFault, IsRequestsFile}
use Rattle.like_records.specs.Rows.{Record}
use Rattle.like_requests.specs.declared.request.Request.{Request}
use Rattle.like_files.proofs.Planned.{of_records}
use Rattle.like_files.proofs.plans.fn.read_plans_in_parallel.read.Goals as goal

pub returns : goal.returns
returns g c = record {
  plan = of_records (g.R.Read.remaining c.args.reader)
      (λ (rows : List Record) (plan : Vec Request Global). IsRequestsFile c.captures.pages.now rows plan.items)
      IsRequestsFault
      c.read_requests.result c.read_requests.ensures.file;
  read = c.read_requests.ensures.read;
}
