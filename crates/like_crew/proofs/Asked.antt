-- The requests of a plan.
use Rattle.std.proofs.Common.{List, Vec, Global}
use Rattle.like_requests.specs.declared.request.Request.{Request}

abbrev pub requests_of : Vec Request Global → List Request
requests_of plan = plan.items
