use Rattle.like_requests.proofs.Planned.{worker-within}
use Rattle.like_promises.specs.Workload.{lists_of}
use Rattle.test_parts.proofs.roles.play_at_board.Goals as goal

pub sizes_of-requires : goal.sizes_of-requires
sizes_of-requires g c = (worker-within c.args.setup.now (lists_of c.args.plans.now) c.requires.within).small
