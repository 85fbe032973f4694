-- A worker with its post.
use Rattle.std.specs.Prelude.{ℕ, List}
use Rattle.like_roles.specs.worker.WorkerView.{WorkerView}

-- the numbers that tell its board from others, and the worker
pub record PostedWorker : Type 0 where
  pub board : List ℕ
  pub worker : WorkerView
