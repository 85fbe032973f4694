-- The views of all seats of a new board that one thread owns.
use Rattle.std.specs.Prelude.{ℕ, zero, suc, List, [], ◌∷◌, ◌++◌}
use Rattle.like_core.specs.{Post.fresh, Types.Coord, Types.Opening, Types.View, Types.Worker}
use Rattle.like_board.specs.Rule.{opened_coord}

-- the views of this many workers, in order
unfoldable pub new_workers : Opening → ℕ → List View
new_workers z zero = []
new_workers z (suc workers) = new_workers z workers ++ Worker (fresh z workers) ∷ []

-- the coordinator's view, and those of all workers
abbrev pub new_views : Opening → List View
new_views z = Coord (opened_coord z) ∷ new_workers z z.workers
