use Rattle.std.proofs.Common.{[], ◌∷◌}
use Rattle.like_shared.specs.declared.desk.DeskDeed.TheVariants.{Parked}
use Rattle.like_shared.proofs.hub.Hub.park_there.Given as goal

abbrev pub ghosts-leave_after_parking : goal.ghosts-leave_after_parking
ghosts-leave_after_parking a = record { done = Parked a.client ∷ [] }
