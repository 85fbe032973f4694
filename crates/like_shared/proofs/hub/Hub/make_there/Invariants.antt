use Rattle.std.proofs.Common.{[], ◌∷◌}
use Rattle.like_shared.specs.declared.desk.DeskDeed.TheVariants.{Made}
use Rattle.like_shared.proofs.hub.Hub.make_there.Given as goal

abbrev pub ghosts-note_made : goal.ghosts-note_made
ghosts-note_made a = record { done = Made ∷ [] }
