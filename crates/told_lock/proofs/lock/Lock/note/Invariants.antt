use Rattle.std.proofs.Common.{[], ◌∷◌}
use Rattle.told_lock.proofs.lock.Lock.note.Given as goal

abbrev pub ghosts-note_as : goal.ghosts-note_as
ghosts-note_as g a = record { done = a._deed.now ∷ [] }
