use Rattle.std.proofs.Common.{[], ◌∷◌}
use Rattle.told_lock.proofs.lock.Lock.give_back.Given as goal

abbrev pub ghosts-give_back_as : goal.ghosts-give_back_as
ghosts-give_back_as g a = record { done = a._deed.now ∷ [] }
