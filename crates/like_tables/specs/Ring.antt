-- How a stash is kept: in a ring with a place for each that may wait.
use Rattle.circular_buffer.specs.Buffer.{Buffer}
use Rattle.like_tables.specs.StashView.{StashView}

-- what is in a ring, and its places
abbrev pub stash_in : {W : Type 0} → Buffer W → StashView W
stash_in ring = record { looks = ring.items; capacity = ring.capacity }
