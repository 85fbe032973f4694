-- What a look sees in a phase word.
use Rattle.std.specs.Prelude.{ℕ, ◌/◌, ◌%◌, ◌==◌}
use Rattle.like_core.specs.{Types.CoordSight, Types.Sight, word.Forms.WordForm}

-- what a worker sees in a word of this form. It waits if the word's phase is split and it has answered an odd one last,
-- or neither: so the word's lowest two bits tell it
abbrev pub sight_in : WordForm → ℕ → ℕ → Sight
sight_in f turn word = record {
  number = f.phase_in word;
  ending = word % 2 == 1;
  waits = word / 2 % 2 == turn;
}

-- what the coordinator of this many workers sees there
abbrev pub coord_sight_in : WordForm → ℕ → ℕ → CoordSight
coord_sight_in f workers word = record {
  number = f.phase_in word;
  ending = word % 2 == 1;
  all_in = f.all_in workers word;
  all_gone = f.all_gone workers word;
}
