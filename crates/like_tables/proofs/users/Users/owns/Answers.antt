use Rattle.like_tables.proofs.Ranks.{IsUserTable-table_of}
use Rattle.like_tables.proofs.users.Users.owns.Goals as goal

pub returns-clause-table : goal.returns-clause-table
returns-clause-table c = rw (← c.self.view_is) (IsUserTable-table_of _ _ c.self.invariant)
