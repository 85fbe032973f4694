use Rattle.like_tables.proofs.Ranks.{IsUserTable-table_of}
use Rattle.like_tables.proofs.users.Users.has_ranks.Goals as goal

pub returns-then-from-ranks-clause-table : goal.returns-then-from-ranks-clause-table
returns-then-from-ranks-clause-table c = rw (← c.self.view_is) (IsUserTable-table_of _ _ c.self.invariant)

pub returns-else-from-ranks-clause-table : goal.returns-else-from-ranks-clause-table
returns-else-from-ranks-clause-table c = rw (← c.self.view_is) (IsUserTable-table_of _ _ c.self.invariant)
