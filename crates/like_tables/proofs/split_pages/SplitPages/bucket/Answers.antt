use Rattle.like_tables.proofs.Tagged.{AreSplitPages-table_by}
use Rattle.like_tables.proofs.split_pages.SplitPages.bucket.Goals as goal

pub returns-clause-table : goal.returns-clause-table
returns-clause-table c = rw (← c.self.view_is) (AreSplitPages-table_by _ _ _ c.self.invariant)
