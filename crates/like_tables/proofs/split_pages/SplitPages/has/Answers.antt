use Rattle.like_tables.proofs.Tagged.{is_split-table_by}
use Rattle.like_tables.proofs.split_pages.SplitPages.has.Goals as goal

pub returns : goal.returns
returns c =
    let i = c.self.inside in
    rw (c.bucket-bucket.ensures.bucket, ← c.self.view_is) (is_split-table_by i.factor i.tags c.args.page c.self.invariant.all)
