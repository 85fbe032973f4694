use Rattle.like_tables.proofs.Tagged.{table_by-none, untaken-empty}
use Rattle.like_tables.proofs.split_pages.SplitPages.new.Goals as goal

pub returns : goal.returns
returns c =
    let tags = c.empty_tags in
    table_by-none c.args.factor tags.result tags.ensures.all
    (λ b less. untaken-empty c.args.factor tags.result b c.requires c.ranges.factor.fits (tags.ensures.each b less))
