use Rattle.std.proofs.Common.{ℕ, ◌+◌, ap, ◌∙◌}
use Rattle.like_core.specs.core.Numbers.{Numbers, with_unmerged, with_more}
use Rattle.like_core.specs.core.Core.{numbers_of}
use Rattle.like_core.proofs.pure_core.Core.merge.Goals as goal

pub returns-clause-old : goal.returns-clause-old
returns-clause-old c =
    c.add_count.ensures.old ∙ ap (λ (n : Numbers). n.count c.args.page) c.take_unmerged-likes.ensures.empty

pub returns-clause-moved : goal.returns-clause-moved
returns-clause-moved c =
    let page = c.args.page in
    let old = numbers_of c.args.self.now in
    let likes = c.take_unmerged-likes.result in
    c.add_count.ensures.added ∙
    (ap (λ (n : Numbers). with_more n page likes) c.take_unmerged-likes.ensures.empty ∙
    ap (λ (l : ℕ). with_more (with_unmerged old c.args.worker page 0) page l)
    c.take_unmerged-likes.ensures.likes)
