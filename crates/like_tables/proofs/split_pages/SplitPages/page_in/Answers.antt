use Rattle.std.proofs.Common.{sym, ◌∙◌, arith}
use Rattle.std.proofs.lemmas.Bool.{eq-eqb, ne_eqb}
use Rattle.like_tables.proofs.Tagged.{page_at-empty, page_at-taken, page_in-table_by}
use Rattle.like_tables.proofs.split_pages.SplitPages.page_in.Goals as goal

pub returns-then-bucket-place : goal.returns-then-bucket-place
returns-then-bucket-place c =
    let i = c.self.inside in
    let b = c.args.place in
    rw (← c.self.view_is) (sym (page_in-table_by i.factor i.tags b (omega (arith, c.self.invariant.all))
    ∙ page_at-taken i.factor i.tags b (eq-eqb _ b (sym c.bucket.ensures ∙ c.if-bucket-place.true))))

pub returns-else-bucket-place : goal.returns-else-bucket-place
returns-else-bucket-place c =
    let i = c.self.inside in
    let b = c.args.place in
    rw (← c.self.view_is) (sym (page_in-table_by i.factor i.tags b (omega (arith, c.self.invariant.all))
    ∙ page_at-empty i.factor i.tags b (ne_eqb _ b (λ e. c.if-bucket-place.false (c.bucket.ensures ∙ e)))))
