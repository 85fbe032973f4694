use Rattle.std.proofs.Common.{◌≡◌, ◌%◌, ◌∙◌, ap, length, refl}
use Rattle.like_collection.proofs.Parts.{taken-many, taken-others}
use Rattle.like_collection.proofs.collection.parts.take_row.Goals as goal

pub returns-clause-others : goal.returns-clause-others
returns-clause-others c other differs =
    let size : c.len.result ≡ length c.args.parts.now.items = c.len.ensures ∙ c.args.parts.now.ok.0 in
    taken-others c.args.parts.now.items (c.args.submitter % c.len.result) c.args.submitter other c.index_mut.result.now _
    c.replace.new.dest (ap (λ n. c.args.submitter % n) size) c.requires.some
    c.index_mut.ensures.value refl differs

pub returns-clause-sizes : goal.returns-clause-sizes
returns-clause-sizes c =
    taken-many c.args.parts.now.items (c.args.submitter % c.len.result) c.args.submitter c.index_mut.result.now _
    c.replace.new.dest c.index_mut.ensures.value refl
