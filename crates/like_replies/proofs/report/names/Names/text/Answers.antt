use Rattle.like_replies.proofs.rows.Named.{text-at}
use Rattle.like_replies.proofs.report.names.Names.text.Goals as goal

pub returns : goal.returns
returns c =
    let texts = rw c.self.view_is at c.self.invariant in
    rw c.deref.ensures.value
    (text-at c.self.inside.texts.items c.args.self.now c.args.page c.index.result.now c.requires texts
    c.index.ensures)
