use Rattle.std.proofs.Common.{sym, subst, ◌∙◌, ◌+◌}
use Rattle.std.proofs.lemmas.Bool.{not-false, not-true}
use Rattle.like_core.specs.declared.opening.Opening.{Opening}
use Rattle.like_seat.specs.Kept.{IsOfRun}
use Rattle.like_seat.proofs.Entering.{opening-ran, ran-looked, stays}
use Rattle.like_seat.proofs.Looking.{looks-entered, looks-stayed, may-enter, waiting-stays}
use Rattle.like_seat.proofs.tables.Tables.look.Goals as goal

pub enter-requires-clause-may : goal.enter-requires-clause-may
enter-requires-clause-may g c =
    let told = c.look-sight.ensures in
    may-enter _ _ (g.P.Post.view c.args.post.now) _ c.args.self.now c.look-sight.result c.requires.kept told.board
    told.sight told.ending told.view c.in-Answered.phase (c.requires.kept.state ∙ c.in-Answered.is)
    (not-true c.look-sight.result.waits c.if-not-sight.true)

pub enter-requires-clause-run : goal.enter-requires-clause-run
enter-requires-clause-run g c =
    let p = g.P.Post.view c.args.post.now in
    let looked = g.P.Post.view c.look-sight.new.self in
    let k = c.in-Answered.phase in
    subst (λ (z : Opening). IsOfRun z c.args.self.now.marks.items)
    (sym (opening-ran p looked (k + 1) (ran-looked p looked c.look-sight.result k _ c.look-sight.ensures.view
    (c.requires.kept.state ∙ c.in-Answered.is) (not-true c.look-sight.result.waits c.if-not-sight.true))))
    (c.requires.kept.run c.requires.plain)

pub returns-then-not-sight : goal.returns-then-not-sight
returns-then-not-sight g c =
    let told = c.look-sight.ensures in
    let after = looks-entered _ _ (g.P.Post.view c.args.post.now) (g.P.Post.view c.look-sight.new.self) c.args.self.now
    c.look-sight.result c.requires.kept told.board told.sight told.ending told.view c.in-Answered.phase
    (c.requires.kept.state ∙ c.in-Answered.is) (not-true c.look-sight.result.waits c.if-not-sight.true) _
    (g.P.Post.view c.enter.new.post) c.enter.new.self told.within c.enter.ensures.board c.enter.ensures.enters in
    record { kept = after.0; looks = after.1 }

pub returns-else-not-sight : goal.returns-else-not-sight
returns-else-not-sight g c =
    let p = g.P.Post.view c.args.post.now in
    let told = c.look-sight.ensures in
    let after = looks-stayed _ _ p (g.P.Post.view c.look-sight.new.self) c.args.self.now c.look-sight.result
    c.requires.kept told.board told.sight told.ending told.view
    (waiting-stays p.state c.look-sight.result (not-false c.look-sight.result.waits c.if-not-sight.false)) in
    record { kept = after.0; looks = after.1 }

pub returns-in_default : goal.returns-in_default
returns-in_default g c =
    let p = g.P.Post.view c.args.post.now in
    let told = c.look-sight.ensures in
    let after = looks-stayed _ _ p (g.P.Post.view c.look-sight.new.self) c.args.self.now c.look-sight.result
    c.requires.kept told.board told.sight told.ending told.view
    (stays p.state c.look-sight.result (λ k is. c.in_default.not-Answered k (sym c.requires.kept.state ∙ is))) in
    record { kept = after.0; looks = after.1 }
