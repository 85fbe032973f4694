use Rattle.std.proofs.Common.{◌≡◌, ◌++◌, ◌∷◌, [], Bool, length, ap, refl, sym, ◌∙◌, rules}
use Rattle.like_core.specs.declared.view.Addition.{Addition}
use Rattle.like_promises.specs.declared.log.Added.{Added}
use Rattle.like_roles.specs.worker.Serve.{noted_if}
use Rattle.like_roles.proofs.worker.ledger.Ledger.note_addition.Goals as goal

pub push_reserved-requires : goal.push_reserved-requires
push_reserved-requires c = c.requires.room c.if-self.true

pub returns-then-self : goal.returns-then-self
returns-then-self c =
    let had = c.args.self.now.adds.items in
    let ran = c.args.self.now.ran.items in
    let at : c.len.result ≡ length ran = search rules in
    let one : Addition =
    record { phase = c.args.phase; page = c.args.page; old = c.args.old; likes = c.args.n } in
    let note : Added =
    record { page = c.args.page; phase = c.args.phase; at = c.len.result; old = c.args.old; n = c.args.n } in
    let push = c.push_reserved.ensures in
    record {
      noted = push.items
          ∙ (λ i. had ++ record note { at = at i } ∷ [])
          ∙ ap (λ (notes : Bool). had ++ noted_if notes (length ran) (one ∷ [])) (sym c.if-self.true);
      len = λ _. push.len;
      capacity = push.capacity;
      rest = refl;
    }
