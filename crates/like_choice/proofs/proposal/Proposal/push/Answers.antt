use Rattle.std.proofs.Common.{◌≡◌, ◌≤◌, [], ◌∷◌, ◌++◌, length, take, sym, ◌∙◌, arith, length-append}
use Rattle.std.proofs.lemmas.List.{length-take-le, take_all, take_at, take_more_set}
use Rattle.like_choice.proofs.proposal.Proposal.push.Goals as goal

pub returns-then-self-lt64 : goal.returns-then-self-lt64
returns-then-self-lt64 c =
    let p = c.self.inside in
    let few : length (take p.many p.pages ++ c.args.page ∷ []) ≤ 64 =
    omega (
      arith,
      length-append (take p.many p.pages) (c.args.page ∷ []),
      length-take-le p.many p.pages (omega arith),
    )
    in
    rw (← c.self.view_is)
    (take_more_set p.pages p.many c.args.page (omega arith)
    ∙ sym (take_all 64 (take p.many p.pages ++ c.args.page ∷ []) few))

pub returns-else-self-lt64 : goal.returns-else-self-lt64
returns-else-self-lt64 c =
    let p = c.self.inside in
    let all : length (take p.many p.pages) ≡ 64 =
    length-take-le p.many p.pages (omega arith) ∙ omega arith in
    rw (← c.self.view_is) (sym (take_at (take p.many p.pages) (c.args.page ∷ []) 64 all))
