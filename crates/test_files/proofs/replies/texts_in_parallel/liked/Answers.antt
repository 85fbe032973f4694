use Rattle.std.proofs.Common.{◌≡◌, [], ◌∷◌, List, Vec, Global, map, replicate, sym, subst}
use Rattle.std.specs.List.{All}
use Rattle.std.specs.Result.{IfOk}
use Rattle.std.proofs.lemmas.List.Elements.{All-cons, All-nil, All-replicate}
use Rattle.like_promises.specs.declared.answer.Answer.{Answer}
use Rattle.like_replies.specs.Rows.{IsShowable}
use Rattle.test_files.proofs.replies.texts_in_parallel.liked.Goals as goal

abbrev items_of : Vec Answer Global → List Answer
items_of row = row.items

pub returns : goal.returns
returns g c pages =
    let Shown : Answer → Type 0 = λ a. IsShowable pages a.reply in
    let shown : Shown c.answer.result = rw c.answer.ensures tt in
    let many = replicate c.args.count c.answer.result in
    let answers : c.expect-answers.result.items ≡ many =
    subst (λ r. IfOk r (λ v. ((y : Answer) → y ≡ c.answer.result → y ≡ c.answer.result) → v.items ≡ many))
    c.expect-answers.ensures c.vec.ensures.items_if_clones_equal (λ y same. same) in
    let rows : c.list_of-rows.result.items ≡ c.expect-answers.result ∷ [] = c.list_of-rows.ensures in
    subst (λ (rs : List (Vec Answer Global)). All (All Shown) (map items_of rs)) (sym rows)
    (All-cons (All Shown) c.expect-answers.result.items []
    (subst (All Shown) (sym answers) (All-replicate Shown c.args.count c.answer.result shown)) (All-nil (All Shown)))
