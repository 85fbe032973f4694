use Rattle.std.proofs.Common.{◌≡◌, ℕ, [], ◌++◌, ◌∷◌, List, replicate, ap, ◌∙◌, arith}
use Rattle.std.proofs.lemmas.List.{map-append, replicate_more}
use Rattle.like_promises.specs.declared.place.Place.{Place}
use Rattle.like_promises.specs.places.Places.{lists_in}
use Rattle.like_collection.proofs.page_places.empty_rows.Goals as goal

pub loop-page-preserved : goal.loop-page-preserved
loop-page-preserved c =
    let l = c.loop-page in
    ap lists_in c.in_ok-push.ensures.items
    ∙ (map-append (λ row. row.items) l.rows.items (c.new.result ∷ [])
    ∙ (ap (λ (xs : List Place). lists_in l.rows.items ++ xs ∷ []) c.new.ensures.items
    ∙ (ap (λ (ls : List (List Place)). ls ++ [] ∷ []) l.invariant ∙ replicate_more l._page [])))

pub returns : goal.returns
returns c =
    let l = c.loop-page in
    let all : l._page ≡ c.args.pages = omega (arith, l.auto._page-end, c.loop-page-test.false) in
    l.invariant ∙ ap (λ (n : ℕ). replicate {A = List Place} n []) all
