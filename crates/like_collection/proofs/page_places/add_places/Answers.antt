use Rattle.std.proofs.Common.{◌≡◌, ◌+◌, ◌<◌, [], ◌++◌, ◌∷◌, List, length, get_or, take, refl, ap, sym, ◌∙◌, append-nil, append_assoc, arith}
use Rattle.std.proofs.lemmas.List.{length-map, length-set, take_all, take_more}
use Rattle.like_promises.specs.declared.log.Added.{Added}
use Rattle.like_promises.specs.declared.place.Place.{Place}
use Rattle.like_promises.specs.places.Places.{lists_in, places_of}
use Rattle.like_collection.proofs.PlaceLists.{place_if, place_made, places_of-push, put-place}
use Rattle.like_collection.proofs.page_places.add_places.Goals as goal

-- an addition where there is none
abbrev none : Added
none = record { page = 0; phase = 0; at = 0; old = 0; n = 0 }

pub loop-added-init : goal.loop-added-init
loop-added-init c = record {
  sized = refl;
  each = λ page below. sym (append-nil (get_or (lists_in c.args.rows.now.items) page []));
}

pub put-requires : goal.put-requires
put-requires c =
    let l = c.loop-added in
    omega (
      arith,
      c.requires l.added-index none c.loop-added-test.true,
      l.invariant.sized,
      length-map l.rows.items (λ row. row.items),
      length-map c.args.rows.now.items (λ row. row.items),
    )

pub loop-added-preserved : goal.loop-added-preserved
loop-added-preserved c =
    let l = c.loop-added in
    let adds = c.args.adds.now in
    let worker = c.args.worker in
    let a : Added = get_or adds l.added-index none in
    let old : List (List Place) = lists_in l.rows.items in
    let there : a.page < length old =
    omega (
      arith,
      c.requires l.added-index none c.loop-added-test.true,
      l.invariant.sized,
      length-map c.args.rows.now.items (λ row. row.items),
    ) in
    let more : take (l.added-index + 1) adds ≡ take l.added-index adds ++ a ∷ [] =
    take_more adds l.added-index none c.loop-added-test.true in
    record {
      sized = ap length c.in_ok-put.ensures
          ∙ (length-set old a.page (get_or old a.page [] ++ place_made worker a ∷ []) ∙ l.invariant.sized);
      each = λ page below.
          let first : List Place = get_or (lists_in c.args.rows.now.items) page [] in
          ap (λ (ls : List (List Place)). get_or ls page []) c.in_ok-put.ensures
          ∙ (put-place old page worker a there
          ∙ (ap (λ (xs : List Place). xs ++ place_if page worker a) (l.invariant.each page below)
          ∙ (append_assoc first (places_of page worker (take l.added-index adds)) (place_if page worker a)
          ∙ ap (λ (xs : List Place). first ++ xs)
          (sym (ap (places_of page worker) more ∙ places_of-push page worker (take l.added-index adds) a)))));
    }

pub returns-clause-len : goal.returns-clause-len
returns-clause-len c = c.loop-added.invariant.sized

pub returns-clause-each : goal.returns-clause-each
returns-clause-each c = λ page below.
    let first : List Place = get_or (lists_in c.args.rows.now.items) page [] in
    c.loop-added.invariant.each page below
    ∙ ap (λ (xs : List Added). first ++ places_of page c.args.worker xs)
    (take_all c.loop-added.added-index c.args.adds.now c.loop-added-test.false)
