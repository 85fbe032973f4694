use Rattle.std.proofs.Common.{◌≡◌, ◌<◌, ◌≤◌, ◌+◌, ◌++◌, ◌∷◌, [], ◌∙◌, ap, sym, length, get_or, take, List, Vec, Global, arith}
use Rattle.std.proofs.lemmas.List.{length-map, length-take-le, map-append, take_all, take_more}
use Rattle.like_promises.specs.declared.place.Place.{Place}
use Rattle.like_promises.specs.places.Places.{lists_in}
use Rattle.like_replies.specs.PlaceRows.{place_rows}
use Rattle.like_replies.proofs.rows.Texts.{place_rows-push}
use Rattle.like_replies.proofs.report.sections.place_sections.Goals as goal

-- the places in a page's vector
abbrev places_in_row : Vec Place Global → List Place
places_in_row row = row.items

pub loop-page-preserved : goal.loop-page-preserved
loop-page-preserved c = λ named same.
    let n = c.loop-page.page in
    let row = c.index-places-page.result in
    let rows = c.args.places.now in
    let there : n < length rows = omega arith in
    let is : row ≡ get_or rows n row = c.index-places-page.is in
    let done : List (List Place) = lists_in (take n rows) in
    let size : length done ≡ n = simp length-map (length-take-le n rows (omega arith)) in
    let more : lists_in (take (n + 1) rows) ≡ done ++ places_in_row row ∷ [] =
    ap lists_in (take_more rows n row there ∙ ap (λ x. take n rows ++ x ∷ []) (sym is))
    ∙ map-append places_in_row (take n rows) (row ∷ []) in
    rw (more, place_rows-push named done (places_in_row row), size)
    (rw c.deref.ensures.value at
    (c.in_ok-push_places.ensures named (place_rows named done) (c.loop-page.invariant named same)
    (omega (arith, same))))

pub returns : goal.returns
returns c = λ named same.
    let past : length c.args.places.now ≤ c.loop-page.page = omega arith in
    rw (← take_all c.loop-page.page c.args.places.now past) (c.loop-page.invariant named same)
