use Rattle.std.proofs.Common.{[], ◌∷◌, get_or, map, take, ap, ◌∙◌}
use Rattle.std.proofs.lemmas.List.{map-append, take_all, take_more}
use Rattle.like_promises.specs.declared.place.Place.{Place}
use Rattle.like_replies.specs.PlaceRows.{place_row}
use Rattle.like_replies.proofs.rows.Texts.{AddsRow}
use Rattle.like_replies.proofs.report.section.add_places.Goals as goal

-- what stands past the end of the places
abbrev past : Place
past = record { worker = 0; phase = 0; old = 0; n = 0 }

pub loop-place-preserved : goal.loop-place-preserved
loop-place-preserved c =
    let pages = c.args.names.now in
    let i = c.loop-place.place-index in
    let done = take i c.args.places.now in
    let next = get_or c.args.places.now i past in
    let more = ap (map (place_row pages c.args.page)) (take_more c.args.places.now i past c.loop-place-test.true)
    ∙ map-append (place_row pages c.args.page) done (next ∷ []) in
    rw more
    (AddsRow _ _ _ (map (place_row pages c.args.page) done)
    (place_row pages c.args.page next) c.loop-place.invariant c.in_ok-add_place.ensures)

pub returns : goal.returns
returns c = rw (← take_all c.loop-place.place-index c.args.places.now c.loop-place-test.false) c.loop-place.invariant
