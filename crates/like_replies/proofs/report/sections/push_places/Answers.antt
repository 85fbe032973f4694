use Rattle.std.proofs.Common.{◌≡◌, ◌++◌, ◌∙◌, List, sym, ap, append_assoc, map}
use Rattle.std.proofs.lemmas.List.{map-append}
use Rattle.std.specs.Slice.Iter.{chunks_rest}
use Rattle.like_promises.specs.declared.place.Place.{Place}
use Rattle.like_replies.specs.declared.report.section.Section.TheVariants.{Places}
use Rattle.like_replies.specs.PlaceRows.{place_row}
use Rattle.like_replies.proofs.Sections.{AreSections-push}
use Rattle.like_replies.proofs.report.sections.push_places.Goals as goal

pub loop-part-preserved : goal.loop-part-preserved
loop-part-preserved c =
    let step = c.in-Some.ensures.steps in
    let done : List Place = c.loop-part.invariant.2 in
    let part : List Place = c.in-Some.part.now in
    let rest : List Place = chunks_rest c.next.new.self in
    let page = c.args.page in
    let whole : c.args.places.now ≡ done ++ (part ++ rest) = c.loop-part.invariant.3 ∙ ap (λ r. done ++ r) step.1.0 in (
      rw step.0 c.loop-part.invariant.0,
      tt,
      done ++ part,
      whole ∙ sym (append_assoc done part rest),
      λ pages rows are there.
          let more : rows ++ map (place_row pages page) (done ++ part)
          ≡ (rows ++ map (place_row pages page) done) ++ map (place_row pages page) part =
          ap (λ r. rows ++ r) (map-append (place_row pages page) done part)
          ∙ sym (append_assoc rows (map (place_row pages page) done) (map (place_row pages page) part)) in
          rw (c.in_ok-push.ensures.items, more)
          (AreSections-push pages (rows ++ map (place_row pages page) done) c.loop-part.all.items
          (Places page c.in-Some.part) (c.loop-part.invariant.4 pages rows are there) there),
    )
