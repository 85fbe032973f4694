use Rattle.std.proofs.Common.{◌≡◌, refl, add-one, Some, option_map, slice_get}
use Rattle.std.proofs.lemmas.List.{map-append}
use Rattle.like_requests.proofs.Fronts.{map-more}
use Rattle.like_replies.proofs.rows.Named.{bytes_in, text-named, text_of_name}
use Rattle.like_replies.proofs.report.names.Names.new.Goals as goal

pub loop-page-preserved : goal.loop-page-preserved
loop-page-preserved c =
    let page = c.loop-page.page in
    let text = c.in_ok-text_of.field-0 in
    let named : option_map text_of_name (slice_get c.args.pages.now page) ≡ Some text.items =
    rw (c.in_ok-text_of.ensures, c.as_bytes.ensures.value)
    (text-named c.args.pages.now page c.name.result.now c.name.ensures) in
    let more = map-more text_of_name c.args.pages.now page text.items named in
    rw (c.in_ok-push.ensures.items, map-append bytes_in, add-one, more, c.loop-page.invariant) refl
