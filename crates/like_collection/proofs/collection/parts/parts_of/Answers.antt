use Rattle.std.proofs.Common.{◌≡◌, ◌<◌, ◌∙◌, Ok, ap, arith, get_or, length, map, sym, rules}
use Rattle.std.proofs.lemmas.List.{get_or-map, length-map, take_at}
use Rattle.std.proofs.lemmas.Option.{get_or_from_slice_get, slice_get_within}
use Rattle.std.proofs.lemmas.Result.{IfOk-at_ok, IfOk-weaker}
use Rattle.like_collection.proofs.collection.parts.parts_of.Goals as goal

pub returns : goal.returns
returns g c =
    let logs = c.args.logs.now in
    let answers = c.for_each_mut.new.s in
    let count : length answers ≡ length logs =
    omega (arith, c.for_each_mut.auto.s, c.deref_mut.ensures.len, c.uncollected.ensures) in
    IfOk-weaker c.all_of.result _ _
    (λ parts all.
    let whole : answers ≡ map Ok parts.items = sym (take_at answers _ _ (search rules)) ∙ all in
    let size : length parts.items ≡ length logs = sym (length-map parts.items Ok) ∙ sym (ap length whole) ∙ count in
    record {
      all = size;
      each = λ worker log part at there.
          let within : worker < length parts.items = slice_get_within parts.items worker part there in
          let given = (c.for_each_mut.ensures worker (Ok part) (omega (arith, within, size, count))).1 in
          let is : get_or answers worker (Ok part) ≡ Ok part =
          ap (λ rs. get_or rs worker (Ok part)) whole ∙ get_or-map Ok parts.items worker part (Ok part) within
          ∙ ap Ok (get_or_from_slice_get parts.items worker part part there) in
          IfOk-at_ok _ (given.left ∙ is) given.call log at;
    })
    c.all_of.ensures.parts
