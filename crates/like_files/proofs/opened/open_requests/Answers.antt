use Rattle.std.proofs.Common.{◌≡◌, ◌∙◌, ◌<◌, Some, None, ap, arith, length, map, not, refl, string_bytes, sym, true}
use Rattle.std.specs.Result.{is_ok}
use Rattle.std.proofs.lemmas.List.{length-map}
use Rattle.like_files.proofs.Named.{Tries-none, name-at, none_opened, opened-more, stops-at}
use Rattle.like_files.proofs.opened.open_requests.Goals as goal

pub loop-place-init : goal.loop-place-init
loop-place-init g c =
    rw c.new-opened.ensures.items (refl, rw (none_opened (map string_bytes c.args.names.now)) (Tries-none _))

pub returns : goal.returns
returns g c =
    let at_end : c.loop-place.place ≡ length c.args.names.now = omega arith in
    (c.loop-place.invariant.0 ∙ at_end ∙ sym (length-map c.args.names.now string_bytes), c.loop-place.invariant.1)

pub returns-in_default : goal.returns-in_default
returns-in_default g c =
    let there : c.loop-place.place < length c.args.names.now = omega arith in (
      c.loop-place.place,
      None,
      c.of_requests.ensures,
      stops-at _ _ _ (map string_bytes c.args.names.now) c.loop-place.opened.items c.loop-place.place _
          (name-at c.args.names.now c.loop-place.place c.index-names-place.result there c.index-names-place.is)
          c.loop-place.invariant.0 c.loop-place.invariant.1 None (rw c.as_str.ensures.value at c.in_default.ensures),
    )

pub returns-then-is_err : goal.returns-then-is_err
returns-then-is_err g c =
    let there : c.loop-place.place < length c.args.names.now = omega arith in (
      c.loop-place.place,
      Some c.in-Some.file,
      c.of_requests-then-is_err.ensures,
      stops-at _ _ _ (map string_bytes c.args.names.now) c.loop-place.opened.items c.loop-place.place _
          (name-at c.args.names.now c.loop-place.place c.index-names-place.result there c.index-names-place.is)
          c.loop-place.invariant.0 c.loop-place.invariant.1 (Some c.in-Some.file)
          (rw c.as_str.ensures.value at c.in-Some.ensures),
    )

pub loop-place-preserved : goal.loop-place-preserved
loop-place-preserved g c =
    let there : c.loop-place.place < length c.args.names.now = omega arith in
    let pushed : is_ok c.push.result ≡ true = c.is_err.ensures.negation ∙ ap not c.if-is_err.false in
    rw (rw pushed at c.push.ensures.items)
    (opened-more _ _ _ (map string_bytes c.args.names.now) c.loop-place.opened.items c.loop-place.place _
    (name-at c.args.names.now c.loop-place.place c.index-names-place.result there c.index-names-place.is)
    c.loop-place.invariant.0 c.loop-place.invariant.1
    c.in-Some.file (rw c.as_str.ensures.value at c.in-Some.ensures))
