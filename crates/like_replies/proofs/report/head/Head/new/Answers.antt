use Rattle.std.proofs.Common.{◌≡◌, ◌++◌, length, refl, sym, ◌∙◌, rules}
use Rattle.std.specs.Prelude.{decimal}
use Rattle.std.proofs.lemmas.List.{drop_at}
use Rattle.like_replies.proofs.rows.Plain.{field_text-decimal}
use Rattle.like_replies.proofs.report.head.Head.new.Goals as goal

pub invariant_of-result : goal.invariant_of-result
invariant_of-result c =
    let start = c.args.start.now in
    let text : c.add-2.new.text.items ≡ start ++ decimal c.args.number = search rules in (
      rw text (drop_at start (decimal c.args.number) (length start) refl
          ∙ sym (field_text-decimal c.args.number c.ranges.number.fits)),
      c.requires,
    )
