use Rattle.std.proofs.Common.{◌≡◌, ◌+◌, ◌<◌, ◌++◌, ◌^◌, ◌∙◌, ℕ, List, Option, length, sym, ap, append_assoc, length-append, arith}
use Rattle.std.specs.Option.{ForSome}
use Rattle.std.specs.Slice.Iter.{chunks_rest}
use Rattle.like_replies.specs.declared.report.section.Section.{Section}
use Rattle.like_replies.specs.declared.report.section.Section.TheVariants.{Users}
use Rattle.like_replies.specs.Rows.{liker_rows}
use Rattle.like_replies.specs.Sections.{HasRows}
use Rattle.like_replies.proofs.Sections.{All-part, AreSections-push}
use Rattle.like_replies.proofs.rows.Texts.{liker_rows-append}
use Rattle.like_replies.proofs.report.sections.push_users.Goals as goal

-- the length of a list of three parts
parts-long : (all done part rest : List (Option ℕ)) → all ≡ done ++ (part ++ rest)
    → length all ≡ length done + (length part + length rest)
parts-long all done part rest whole =
    ap length whole ∙ length-append done (part ++ rest) ∙ ap (λ n. length done + n) (length-append part rest)

pub overflow_add-before : goal.overflow_add-before
overflow_add-before c =
    let done : List (Option ℕ) = c.loop-part.invariant.2 in
    let part : List (Option ℕ) = c.in-Some.part.now in
    let rest : List (Option ℕ) = chunks_rest c.next.new.self in
    let whole : c.args.users.now ≡ done ++ (part ++ rest) =
    c.loop-part.invariant.3 ∙ ap (λ r. done ++ r) c.in-Some.ensures.steps.1.0 in
    omega (arith, parts-long c.args.users.now done part rest whole, c.loop-part.invariant.4)

pub loop-part-preserved : goal.loop-part-preserved
loop-part-preserved c =
    let step = c.in-Some.ensures.steps in
    let done : List (Option ℕ) = c.loop-part.invariant.2 in
    let part : List (Option ℕ) = c.in-Some.part.now in
    let rest : List (Option ℕ) = chunks_rest c.next.new.self in
    let before = c.loop-part.before in
    let whole : c.args.users.now ≡ done ++ (part ++ rest) = c.loop-part.invariant.3 ∙ ap (λ r. done ++ r) step.1.0 in
    let lengths : length c.args.users.now ≡ length done + (length part + length rest) =
    parts-long c.args.users.now done part rest whole in
    let room : before + length part < 2 ^ 64 = omega (arith, lengths, c.loop-part.invariant.4) in
    let number : 0 + length done ≡ before = omega (arith, c.loop-part.invariant.4) in
    let section : Section = Users before c.in-Some.part in (
      rw step.0 c.loop-part.invariant.0,
      tt,
      done ++ part,
      whole ∙ sym (append_assoc done part rest),
      omega (arith, length-append done part, c.loop-part.invariant.4),
      λ pages rows are there.
          let has : HasRows pages section = (
            room,
            All-part (λ last. ForSome last (λ page. page < length pages)) done part rest
                (rw (← whole) there),
          ) in
          let more : rows ++ liker_rows pages 0 (done ++ part)
          ≡ (rows ++ liker_rows pages 0 done) ++ liker_rows pages before part =
          ap (λ r. rows ++ r)
          (liker_rows-append pages 0 done part ∙ ap (λ n. liker_rows pages 0 done ++ liker_rows pages n part) number)
          ∙ sym (append_assoc rows (liker_rows pages 0 done) (liker_rows pages before part)) in
          rw (c.in_ok-push.ensures.items, more)
          (AreSections-push pages (rows ++ liker_rows pages 0 done) c.loop-part.all.items section
          (c.loop-part.invariant.5 pages rows are there) has),
    )
