use Rattle.std.proofs.Common.{◌≡◌, ◌++◌, ℕ, All, List, length}
use Rattle.std.specs.Slice.Iter.{chunks_rest}
use Rattle.like_requests.specs.Pages.{Page}
use Rattle.like_promises.specs.declared.answer.Answer.{Answer}
use Rattle.like_replies.specs.Rows.{IsShowable, answer_rows}
use Rattle.like_replies.specs.Sections.{AreSections}
use Rattle.like_replies.proofs.report.sections.push_answers.Given as goal

abbrev pub invariant-loop-part : goal.invariant-loop-part
invariant-loop-part l =
    (goal.iterator-loop-part).can_next l.part-iterator × (goal.iterator-loop-part).is_finite l.part-iterator
    × (done : List Answer) × (l.answers ≡ done ++ chunks_rest l.part-iterator) × (l.before ≡ length done)
    × ((pages : List Page) (rows : List (List (List ℕ))) → AreSections pages rows l.initial.all.items
    → All (λ a. IsShowable pages a.reply) l.answers
    → AreSections pages (rows ++ answer_rows pages l.submitter 0 done) l.all.items)
