use Rattle.std.proofs.Common.{◌≡◌, ◌<◌, ◌++◌, ℕ, All, List, Option, length}
use Rattle.std.specs.Option.{ForSome}
use Rattle.std.specs.Slice.Iter.{chunks_rest}
use Rattle.like_requests.specs.Pages.{Page}
use Rattle.like_replies.specs.Rows.{liker_rows}
use Rattle.like_replies.specs.Sections.{AreSections}
use Rattle.like_replies.proofs.report.sections.push_users.Given as goal

abbrev pub invariant-loop-part : goal.invariant-loop-part
invariant-loop-part l =
    (goal.iterator-loop-part).can_next l.part-iterator × (goal.iterator-loop-part).is_finite l.part-iterator
    × (done : List (Option ℕ)) × (l.users ≡ done ++ chunks_rest l.part-iterator) × (l.before ≡ length done)
    × ((pages : List Page) (rows : List (List (List ℕ))) → AreSections pages rows l.initial.all.items
    → All (λ last. ForSome last (λ page. page < length pages)) l.users
    → AreSections pages (rows ++ liker_rows pages 0 done) l.all.items)
