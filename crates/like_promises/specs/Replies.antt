-- Which replies are right.
use Rattle.std.specs.Prelude.{◌≡◌, ℕ, suc, List, take, drop, slice_get, Some, option_map}
use Rattle.like_promises.specs.{Asked.asked, RunStore.Between, RunStore.store_after, Store.reply, Workload.Workload}
use Rattle.like_promises.specs.{Likes.count_in, Likes.likes_within, Likes.look_ran, Types.Ran, Types.Reply, Types.Seen}

-- a reply, its count aside
abbrev pub uncounted : Reply → Reply
uncounted (Seen last count) = Seen last 0
uncounted answer = answer

-- right answer: the entry's reply is that of the store after these entries, the count aside
abbrev pub IsRightAnswer : Workload → List Ran → Ran → Type 0
IsRightAnswer workload before e =
    option_map (λ a. uncounted (reply (store_after workload before) a)) (asked workload e.submitter e.number)
    ≡ Some (uncounted e.reply)

-- each entry of a list has the right answer, after the entries before it
abbrev pub HasRightAnswers : Workload → List Ran → Type 0
HasRightAnswers workload ran =
    (i : ℕ) (e : Ran) → slice_get ran i ≡ Some e → IsRightAnswer workload (take i ran) e

-- right counts: the count in the reply to a look is between the bounds, by the likes before and after it
abbrev pub HasRightCounts : Workload → List Ran → List Ran → Type 0
HasRightCounts workload entries ran =
    (i page : ℕ) (e : Ran) → slice_get ran i ≡ Some e → look_ran workload e ≡ Some page
    → Between workload entries e.phase page (count_in e.reply) (likes_within workload page (take i ran) e.phase)
    (likes_within workload page (drop (suc i) ran) e.phase)
