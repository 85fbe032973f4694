-- How far a server is, in the words of the model of `like_ending`.
use Rattle.std.specs.Prelude.{ℕ, ◌-◌, List, length, sum_by}
use Rattle.like_requests.specs.Types.{Request}
use Rattle.like_ending.specs.Progress.{WorkerProgress}
use Rattle.like_queue.specs.Inbox.{InboxView, item_count}
use Rattle.like_crew.specs.Server.{ServerView}

-- how many items of an inbox are left: the requests that were not taken, and the end mark until it was
abbrev pub items_left : InboxView → ℕ
items_left i = item_count i.plan - i.taken

-- how far a server's worker is
abbrev pub progress_of : ServerView → WorkerProgress
progress_of s = record {
  state = s.worker.post.state;
  items = sum_by items_left s.inboxes;
  looks = length s.worker.stash.looks;
}

-- how many items plans have: the requests, and an end mark each
abbrev pub items_of : List (List Request) → ℕ
items_of plans = sum_by item_count plans
