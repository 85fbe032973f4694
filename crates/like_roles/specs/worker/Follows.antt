-- What a worker has done, as the plans of its submitters say it should.
use Rattle.std.specs.Prelude.{◌≡◌, ℕ, ◌+◌, ◌%◌, ◌≤◌, ◌==◌, ◌&&◌, if◌then◌else◌, Bool, true, false, List, [], ◌++◌, length, map, filter, count_by, slice_get, slice_index, All, Some, ⊤, AllPairs, option_to_list}
use Rattle.like_requests.specs.{Pages.marks_of, Setup.IsThere, Types.Setup, Types.Taken, Types.Taken as taken}
use Rattle.like_core.specs.PageSteps.{additions_among, earliest_first, likes_of, stretches_of}
use Rattle.like_core.specs.Types.{Answered, Gone, Opening, PageStep, Runs, WorkerState}
use Rattle.like_core.specs.{Additions.added_in, Additions.added_to, OpeningLimits.run_limits, Phase.IsJoined}
use Rattle.like_core.specs.{PhaseMasks.AreMasksOf, Post.additions_in, Post.additions_of, Post.pages_of}
use Rattle.like_core.specs.{WorkerState.IsRunning, WorkerState.RunsJoined, declared.view.PhaseMask.PhaseMask}
use Rattle.like_tables.specs.{Share.Share, UserTable.UserTable, UserTable.last_of, declared.held.Held.Held}
use Rattle.like_promises.specs.Order.{Entry, entry_of, is_due, order}
use Rattle.like_promises.specs.Workload.{Workload, is_split_in, request_at, submitters}
use Rattle.like_promises.specs.places.Adds.{AddsItsLikes, IsOfLikes, addition_of, is_add_to}
use Rattle.like_promises.specs.{Likes.likes_among, Likes.likes_within, RunStore.store_after, places.Calls.calls_of}
use Rattle.like_promises.specs.{Replies.HasRightAnswers, Types.Added, Types.Ran, Types.Took}
use Rattle.like_serial.specs.StepsTold.{plain_told, steps_ran}
use Rattle.like_roles.specs.worker.WorkerView.{TookAllEnds, WorkerView, phase_at, submitter_at}

-- the workload is the one that is served at a board with this opening, by a worker with this share, with as much room for
-- looks that wait; the masks that its post read are the workload's, and the board has the limits of a run
pub record AreServed (workload : Workload) (z : Opening) (masks : List PhaseMask) (share : Share) (room : ℕ) : Type 0 where
  pub users : workload.users ≡ share.users
  pub submitters_alike : submitters workload ≡ share.submitters
  pub marks_alike : marks_of workload.pages ≡ z.marks
  pub hot_alike : AreMasksOf workload.hot masks
  pub stash_alike : workload.stash ≡ room
  pub run : z.limits ≡ run_limits

abbrev pub IsServed : Workload → WorkerView → Type 0
IsServed workload v = AreServed workload v.post.opening v.post.masks v.last.share v.stash.capacity

-- there is a number for each of so many pages, and a last like for each user
pub record AreSized (pages : ℕ) (numbers : List ℕ) (table : UserTable) : Type 0 where
  pub slice : length numbers ≡ pages
  pub users : length table.last ≡ table.share.users

abbrev pub IsSized : WorkerView → Type 0
IsSized v = AreSized (pages_of v.post) v.slice v.last

-- each step that adds nothing is at a page that is not split in its phase
abbrev pub ArePlainReads : Workload → List PageStep → Type 0
ArePlainReads workload did = All (λ s. likes_of s.call ≡ 0 → is_split_in workload s.phase s.page ≡ false) did

-- what a worker in this phase ran is what its post did: its likes are its additions and its slice, by page and by
-- phase; the post's plain steps are those of its run list, in order, and each step that adds nothing is plain; each reply
-- is right, its count aside; its table has each user's last like
pub record AreTallied (workload : Workload) (present : ℕ) (did : List PageStep) (slice : List ℕ) (ran : List Ran)
    (table : UserTable) : Type 0 where
  pub likes : (page : ℕ)
      → likes_among workload page ran ≡ added_to page (additions_among did) + slice_index slice page
  pub by_phase : (phase page : ℕ) → likes_within workload page ran phase
      ≡ added_in phase page (additions_among did) + (if present == phase then slice_index slice page else 0)
  pub steps : plain_told workload (earliest_first did) ≡ steps_ran workload ran
  pub reads : ArePlainReads workload did
  pub replies : HasRightAnswers workload ran
  pub last : (user : ℕ) → last_of table user ≡ (store_after workload ran).last user

abbrev pub IsTallied : Workload → WorkerView → Type 0
IsTallied workload v = AreTallied workload (phase_at v) v.post.did v.slice v.ran v.last

-- how many additions are to a page in a phase
abbrev pub adds_to : ℕ → ℕ → List Added → ℕ
adds_to phase page adds = count_by (is_add_to phase page) adds

-- how many of them were made when `at` entries had run
abbrev pub adds_at : ℕ → ℕ → ℕ → List Added → ℕ
adds_at phase page at adds = count_by (λ a. is_add_to phase page a && (a.at == at)) adds

-- how many likes of a page in a phase, one or none, the entry at a place of a run list ran
abbrev pub likes_at : Workload → ℕ → ℕ → ℕ → List Ran → ℕ
likes_at workload phase page at ran =
    likes_within workload page (option_to_list (slice_get ran at)) phase

-- the additions of a worker are noted: they are its post's, in order; each is of likes of its run list, to a
-- page that is not split in a phase there is one at each like, and to a page that is at most one; and with the looks they
-- are the calls that its post made, in order
pub record IsNoted (workload : Workload) (did : List PageStep) (adds : List Added) (ran : List Ran) : Type 0 where
  pub additions_are : additions_among did ≡ map addition_of adds
  pub at : All (λ a. a.at ≤ length ran) adds
  pub rising : AllPairs (λ a b. a.at ≤ b.at) adds
  pub each : All (IsOfLikes workload ran) adds
  pub plain : (phase page at : ℕ) → is_split_in workload phase page ≡ false
      → adds_at phase page at adds ≡ likes_at workload phase page at ran
  pub split : (phase page : ℕ) → is_split_in workload phase page ≡ true
      → adds_to phase page adds ≤ 1
  pub calls : calls_of workload adds ran ≡ stretches_of did

-- no addition was made in a later phase than the present one; and while a split phase runs, none was made in it to a
-- page that is split in it
abbrev pub IsUnmerged : Workload → List Added → WorkerState → Type 0
IsUnmerged workload adds (Runs phase) =
    All (λ a. a.phase ≤ phase) adds
    × ((page : ℕ) → is_split_in workload phase page ≡ true → adds_to phase page adds ≡ 0)
IsUnmerged workload adds (Answered phase) = All (λ a. a.phase ≤ phase) adds
IsUnmerged workload adds Gone = ⊤

-- a stashed request is the one in its submitter's plan, and its page exists
pub record IsAsked (workload : Workload) (h : Held) : Type 0 where
  pub asked : request_at workload h.submitter h.ask.number ≡ Some h.ask.request
  pub there : IsThere (length (marks_of workload.pages)) h.ask.request.page

-- a stashed request, as it runs in a phase
abbrev pub entry_stashed : ℕ → Held → Entry
entry_stashed phase h =
    record { phase = phase; submitter = h.submitter; number = h.ask.number; stashed = true }

-- the joined phase in which what is stashed runs: the present one or the next
abbrev pub next_joined : WorkerView → ℕ
next_joined v = phase_at v + phase_at v % 2

-- order: what it ran, and then what it holds, is the run order of what it took
abbrev pub IsInOrder : Workload → WorkerView → Type 0
IsInOrder workload v =
    map entry_of v.ran ++ map (entry_stashed (next_joined v)) v.stash.looks ≡ order workload v.taken

-- nothing was taken and nothing run in a later phase than this
abbrev pub HasNothingLater : List Took → List Ran → ℕ → Type 0
HasNothingLater taken ran phase = All (λ t. t.phase ≤ phase) taken × All (λ e. e.phase ≤ phase) ran

-- what its state says of what a worker took, ran and holds, and of which submitters have ended: nothing is of a later phase;
-- when it has answered a joined phase it holds nothing; and when it is gone it holds nothing, and its submitters have ended
abbrev pub StandsIn : List Took → List Ran → List Held → List Bool → WorkerState → Type 0
StandsIn taken ran stashed ended (Runs phase) = HasNothingLater taken ran phase
StandsIn taken ran stashed ended (Answered phase) = HasNothingLater taken ran phase × (IsJoined phase → stashed ≡ [])
StandsIn taken ran stashed ended Gone = (stashed ≡ []) × TookAllEnds ended

abbrev pub Stands : WorkerView → WorkerState → Type 0
Stands v state = StandsIn v.taken v.ran v.stash.looks v.ended state

-- in no phase do more come out of the stash than it has room for
abbrev pub FitsStash : Workload → List Took → Type 0
FitsStash workload taken =
    (phase : ℕ) → length (filter (is_due workload phase) taken) ≤ workload.stash

-- what is true between two calls of a worker whose requests are those of the workload's plans
pub record Follows (workload : Workload) (v : WorkerView) : Type 0 where
  pub served : IsServed workload v
  pub sized : IsSized v
  pub tallied : IsTallied workload v
  pub noted : v.notes ≡ true → IsNoted workload v.post.did v.adds v.ran
  pub unmerged : v.notes ≡ true → IsUnmerged workload v.adds v.post.state
  pub in_order : IsInOrder workload v
  pub fits : FitsStash workload v.taken
  pub stashed : All (IsAsked workload) v.stash.looks
  pub stands : Stands v v.post.state
  pub trying : (rank : ℕ) → v.pending ≡ Some rank
      → IsRunning v.post.state × (RunsJoined v.post.state → v.stash.looks ≡ [])

-- what is given is asked by the plan of the submitter that is tried
abbrev pub IsAskedBy : Workload → WorkerView → Taken → Type 0
IsAskedBy workload v (taken.Ask ask) =
    (rank : ℕ) → v.pending ≡ Some rank
    → request_at workload (submitter_at v rank) ask.number ≡ Some ask.request
IsAskedBy workload v taken.End = ⊤
IsAskedBy workload v taken.Nothing = ⊤

-- the workload has the users, the pages and the stash of these settings, and plans of these sizes
pub record IsWorkloadOf (s : Setup) (sizes : List ℕ) (workload : Workload) : Type 0 where
  pub users_are : workload.users ≡ s.users
  pub pages_are : workload.pages ≡ s.pages
  pub stash_is : workload.stash ≡ s.stash
  pub sizes_are : map length workload.plans ≡ sizes

-- the additions of a worker that is gone are noted: they are its post's, in order; each is of its likes; and with the
-- looks they are the calls that its post made, in order
pub record AreNoted (workload : Workload) (v : WorkerView) : Type 0 where
  pub additions : (additions_among v.post.did) ≡ map addition_of v.adds
  pub adds : AddsItsLikes workload v.ran v.adds
  pub calls : calls_of workload v.adds v.ran ≡ stretches_of v.post.did

-- what a worker that is gone has done: it ran what it took in run order, and in no phase more out of its stash than
-- fits there; its post's additions are the likes that it ran, in each phase; the post's plain steps are those of
-- its run list, in order, and each step that adds nothing is plain; its additions are noted, if it notes them; each reply
-- is right, its count aside; its table has each user's last like; and it took the end mark of each of its submitters
pub record IsDone (workload : Workload) (v : WorkerView) : Type 0 where
  pub in_order : map entry_of v.ran ≡ order workload v.taken
  pub fits : FitsStash workload v.taken
  pub likes : (page : ℕ) → likes_among workload page v.ran ≡ additions_of v.post page
  pub by_phase : (phase page : ℕ)
      → likes_within workload page v.ran phase ≡ additions_in v.post phase page
  pub steps : plain_told workload (earliest_first v.post.did) ≡ steps_ran workload v.ran
  pub reads : ArePlainReads workload v.post.did
  pub noted : v.notes ≡ true → AreNoted workload v
  pub replies : HasRightAnswers workload v.ran
  pub last : (user : ℕ) → last_of v.last user ≡ (store_after workload v.ran).last user
  pub ended : TookAllEnds v.ended
