-- The limits of the service, as numbers: each constant of the code is tied to its own here by the contracts.
use Rattle.std.specs.Prelude.{ℕ, ◌^◌}

-- the most workers of a run
abbrev pub max_workers : ℕ
max_workers = 16

-- the most submitters of a run
abbrev pub max_submitters : ℕ
max_submitters = 64

-- the most requests of a submitter
abbrev pub max_requests : ℕ
max_requests = 1000000

-- the most likes that a worker of a run adds: all requests of 64 submitters
abbrev pub max_likes : ℕ
max_likes = 64000000

-- the most users of a run
abbrev pub max_users : ℕ
max_users = 1000000

-- the greatest number of a user that a file may name
abbrev pub max_user : ℕ
max_user = 4294967295

-- the most pages
abbrev pub max_pages : ℕ
max_pages = 1024

-- the most bytes of a page's name
abbrev pub max_name : ℕ
max_name = 64

-- the greatest initial count of a page
abbrev pub max_count : ℕ
max_count = 10 ^ 18

-- a page's total, which is its count and all its unmerged likes, stays below this
abbrev pub total_bound : ℕ
total_bound = 2 ^ 63

-- how many pages can be hot at a time; in a run only the first 64 can be
abbrev pub hot_pages : ℕ
hot_pages = 64

-- the most marked pages of a live service
abbrev pub max_marks : ℕ
max_marks = 64

-- the most likes that may be asked of a page before it is chosen as hot
abbrev pub max_hot : ℕ
max_hot = 1000000

-- the most looks that a worker's stash may hold
abbrev pub max_stash : ℕ
max_stash = 4096

-- the most turns that the coordinator may count in a phase
abbrev pub max_turns : ℕ
max_turns = 1000000

-- the most entries of a script
abbrev pub max_entries : ℕ
max_entries = 1000000

-- the greatest number of a worker or a submitter that a script file may name
abbrev pub max_index : ℕ
max_index = 4294967295
