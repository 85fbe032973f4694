-- Which users a worker serves.
use Rattle.std.specs.Prelude.{ℕ, zero, suc, ◌+◌, ◌-◌, ◌*◌, ◌/◌, ◌%◌, ◌==◌, ◌&&◌, ◌≤◌, Bool, List, [], ◌∷◌, nat_lt, count_by}
use Rattle.std.specs.List.{range_with_len}
use Rattle.like_requests.specs.Verdict.{home}

-- a worker's share of the users: it follows from how many users, submitters and workers there are, and which worker it is
pub record Share : Type 0 where
  pub users : ℕ
  pub submitters : ℕ
  pub workers : ℕ
  pub worker : ℕ

-- the share with these numbers
abbrev pub share_of : ℕ → ℕ → ℕ → ℕ → Share
share_of users submitters workers worker = record {
  users = users;
  submitters = submitters;
  workers = workers;
  worker = worker;
}

-- there is a submitter and a worker
pub record IsShare (s : Share) : Type 0 where
  pub submitters : 1 ≤ s.submitters
  pub workers : 1 ≤ s.workers

-- the worker that serves a submitter
abbrev pub worker_of : ℕ → ℕ → ℕ
worker_of workers submitter = submitter % workers

-- the rank of a submitter among its worker's
abbrev pub rank_of : ℕ → ℕ → ℕ
rank_of workers submitter = submitter / workers

-- the submitter with a rank at a worker: w, w + N, w + 2 N, .. for worker w of N
abbrev pub submitter_of : ℕ → ℕ → ℕ → ℕ
submitter_of workers worker rank = worker + workers * rank

-- the elements of a list at k, k + n, k + 2 n, ..: what worker k of n gets of a list with one for each submitter
abbrev pub dealt : {A : Type 0} → ℕ → ℕ → List A → List A
dealt n k [] = []
dealt n zero (x ∷ xs) = x ∷ dealt n (n - 1) xs
dealt n (suc k) (x ∷ xs) = dealt n k xs

-- whether the worker serves this submitter
abbrev pub serves : Share → ℕ → Bool
serves s submitter = worker_of s.workers submitter == s.worker

-- whether the worker serves this user's home
abbrev pub serves_home : Share → ℕ → Bool
serves_home s user = serves s (home s.submitters user)

-- whether the user is the worker's: it exists, and the worker serves its home
abbrev pub owns : Share → ℕ → Bool
owns s user = nat_lt user s.users && serves_home s user

-- how many of the submitters below this one the worker serves
unfoldable pub homes_below : Share → ℕ → ℕ
homes_below s submitter = count_by (serves s) (range_with_len 0 submitter)

-- how many of the users below this one have a home that the worker serves
unfoldable pub owned_below : Share → ℕ → ℕ
owned_below s user = count_by (serves_home s) (range_with_len 0 user)
