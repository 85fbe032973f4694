-- The threads of a run's servers, as they were started.
use Rattle.std.proofs.Common.{◌≡◌, ◌≤◌, ◌+◌, ◌-◌, ℕ, List, length, map, ap, sym, ◌∙◌, arith}
use Rattle.std.proofs.lemmas.List.{length-map}
use Rattle.std.specs.declared.thread.PromisedHandle.{PromisedHandle}
use Rattle.like_run.specs.declared.threads.worker.Owes.{Owes}
use Rattle.like_run.specs.declared.threads.worker.Served.{Served}
use Rattle.like_crew.specs.Server.{ServerView}

-- the server with which a thread began
abbrev pub first_of : PromisedHandle Served Owes → ServerView
first_of thread = thread.promise.server.value

-- as many threads as servers
pub as-many : (threads : List (PromisedHandle Served Owes)) (servers : List ServerView)
    → map first_of threads ≡ servers
    → length threads ≡ length servers
as-many threads servers are = sym (length-map threads first_of) ∙ ap (λ (xs : List ServerView). length xs) are

-- there is room for them
pub threads-fit : (threads : List (PromisedHandle Served Owes)) (servers : List ServerView) (many room : ℕ)
    → map first_of threads ≡ servers
    → many ≡ length servers
    → room ≡ many
    → length threads ≤ room
threads-fit threads servers many room are sized roomy = omega (arith, as-many threads servers are, sized, roomy)

-- the servers and the submitters are no more than the threads that may be started
pub enough-threads : (threads : List (PromisedHandle Served Owes)) (servers : List ServerView) (many left most ends : ℕ)
    → map first_of threads ≡ servers
    → many ≡ length servers
    → left ≡ most - many
    → length threads ≤ most
    → ends ≤ left
    → length servers + ends ≤ most
enough-threads threads servers many left most ends are sized rest few fewer =
    omega (arith, as-many threads servers are, sized, rest, few, fewer)
