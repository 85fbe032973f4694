-- What the answers of the request files' readers make, one after the other.
use Rattle.std.specs.Prelude.{◌≡◌, ◌⊎◌, ℕ, List, map, take, slice_get, IsSomeAnd, Result, Ok, Err, Vec}
use Rattle.std.specs.declared.alloc.Global.{Global}
use Rattle.like_requests.specs.Types.{Request, RequestsFault}
use Rattle.like_requests.specs.declared.requests_file.RequestsFault.TheVariants.{Memory}
use Rattle.like_files.specs.{Faults.submitter_at, Types.DriverFault, Types.Requests}

-- what the reader of one file answers
abbrev pub Answer : Type 0
Answer = Result (Vec Request Global) RequestsFault

-- the answer at this place adds no plan: it is a fault, or memory was refused
pub record Stops (answer : Answer) (place : ℕ) (fault : DriverFault) : Type 0 where
  pub why : RequestsFault
  pub named : fault ≡ Requests (submitter_at place) why
  pub stood : (answer ≡ Err why) ⊎ (why ≡ Memory)

-- the first answer that adds no plan
pub record IsFirstStop (answers : List Answer) (fault : DriverFault) : Type 0 where
  pub place : ℕ
  pub plans : List (Vec Request Global)
  pub before : take place answers ≡ map Ok plans
  pub stops : IsSomeAnd (slice_get answers place) (λ answer. Stops answer place fault)
