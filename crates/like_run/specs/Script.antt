-- How a replay follows its script.
use Rattle.std.specs.Prelude.{◌≡◌, ◌<◌, ℕ, zero, suc, false, true, List}
use Rattle.std.specs.List.{AllZip}
use Rattle.like_requests.specs.Types.{Turned}
use Rattle.like_crew.specs.{Crew.CrewView, Crew.GoesOn, Steps.FreshRound, Steps.MakesAll}
use Rattle.like_crew.specs.{Outcome.IsOutcome, ServerTurns.OpensAll, declared.outcome.Outcome.Outcome}

-- this many rounds are made, with none of which the run ends
abbrev pub MakesRounds : ℕ → CrewView → CrewView → Type 0
MakesRounds zero c d = d ≡ c
MakesRounds (suc n) c d = (next : CrewView) × (FreshRound false c next × MakesRounds n next d)

-- the most rounds of a replay
abbrev pub max_rounds : ℕ
max_rounds = 1000000

-- less than the most rounds are made, and the run ends with the one that follows
pub record EndsInTime (c d : CrewView) : Type 0 where
  pub rounds : ℕ
  pub few : rounds < max_rounds
  pub before : CrewView
  pub goes_round : MakesRounds rounds c before
  pub ends : FreshRound true before d

-- the most rounds are made, with none of which the run ends
pub record MakesMostRounds (c d : CrewView) : Type 0 where
  pub rounds : ℕ
  pub all : rounds ≡ max_rounds
  pub goes_round : MakesRounds rounds c d

-- a crew plays a script: it makes the entries in their order, and then all lists are opened
pub record Plays (script : List Turned) (c d : CrewView) : Type 0 where
  pub made : CrewView
  pub entries : MakesAll script c made
  pub opens : AllZip OpensAll made.servers d.servers
  pub waits : d.coordinator ≡ made.coordinator

-- a crew plays a script, and with the rounds that follow the run ends in time
pub record PlaysToEnd (script : List Turned) (c d : CrewView) : Type 0 where
  pub opened : CrewView
  pub plays : Plays script c opened
  pub ends : EndsInTime opened d

-- a crew follows a script: one that goes on from it, and plays it to its end, leaves this
abbrev pub FollowsScript : List Turned → CrewView → Outcome → Type 0
FollowsScript script c o = IsOutcome (λ last. GoesOn c last × PlaysToEnd script c last) o
