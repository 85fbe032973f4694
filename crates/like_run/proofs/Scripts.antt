-- Rounds that are made one after the other.
use Rattle.std.proofs.Common.{ℕ, zero, suc, false, refl, subst}
use Rattle.like_crew.specs.Crew.{CrewView}
use Rattle.like_crew.specs.Steps.{FreshRound}
use Rattle.like_run.specs.Script.{MakesRounds}

-- one round more
pub rounds-more : (n : ℕ) (b c d : CrewView) → MakesRounds n b c → FreshRound false c d → MakesRounds (suc n) b d
rounds-more zero b c d same round = (d, (subst (λ x. FreshRound false x d) same round, refl))
rounds-more (suc n) b c d made round = (made.0, (made.1.0, rounds-more n made.0 c d made.1.1 round))
