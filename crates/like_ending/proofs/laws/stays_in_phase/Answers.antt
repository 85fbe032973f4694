use Rattle.like_ending.proofs.CrewFacts.{crew_keeps}
use Rattle.like_ending.proofs.Ends.{starts_in_phase}
use Rattle.like_ending.proofs.laws.stays_in_phase.Goals as goal

pub returns : goal.returns
returns c = record {
  starts = starts_in_phase;
  stays = λ all_open who b d p t.
      let k = crew_keeps all_open who b d p t in (k.in_phase, k.less);
}
