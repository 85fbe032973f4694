use Rattle.std.proofs.Common.{Bool, true, false}
use Rattle.std.specs.Prelude.{MatchBool}
use Rattle.told_lock.specs.Deeds.{deeds_in}
use Rattle.told_lock.specs.Rights.{first_of, seen_of}
use Rattle.like_shared.proofs.Desks.{stays-kept}
use Rattle.like_shared.proofs.Kept.{kept}
use Rattle.like_shared.proofs.hub.Hub.enter.Goals as goal

-- more is so in the first case
match-more : (b : Bool) (P P' Q : Type 0) → (P → P') → MatchBool b P Q → MatchBool b P' Q
match-more true P P' Q more p = more p
match-more false P P' Q more q = q

pub returns-clause-entered : goal.returns-clause-entered
returns-clause-entered c =
    let h = c.args.self.now in
    match-more c.try_take.result _ _ _
    (λ it. (it.0, it.1, stays-kept h.service (first_of h.desk) it.0 (deeds_in (seen_of c.try_take.new.pass)) (kept h) it.2))
    c.try_take.ensures.taken
