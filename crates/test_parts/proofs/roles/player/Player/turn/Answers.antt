use Rattle.test_parts.proofs.Playing.{gave, may_give, stays_at, tries_none}
use Rattle.test_parts.proofs.roles.player.Player.turn.Goals as goal

pub next_of-taken-requires : goal.next_of-taken-requires
next_of-taken-requires g c = c.self.invariant.at.few

pub give-requires-clause-next : goal.give-requires-clause-next
give-requires-clause-next g c κs within =
    let was = c.self.inside in
    let at = stays_at was.plan.now was.next _ _ c.self.invariant.at c.turn.ensures.takes in
    may_give was.plan.now was.next _ _ _ _ at c.in-Try.ensures.pending c.next_of-taken.ensures

pub invariant_of-self : goal.invariant_of-self
invariant_of-self g c =
    let was = c.self.inside in
    let at = stays_at was.plan.now was.next _ _ c.self.invariant.at c.turn.ensures.takes in
    record {
      at = gave was.plan.now was.next _ _ _ _ _ at c.in-Try.ensures.pending c.next_of-taken.ensures
          c.give.ensures.takes;
      settled = c.give.ensures.settled;
    }

pub invariant_of-self-in_default : goal.invariant_of-self-in_default
invariant_of-self-in_default g c = record {
  at = stays_at c.self.inside.plan.now c.self.inside.next _ _ c.self.invariant.at c.turn.ensures.takes;
  settled = tries_none c.turn.result c.turn.new.self.worker c.in_default.not-Try c.turn.ensures.pending;
}
