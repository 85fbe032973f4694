use Rattle.std.proofs.Common.{◌≡◌, ◌<◌, nat_lt, true, false, refl, ap, sym, subst, ◌∙◌, arith}
use Rattle.std.proofs.lemmas.Bool.{false≢true, le-ltb, lt-ltb}
use Rattle.like_core.specs.OpeningLimits.{service_limits}
use Rattle.like_core.specs.declared.limits.Limits.{Limits}
use Rattle.like_core.specs.declared.opening.Opening.{Opening}
use Rattle.like_seat.specs.Lead.{LeadView, Sees}
use Rattle.like_live.specs.Driver.{ends, goes_on, is_ending, is_last}
use Rattle.like_live.proofs.Turning.{look-keeps, saw_running}
use Rattle.like_live.proofs.driver.counts.is_at_end.Goals as goal

pub returns-then-not-is_left : goal.returns-then-not-is_left
returns-then-not-is_left c =
    goes_on c.look-sight.result c.look-sight.ensures
    (λ left. absurd (false≢true (c.if-not-is_left.ensures.1 left))) refl

pub returns-then-sight : goal.returns-then-sight
returns-then-sight c =
    is_ending c.look-sight.result c.look-sight.ensures (c.if-not-is_left.ensures.0 refl) c.if-sight.true refl

pub returns-then-phase-ge-LAST_PHASE : goal.returns-then-phase-ge-LAST_PHASE
returns-then-phase-ge-LAST_PHASE c =
    let past : nat_lt c.look-sight.new.self.seat.phase service_limits.last_phase ≡ false =
    le-ltb _ _ (omega (arith, c.phase.ensures, c.if-phase-ge-LAST_PHASE.true)) in
    is_last c.look-sight.result c.look-sight.ensures (c.if-not-is_left.ensures.0 refl) c.if-sight.false past refl

pub returns : goal.returns
returns c =
    let seen = c.look-sight.new.self in
    let before : nat_lt seen.seat.phase service_limits.last_phase ≡ true =
    lt-ltb _ _ (omega (arith, c.phase.ensures, c.if-phase-ge-LAST_PHASE.false)) in
    ends c.look-sight.result c.look.result seen c.look-sight.ensures (c.if-not-is_left.ensures.0 refl)
    c.if-sight.false before
    (subst (λ (l : LeadView). Sees l c.look.result c.look.new.self) c.announce.ensures c.look.ensures) refl

pub look-sight-requires : goal.look-sight-requires
look-sight-requires c = c.requires.here

pub announce-requires-clause-here : goal.announce-requires-clause-here
announce-requires-clause-here c = (look-keeps _ _ _ c.look-sight.ensures).same.board ∙ c.requires.here

pub announce-requires-clause-running : goal.announce-requires-clause-running
announce-requires-clause-running c =
    let limits = ap (λ (z : Opening). z.limits) (look-keeps _ _ _ c.look-sight.ensures).same.opening ∙ c.requires.limits in (
      saw_running _ _ _ c.look-sight.ensures c.if-sight.false,
      subst (λ (l : Limits). c.look-sight.new.self.seat.phase < l.last_phase) (sym limits)
          (omega (arith, c.phase.ensures, c.if-phase-ge-LAST_PHASE.false)),
    )

pub look-requires : goal.look-requires
look-requires c =
    ap (λ (l : LeadView). l.board) c.announce.ensures ∙ (look-keeps _ _ _ c.look-sight.ensures).same.board ∙ c.requires.here
