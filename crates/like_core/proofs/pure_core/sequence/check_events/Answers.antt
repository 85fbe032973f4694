use Rattle.std.proofs.Common.{◌≡◌, ◌+◌, suc, fold, take, List, slice_index_or, subst, ap, sym, refl, ◌∙◌, arith}
use Rattle.std.proofs.lemmas.Option.{slice_get-get_or}
use Rattle.std.proofs.lemmas.List.{take_all}
use Rattle.like_core.specs.declared.event.Event.{Event}
use Rattle.like_core.specs.declared.event.Event.TheVariants.{Look}
use Rattle.like_core.specs.core.Numbers.{Numbers}
use Rattle.like_core.specs.core.Table.{Permits, Refuses, next}
use Rattle.like_core.specs.Functions.{MayAll}
use Rattle.like_core.specs.core.Core.{numbers_of}
use Rattle.like_core.proofs.core.EventLists.{Refuses-Permits, fold-take, MayAll-take, MayAll-at, takes_states_all}
use Rattle.like_core.proofs.core.CoreReached.{keeps_reachable_all, core_is_exclusive}
use Rattle.like_core.proofs.pure_core.sequence.check_events.Goals as goal

pub returns-in-Err-clause-permitted : goal.returns-in-Err-clause-permitted
returns-in-Err-clause-permitted c =
    let events = c.args.events.now in
    let i = c.loop-index.index in
    let event = slice_index_or events i (Look 0) in
    let at = slice_get-get_or events i (Look 0) c.loop-index-test.true in
    let reached = c.loop-index.invariant.1 in
    let refused = subst (λ (n : Numbers). Refuses n event c.in-Err.reason) reached c.in-Err.ensures.refused in (
      λ differ. cc,
      λ all. absurd (Refuses-Permits _ event c.in-Err.reason refused
          (MayAll-at (numbers_of c.args.core.now) events i event at all)),
    )

pub returns-in-Err-clause-wrong : goal.returns-in-Err-clause-wrong
returns-in-Err-clause-wrong c =
    let events = c.args.events.now in
    let i = c.loop-index.index in
    let event = slice_index_or events i (Look 0) in
    let reached = c.loop-index.invariant.1 in
    record {
      before = c.loop-index.invariant.0;
      event = event;
      at = slice_get-get_or events i (Look 0) c.loop-index-test.true;
      refused = subst (λ (n : Numbers). Refuses n event c.in-Err.reason) reached c.in-Err.ensures.refused;
    }

pub returns-in-Err-clause-states_before : goal.returns-in-Err-clause-states_before
returns-in-Err-clause-states_before c =
    takes_states_all c.args.core.now c.step.new.self (take c.loop-index.index c.args.events.now)
    (ap numbers_of c.in-Err.ensures.unchanged ∙ c.loop-index.invariant.1)

pub returns-in-Err-clause-reachable : goal.returns-in-Err-clause-reachable
returns-in-Err-clause-reachable c =
    keeps_reachable_all c.args.core.now c.step.new.self
    (take c.loop-index.index c.args.events.now) c.loop-index.invariant.0
    (ap numbers_of c.in-Err.ensures.unchanged ∙ c.loop-index.invariant.1)

pub loop-index-preserved : goal.loop-index-preserved
loop-index-preserved c =
    let events = c.args.events.now in
    let old = numbers_of c.args.core.now in
    let i = c.loop-index.index in
    let event = slice_index_or events i (Look 0) in
    let at = slice_get-get_or events i (Look 0) c.loop-index-test.true in
    let reached = c.loop-index.invariant.1 in
    let may = subst (λ (n : Numbers). Permits n event) reached (c.in_default.ensures.permitted.0 refl) in
    let e : i + 1 ≡ suc i = omega arith in
    rw e (
      MayAll-take old events i event at c.loop-index.invariant.0 may,
      c.in_default.ensures.next
          ∙ (ap (λ (n : Numbers). next n event) reached ∙ sym (fold-take old events i event at)),
    )

pub returns-clause-states : goal.returns-clause-states
returns-clause-states c =
    let events = c.args.events.now in
    let all : take c.loop-index.index events ≡ events = take_all c.loop-index.index events c.loop-index-test.false in
    takes_states_all c.args.core.now c.loop-index.core events
    (c.loop-index.invariant.1 ∙ ap (λ (es : List Event). fold next (numbers_of c.args.core.now) es) all)

pub returns-clause-reachable : goal.returns-clause-reachable
returns-clause-reachable c =
    let events = c.args.events.now in
    let old = numbers_of c.args.core.now in
    let all : take c.loop-index.index events ≡ events = take_all c.loop-index.index events c.loop-index-test.false in
    keeps_reachable_all c.args.core.now c.loop-index.core events
    (subst (λ (es : List Event). MayAll next Permits old es) all c.loop-index.invariant.0)
    (c.loop-index.invariant.1 ∙ ap (λ (es : List Event). fold next old es) all)

pub returns-clause-exclusive : goal.returns-clause-exclusive
returns-clause-exclusive c = core_is_exclusive c.loop-index.core
