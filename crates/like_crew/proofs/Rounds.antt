-- Entries that are made one after the other, and the turns of a round, which is one of the model's.
use Rattle.std.proofs.Common.{◌≡◌, ℕ, zero, suc, ◌+◌, ◌<◌, ◌≤◌, Bool, false, true≢false, List, [], ◌∷◌, ◌++◌, length, get_or, map, slice_get, inl, inr, refl, ap, sym, ◌∙◌, subst, arith}
use Rattle.std.specs.List.{All, AllZip, range_with_len}
use Rattle.std.proofs.lemmas.Bool.{cases_eq}
use Rattle.std.proofs.lemmas.List.{get_or-set_other, length-set}
use Rattle.std.proofs.lemmas.Option.{get_or_from_slice_get, slice_get_within}
use Rattle.like_requests.specs.declared.script.Turned.{Turned}
use Rattle.like_requests.specs.declared.script.Turned.TheVariants.{Worker}
use Rattle.like_roles.specs.coordinator.CoordTurns.{CoordinatorView}
use Rattle.like_roles.specs.declared.coord_turn.CoordTurn.{CoordTurn}
use Rattle.like_ending.specs.FreshCoordTurns.{FreshCoordTurns}
use Rattle.like_ending.specs.Progress.{AllAreGone}
use Rattle.like_ending.specs.Schedules.{IsFreshRound}
use Rattle.like_crew.specs.Crew.{AreGone, CrewView}
use Rattle.like_crew.specs.Fresh.{AllOpen}
use Rattle.like_crew.specs.Server.{ServerView}
use Rattle.like_crew.specs.Steps.{FreshRound, LeadsFresh, Makes, MakesAll, MakesTurns}
use Rattle.like_crew.proofs.Leading.{coordinator-modelled, ended-told, gone-all}
use Rattle.like_crew.proofs.Progress.{progress_in, progress_with}
use Rattle.like_crew.proofs.lists.Pairs.{pairs-from}
use Rattle.like_crew.proofs.lists.Stepped.{slice_get-set_other, slice_get-set_same}
use Rattle.like_crew.proofs.servers.Turning.{TurnsBy, all-modelled, all-stay-gone, all-stay-open}

-- one entry more is made
pub makes-more : (script : List Turned) (entry : Turned) (b c d : CrewView)
    → MakesAll script b c
    → Makes entry c d
    → MakesAll (script ++ entry ∷ []) b d
makes-more [] entry b c d same step = (d, (subst (λ x. Makes entry x d) same step, refl))
makes-more (first ∷ script) entry b c d made step =
    (made.0, (made.1.0, makes-more script entry made.0 c d made.1.1 step))

-- workers from this one on have made a turn each, whose look shows what the coordinator's seat knows; all else is the same
record HaveTurned (c d : CrewView) (from n : ℕ) : Type 0 where
  pub rest : d.coordinator ≡ c.coordinator
  pub len : length d.servers ≡ length c.servers
  pub before : (k : ℕ) → k < from → slice_get d.servers k ≡ slice_get c.servers k
  pub turned : (k : ℕ) (x y : ServerView) → from ≤ k → k < from + n → k < length c.servers
      → TurnsBy c.coordinator.seat (get_or c.servers k x) (get_or d.servers k y)

have-turned : (from n : ℕ) (c d : CrewView) → MakesAll (map Worker (range_with_len from n)) c d → HaveTurned c d from n
have-turned from zero c d made = record {
  rest = ap (λ (v : CrewView). v.coordinator) made;
  len = ap (λ (v : CrewView). length v.servers) made;
  before = λ k _. ap (λ (v : CrewView). slice_get v.servers k) made;
  turned = λ k x y above below there. absurd (omega (arith, above, below));
}
have-turned from (suc n) c d made =
    let next : CrewView = made.0 in
    let at = made.1.0.0 in
    let same : next.coordinator ≡ c.coordinator = made.1.0.1 in
    let later = have-turned (from + 1) n next d made.1.1 in
    let within = slice_get_within c.servers from at.before at.here in
    let len : length next.servers ≡ length c.servers =
    ap (λ (xs : List ServerView). length xs) at.rest ∙ length-set c.servers from at.after in
    record {
      rest = later.rest ∙ same;
      len = later.len ∙ len;
      before = λ k below. later.before k (omega (arith, below))
          ∙ ap (λ xs. slice_get xs k) at.rest
          ∙ slice_get-set_other c.servers from k at.after (λ e. omega (arith, e, below));
      turned = λ k x y above below there. elim (cases_eq k from) [
        | inl mine ↦
            let was : get_or c.servers k x ≡ at.before =
            ap (λ j. get_or c.servers j x) mine ∙ get_or_from_slice_get c.servers from at.before x at.here in
            let is : get_or d.servers k y ≡ at.after =
            ap (λ j. get_or d.servers j y) mine
            ∙ get_or_from_slice_get d.servers from at.after y
            (later.before from (omega arith) ∙ ap (λ xs. slice_get xs from) at.rest
            ∙ slice_get-set_same c.servers from at.after within) in
            subst (λ s. TurnsBy c.coordinator.seat s (get_or d.servers k y)) (sym was)
            (subst (TurnsBy c.coordinator.seat at.before) (sym is)
            (at.step.0, (at.step.1.turn, at.step.1.fresh)))
        | inr other ↦
            let was : get_or next.servers k x ≡ get_or c.servers k x =
            ap (λ xs. get_or xs k x) at.rest ∙ get_or-set_other c.servers from k at.after x other in
            subst (λ s. TurnsBy c.coordinator.seat s (get_or d.servers k y)) was
            (subst (λ (v : CoordinatorView). TurnsBy v.seat (get_or next.servers k x) (get_or d.servers k y)) same
            (later.turned k x y (omega (arith, above, other)) (omega (arith, below)) (omega (arith, there, len))))
      ];
    }

-- all workers have
all-turned : (c d : CrewView) → MakesTurns c d
    → (d.coordinator ≡ c.coordinator) × AllZip (TurnsBy c.coordinator.seat) c.servers d.servers
all-turned c d made =
    let all = have-turned 0 (length c.servers) c d made in (
      all.rest,
      pairs-from (TurnsBy c.coordinator.seat) c.servers d.servers all.len
          (λ k x y below. all.turned k x y (omega arith) (omega (arith, below)) below),
    )

-- a turn of the coordinator is one of the model's
pub leads-modelled : (answer : CoordTurn) (c d : CrewView)
    → LeadsFresh answer c d
    → FreshCoordTurns (progress_in c) (progress_in d)
leads-modelled answer c d led =
    subst (λ servers. FreshCoordTurns (progress_in c) (progress_with d.coordinator servers)) (sym led.rest)
    (coordinator-modelled c.coordinator answer d.coordinator c.servers led.turn led.fresh)

-- with all lists open, and so they stay
pub round-modelled : (ended : Bool) (c d : CrewView)
    → FreshRound ended c d
    → All AllOpen c.servers
    → IsFreshRound (progress_in c) (progress_in d) × All AllOpen d.servers
round-modelled ended c d r lists =
    let opened = subst (All AllOpen) (sym r.leads.rest) lists in
    let seat = r.led.coordinator.seat in
    let turns = all-turned r.led d r.workers in (
      record {
        led = progress_in r.led;
        coordinator = leads-modelled r.answer c r.led r.leads;
        workers = all-modelled seat r.led.servers d.servers opened turns.1;
        rest = λ m. progress_with (turns.0 m) d.servers;
      },
      all-stay-open seat r.led.servers d.servers opened turns.1,
    )

-- if the run did not end with it, not all workers were gone
pub round-goes-on : (c d : CrewView) → FreshRound false c d → ¬ AllAreGone (progress_in c)
round-goes-on c d r gone =
    let was = gone-all c.coordinator c.servers gone in
    true≢false (sym (r.tells.1 (
      ended-told c.coordinator r.answer r.led.coordinator r.leads.turn (r.leads.fresh.all_gone.1 was),
      all-stay-gone r.led.coordinator.seat r.led.servers d.servers (subst AreGone (sym r.leads.rest) was)
          (all-turned r.led d r.workers).1,
    )))
