use Rattle.std.proofs.Common.{◌≡◌, ◌<◌, ◌+◌, ℕ, true≢false, List, length, get_or, map, refl, ap, sym, subst, ◌∙◌, arith}
use Rattle.std.specs.List.{range_with_len}
use Rattle.std.proofs.lemmas.List.{length-map, length-set}
use Rattle.std.proofs.lemmas.List.FromFn.{map-range_with_len_more}
use Rattle.like_requests.specs.declared.script.Turned.TheVariants.{Worker}
use Rattle.like_core.specs.declared.worker_state.WorkerState.TheVariants.{Gone}
use Rattle.like_crew.specs.Crew.{CrewView}
use Rattle.like_crew.specs.OwnServer.{OwnServerView}
use Rattle.like_crew.specs.Server.{ServerView}
use Rattle.like_crew.specs.Steps.{MakesAll}
use Rattle.like_crew.proofs.Coordinated.{crew-further, crew-same}
use Rattle.like_crew.proofs.Rounds.{makes-more}
use Rattle.like_crew.proofs.servers.Later.{gone-less, gone-more}
use Rattle.like_crew.proofs.crew.own_crew.OwnCrew.turns.Goals as goal
use Rattle.like_crew.proofs.crew.own_crew.OwnCrew.turns.Goals.{then-gone, else-gone}

-- the first of these workers are gone
abbrev AreFirstGone : List ServerView → ℕ → Type 0
AreFirstGone servers n = (k : ℕ) (d : ServerView) → k < n → (get_or servers k d).worker.post.state ≡ Gone

pub loop-worker-init : goal.loop-worker-init
loop-worker-init c = record {
  workers = subst (λ (v : CrewView). c.len-workers.result ≡ length v.servers) c.self.view_is
      (c.len-workers.ensures ∙ c.self.inside.servers.ok.0
      ∙ sym (length-map c.self.inside.servers.items (λ (s : OwnServerView). s.server)));
  servers = refl;
  turned = refl;
  rest = refl;
  goes_on = crew-same c.args.self.now;
  gone = (λ _ k d below. absurd (omega (arith, below)), λ _. refl);
}

pub loop-worker-preserved : goal.loop-worker-preserved
loop-worker-preserved c =
    let l = c.loop-worker in
    let first : CrewView = c.args.self.now in
    let told = c.retires-retired.ensures in
    let t = told.case in
    let within : l.worker < length l.self.servers = omega (arith, l.invariant.workers, l.invariant.servers) in
    record {
      workers = l.invariant.workers;
      servers = ap (λ xs. length xs) t.rest ∙ length-set l.self.servers l.worker t.after ∙ l.invariant.servers;
      turned = subst (λ entries. MakesAll entries first c.retires-retired.new.self)
          (sym (map-range_with_len_more Worker 0 l.worker l.worker (omega arith)))
          (makes-more (map Worker (range_with_len 0 l.worker)) (Worker l.worker) first l.self
          c.retires-retired.new.self l.invariant.turned (
            record { before = t.before; after = t.after; here = t.here; step = t.step.0; rest = t.rest },
            told.rest,
          ));
      rest = told.rest ∙ l.invariant.rest;
      goes_on = crew-further _ l.self c.retires-retired.new.self l.invariant.goes_on told.goes_on;
      gone = elim c.if-gone.branch [
        | then-gone w ↦ (
          λ e. subst (λ xs. AreFirstGone xs (l.worker + 1)) (sym t.rest)
              (gone-more l.self.servers l.worker t.after within
              (l.invariant.gone.0 w.if-gone.true) (t.step.1.0 (sym w.gone-is ∙ e))),
          λ all. w.gone-is
              ∙ t.step.1.1
              (gone-less l.self.servers l.worker t.after within
              (subst (λ xs. AreFirstGone xs (l.worker + 1)) t.rest all)).1,
        )
        | else-gone w ↦ (
          λ e. absurd (true≢false (sym e ∙ w.gone-is ∙ w.if-gone.false)),
          λ all. absurd (true≢false
              (sym (l.invariant.gone.1
              (gone-less l.self.servers l.worker t.after within
              (subst (λ xs. AreFirstGone xs (l.worker + 1)) t.rest all)).0) ∙ w.if-gone.false)),
        )
      ];
    }

pub retires-retired-requires : goal.retires-retired-requires
retires-retired-requires c =
    let l = c.loop-worker in omega (arith, l.invariant.workers, l.invariant.servers)

pub returns-clause-turns : goal.returns-clause-turns
returns-clause-turns c =
    let l = c.loop-worker in
    let all : l.worker ≡ length c.args.self.now.servers = omega (arith, l.invariant.workers) in
    subst (λ n. MakesAll (map Worker (range_with_len 0 n)) c.args.self.now l.self) all l.invariant.turned

pub returns-clause-gone : goal.returns-clause-gone
returns-clause-gone c =
    let l = c.loop-worker in (
      λ e k d below. l.invariant.gone.0 e k d (omega (arith, below, l.invariant.workers, l.invariant.servers)),
      λ all. l.invariant.gone.1
          (λ k d below. all k d (omega (arith, below, l.invariant.workers, l.invariant.servers))),
    )
