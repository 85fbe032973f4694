use Rattle.std.proofs.Common.{◌≡◌, ◌+◌, length, refl, sym, subst, ◌∙◌, arith}
use Rattle.std.proofs.lemmas.List.{length-map}
use Rattle.like_crew.specs.Crew.{CrewView}
use Rattle.like_crew.specs.OwnServer.{OwnServerView}
use Rattle.like_crew.specs.ServerTurns.{OpensAll}
use Rattle.like_crew.proofs.Coordinated.{crew-further, crew-same}
use Rattle.like_crew.proofs.lists.Stepped.{Stepped, stepped-all, stepped-more, stepped-none}
use Rattle.like_crew.proofs.crew.own_crew.OwnCrew.open_all.Goals as goal

pub loop-worker-init : goal.loop-worker-init
loop-worker-init c = record {
  workers = subst (λ (v : CrewView). c.len-workers.result ≡ length v.servers) c.self.view_is
      (c.len-workers.ensures ∙ c.self.inside.servers.ok.0
      ∙ sym (length-map c.self.inside.servers.items (λ (s : OwnServerView). s.server)));
  opened = stepped-none OpensAll c.args.self.now.servers;
  rest = refl;
  goes_on = crew-same c.args.self.now;
}

pub loop-worker-preserved : goal.loop-worker-preserved
loop-worker-preserved c =
    let l = c.loop-worker in
    let told = c.open_lists_of.ensures in
    let t = told.opens in
    record {
      workers = l.invariant.workers;
      opened = subst (λ xs. Stepped OpensAll c.args.self.now.servers xs (l.worker + 1)) (sym t.rest)
          (stepped-more OpensAll c.args.self.now.servers l.self.servers l.worker t.before t.after t.here t.step
          l.invariant.opened);
      rest = told.rest ∙ l.invariant.rest;
      goes_on = crew-further _ l.self c.open_lists_of.new.self l.invariant.goes_on told.goes_on;
    }

pub open_lists_of-requires : goal.open_lists_of-requires
open_lists_of-requires c =
    let l = c.loop-worker in omega (arith, l.invariant.workers, l.invariant.opened.len)

pub returns-clause-opens : goal.returns-clause-opens
returns-clause-opens c =
    let l = c.loop-worker in
    stepped-all OpensAll c.args.self.now.servers l.self.servers l.worker (omega (arith, l.invariant.workers))
    l.invariant.opened
