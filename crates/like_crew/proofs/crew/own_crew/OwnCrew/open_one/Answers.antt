use Rattle.std.proofs.Common.{◌≡◌, ◌<◌, ◌%◌, length, slice_get, sym, ap, ◌∙◌, subst}
use Rattle.std.proofs.Math.Nat.{mod-lt}
use Rattle.std.proofs.lemmas.List.{length-map}
use Rattle.like_crew.specs.Crew.{CrewView}
use Rattle.like_crew.specs.OwnServer.{OwnServerView}
use Rattle.like_crew.specs.ServerTurns.{OpensOne}
use Rattle.like_crew.specs.Steps.{AtServer}
use Rattle.like_crew.proofs.crew.own_crew.OwnCrew.open_one.Goals as goal

pub open_list_of-requires-clause-worker : goal.open_list_of-requires-clause-worker
open_list_of-requires-clause-worker c =
    let servers = c.args.self.now.servers in
    let sized : c.len.result ≡ length servers =
    subst (λ (v : CrewView). c.len.result ≡ length v.servers) c.self.view_is
    (c.len.ensures ∙ c.self.inside.servers.ok.0
    ∙ sym (length-map c.self.inside.servers.items (λ (s : OwnServerView). s.server))) in
    subst (λ n. c.args.submitter % n < length servers) (sym sized) (mod-lt c.args.submitter c.requires.0)

pub open_list_of-requires-clause-there : goal.open_list_of-requires-clause-there
open_list_of-requires-clause-there c = λ s at.
    let servers = c.args.self.now.servers in
    let sized : c.len.result ≡ length servers =
    subst (λ (v : CrewView). c.len.result ≡ length v.servers) c.self.view_is
    (c.len.ensures ∙ c.self.inside.servers.ok.0
    ∙ sym (length-map c.self.inside.servers.items (λ (s : OwnServerView). s.server))) in
    c.requires.1 s (ap (λ n. slice_get servers (c.args.submitter % n)) (sym sized) ∙ at)

pub returns-clause-opens : goal.returns-clause-opens
returns-clause-opens c =
    let servers = c.args.self.now.servers in
    let sized : c.len.result ≡ length servers =
    subst (λ (v : CrewView). c.len.result ≡ length v.servers) c.self.view_is
    (c.len.ensures ∙ c.self.inside.servers.ok.0
    ∙ sym (length-map c.self.inside.servers.items (λ (s : OwnServerView). s.server))) in
    subst (λ n. AtServer (c.args.submitter % n) (OpensOne c.args.submitter) servers c.open_list_of.new.self.servers) sized
    c.open_list_of.ensures.opens
