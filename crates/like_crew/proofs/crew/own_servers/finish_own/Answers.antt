use Rattle.std.proofs.Common.{◌≡◌, ◌∙◌, ◌++◌, ◌∷◌, [], ℕ, length, sym, subst, refl, arith}
use Rattle.std.specs.List.{AllZip}
use Rattle.std.proofs.lemmas.Iterator.Adapters.{YieldsList-from_vec}
use Rattle.std.proofs.lemmas.Iterator.Consumers.{YieldsList-end, YieldsList-turn}
use Rattle.std.proofs.lemmas.List.{length-map, map-id, map_push}
use Rattle.std.proofs.lemmas.Option.{get_or_from_slice_get, slice_get_read}
use Rattle.like_core.specs.declared.worker_state.WorkerState.TheVariants.{Gone}
use Rattle.like_crew.specs.OwnCrew.{IsOwnSeatOf, servers_of}
use Rattle.like_crew.specs.OwnServer.{OwnServerView}
use Rattle.like_crew.specs.Server.{IsLogOf, ServerView}
use Rattle.like_promises.proofs.Lists.{AllZip-more}
use Rattle.like_crew.proofs.servers.Seated.{server-at}
use Rattle.like_crew.proofs.crew.own_servers.finish_own.Goals as goal

pub loop-server-init : goal.loop-server-init
loop-server-init g c = record {
  logs = subst (AllZip IsLogOf []) (sym c.new-logs.ensures.items) tt;
  seats = subst (AllZip IsOwnSeatOf []) (sym c.new-seats.ensures.items) tt;
}

pub finish-log-requires : goal.finish-log-requires
finish-log-requires g c =
    let l = c.loop-server in
    let k : ℕ = length l.yielded in
    let servers = c.args.servers.items in
    let from = c.into_iter-server-iterator.ensures.into_iter_gives in
    let all = YieldsList-from_vec {s = c.into_iter-server-iterator.result} servers from.0 (from.1 ∙ c.args.servers.ok.0) in
    let turn = YieldsList-turn all l.yielded _ l.yielded_by _ c.next.new.self c.in-Some.server c.in-Some.is
    c.next.ensures.steps in
    let s : ServerView = c.in-Some.server.server in
    let at = server-at servers k c.in-Some.server
    (slice_get_read servers (length servers) k c.in-Some.server refl turn.0 turn.1) in
    subst (λ (x : ServerView). x.worker.post.state ≡ Gone) (get_or_from_slice_get (servers_of servers) k s s at)
    (c.requires k s (omega (arith, turn.0, length-map servers (λ (x : OwnServerView). x.server))))

pub loop-server-preserved : goal.loop-server-preserved
loop-server-preserved g c =
    let l = c.loop-server in
    let s : OwnServerView = c.in-Some.server in
    let seat = c.finish-log.result.1 in
    let told = c.finish-log.ensures in
    record {
      logs = subst (AllZip IsLogOf (servers_of (l.yielded ++ s ∷ []))) (sym c.in_ok-push.ensures.items)
          (subst (λ ss. AllZip IsLogOf ss (l.logs.items ++ c.finish-log.result.0 ∷ []))
          (sym (map_push (λ (x : OwnServerView). x.server) l.yielded s))
          (AllZip-more IsLogOf (servers_of l.yielded) l.logs.items s.server c.finish-log.result.0 l.invariant.logs
          told.log));
      seats = subst (AllZip IsOwnSeatOf (l.yielded ++ s ∷ [])) (sym c.in_ok-push-2.ensures.items)
          (AllZip-more IsOwnSeatOf l.yielded l.seats.items s seat l.invariant.seats
          (record { view = told.seat; place = told.place }));
    }

pub returns-clause-logs : goal.returns-clause-logs
returns-clause-logs g c =
    let l = c.loop-server in
    let from = c.into_iter-server-iterator.ensures.into_iter_gives in
    let all = YieldsList-from_vec {s = c.into_iter-server-iterator.result} c.args.servers.items from.0
    (from.1 ∙ c.args.servers.ok.0) in
    let t = YieldsList-end all l.yielded _ l.yielded_by _ c.next.new.self c.in-None.is c.next.ensures.steps in
    subst (λ xs. AllZip IsLogOf (servers_of xs) l.logs.items) (sym (map-id l.yielded) ∙ t.0) l.invariant.logs

pub returns-clause-seats : goal.returns-clause-seats
returns-clause-seats g c =
    let l = c.loop-server in
    let from = c.into_iter-server-iterator.ensures.into_iter_gives in
    let all = YieldsList-from_vec {s = c.into_iter-server-iterator.result} c.args.servers.items from.0
    (from.1 ∙ c.args.servers.ok.0) in
    let t = YieldsList-end all l.yielded _ l.yielded_by _ c.next.new.self c.in-None.is c.next.ensures.steps in
    subst (λ xs. AllZip IsOwnSeatOf xs l.seats.items) (sym (map-id l.yielded) ∙ t.0) l.invariant.seats
