use Rattle.std.proofs.Common.{◌≡◌, ◌<◌, ◌+◌, ◌++◌, ◌∷◌, [], ℕ, List, length, map, refl, sym, ap, ◌∙◌, subst}
use Rattle.std.proofs.lemmas.Iterator.Adapters.{YieldsList-from_vec}
use Rattle.std.proofs.lemmas.Iterator.Consumers.{YieldsList-end, YieldsList-turn}
use Rattle.std.specs.List.{AllZip, range_with_len}
use Rattle.std.proofs.lemmas.List.{length_push}
use Rattle.std.proofs.lemmas.Option.{slice_get_read}
use Rattle.like_requests.proofs.Planned.{worker-within}
use Rattle.like_requests.specs.Setup.{IsWithin}
use Rattle.like_board.specs.Seats.{board_id, board_numbers, seat_view}
use Rattle.like_core.specs.declared.view.WorkerSeatView.{WorkerSeatView}
use Rattle.like_queue.specs.Inbox.{InboxView}
use Rattle.like_tables.specs.Share.{dealt}
use Rattle.like_roles.specs.worker.New.{IsNew, IsPostOf}
use Rattle.like_crew.specs.Servers.{IsNewServer, IsServer}
use Rattle.like_promises.specs.Workload.{workload_of}
use Rattle.like_crew.specs.Server.{ServerView, plans_of}
use Rattle.like_crew.proofs.Makings.{one-pushed}
use Rattle.like_crew.proofs.servers.Making.{fits-worker, hand-closed, hand-is, hand-left, inboxes-at, new-server, none-made, others, server-at}
use Rattle.like_crew.proofs.crew.new_servers.servers_of.Goals as goal

pub new-requires-clause-within : goal.new-requires-clause-within
new-requires-clause-within g c =
    subst (IsWithin c.args.setup.now) (sym c.requires.sizes)
    (worker-within c.args.setup.now (plans_of (map g.I.Inbox.view c.args.inboxes.items)) c.requires.within)

pub new-requires-clause-post : goal.new-requires-clause-post
new-requires-clause-post g c =
    let l = c.loop-seat in
    let k : ℕ = length l.yielded in
    let from = c.into_iter-seat-iterator.ensures.into_iter_gives in
    let all = YieldsList-from_vec {s = c.into_iter-seat-iterator.result} c.args.seats.items from.0
    (from.1 ∙ c.args.seats.ok.0) in
    let turn = YieldsList-turn all l.yielded _ l.yielded_by _ c.next.new.self c.in-Some.seat c.in-Some.is
    c.next.ensures.steps in
    let fresh = c.requires.seats k c.in-Some.seat
    (slice_get_read c.args.seats.items (length c.args.seats.items) k c.in-Some.seat refl turn.0 turn.1) in
    let same : c.len-number.result ≡ k = c.len-number.ensures ∙ l.servers.ok.0 ∙ l.invariant.len in
    subst (IsPostOf c.len-number.result c.args.setup.now.pages) (sym c.at.ensures.view)
    (subst (λ n. IsPostOf n c.args.setup.now.pages (seat_view c.in-Some.seat)) (sym same) fresh.1)

pub new-requires-clause-inboxes : goal.new-requires-clause-inboxes
new-requires-clause-inboxes g c =
    let l = c.loop-seat in
    let k : ℕ = length l.yielded in
    let from = c.into_iter-seat-iterator.ensures.into_iter_gives in
    let all = YieldsList-from_vec {s = c.into_iter-seat-iterator.result} c.args.seats.items from.0
    (from.1 ∙ c.args.seats.ok.0) in
    let turn = YieldsList-turn all l.yielded _ l.yielded_by _ c.next.new.self c.in-Some.seat c.in-Some.is
    c.next.ensures.steps in
    let workers : ℕ = c.args.setup.now.workers in
    let below : k < workers = subst (λ n. k < n) c.requires.len turn.0 in
    inboxes-at c.args.setup.now c.args.terms.sizes.now c.len-number.result k (map g.I.Inbox.view c.args.inboxes.items)
    (map g.I.Inbox.view c.remove-inboxes.result.items)
    (c.len-number.ensures ∙ l.servers.ok.0 ∙ l.invariant.len) c.requires.within c.requires.sizes c.requires.untouched
    (hand-is g.I.Inbox.view c.in_ok-hands.hands.items l.hands.items k workers c.remove-inboxes.result
    c.args.inboxes.items c.in_ok-hands.ensures.dealt c.in_ok-hands.ensures.len below l.invariant.hands
    c.remove-inboxes.ensures.value)

pub loop-seat-preserved : goal.loop-seat-preserved
loop-seat-preserved g c =
    let l = c.loop-seat in
    let k : ℕ = length l.yielded in
    let from = c.into_iter-seat-iterator.ensures.into_iter_gives in
    let all = YieldsList-from_vec {s = c.into_iter-seat-iterator.result} c.args.seats.items from.0
    (from.1 ∙ c.args.seats.ok.0) in
    let turn = YieldsList-turn all l.yielded _ l.yielded_by _ c.next.new.self c.in-Some.seat c.in-Some.is
    c.next.ensures.steps in
    let workers : ℕ = c.args.setup.now.workers in
    let inboxes : List InboxView = map g.I.Inbox.view c.args.inboxes.items in
    let own : List InboxView = map g.I.Inbox.view c.remove-inboxes.result.items in
    let board : List ℕ = board_numbers (board_id c.args.board.now) in
    let R : ℕ → ServerView → Type 0 =
    IsServer (workload_of c.args.setup.now (plans_of inboxes)) workers board c.args.terms.notes in
    let below : k < workers = subst (λ n. k < n) c.requires.len turn.0 in
    let is : own ≡ dealt workers k inboxes =
    hand-is g.I.Inbox.view c.in_ok-hands.hands.items l.hands.items k workers c.remove-inboxes.result
    c.args.inboxes.items c.in_ok-hands.ensures.dealt c.in_ok-hands.ensures.len below l.invariant.hands
    c.remove-inboxes.ensures.value in
    let fresh = c.requires.seats k c.in-Some.seat
    (slice_get_read c.args.seats.items (length c.args.seats.items) k c.in-Some.seat refl turn.0 turn.1) in
    let longer : length (l.yielded ++ c.in-Some.seat ∷ []) ≡ k + 1 = length_push l.yielded c.in-Some.seat in
    let same : c.len-number.result ≡ k = c.len-number.ensures ∙ l.servers.ok.0 ∙ l.invariant.len in
    let here : c.in-Ok.server.board ≡ board =
    c.in-Ok.ensures.board ∙ ap board_numbers (c.at.ensures.board ∙ fresh.0) in
    let new = subst (λ (p : WorkerSeatView). IsNew c.args.setup.now c.args.terms c.len-number.result p
    c.in-Ok.server.worker) c.at.ensures.view c.in-Ok.ensures.new in
    let server : R k c.in-Ok.server =
    server-at c.args.setup.now c.args.terms c.len-number.result k inboxes own
    (seat_view c.in-Some.seat) board c.in-Ok.server
    same c.requires.sizes is fresh.1 here new c.in-Ok.ensures.works in
    let both = one-pushed R k
    (length (l.yielded ++ c.in-Some.seat ∷ [])) l.servers.items _ c.in-Ok.server c.in_ok-push-in-Ok.ensures.items
    l.invariant.len longer l.invariant.servers server in
    let Q : ℕ → ServerView → Type 0 = IsNewServer c.args.setup.now (plans_of inboxes) c.args.terms in
    let closed = hand-closed g.I.Inbox.opened g.I.Inbox.view c.in_ok-hands.hands.items l.hands.items k workers
    c.remove-inboxes.result c.args.inboxes.items c.in_ok-hands.ensures.dealt c.in_ok-hands.ensures.len below
    l.invariant.hands c.remove-inboxes.ensures.value c.requires.closed in
    let none_done : Q k c.in-Ok.server =
    new-server c.args.setup.now c.args.terms c.len-number.result k inboxes own (seat_view c.in-Some.seat)
    c.in-Ok.server same c.requires.untouched is fresh.1 new c.in-Ok.ensures.inboxes
    (c.in-Ok.ensures.opened ∙ closed) in
    let news = one-pushed Q k
    (length (l.yielded ++ c.in-Some.seat ∷ [])) l.servers.items _ c.in-Ok.server c.in_ok-push-in-Ok.ensures.items
    l.invariant.len longer l.invariant.new none_done in
    record {
      hands = others c.in_ok-hands.hands.items l.hands.items _ k _ l.invariant.hands c.remove-inboxes.ensures.items
          longer;
      len = both.0;
      servers = both.1;
      new = news.1;
    }

pub deal-requires : goal.deal-requires
deal-requires g c = c.requires.within.0.0

pub loop-seat-init : goal.loop-seat-init
loop-seat-init g c = record {
  hands = refl;
  len = ap length c.new-servers.ensures.items;
  servers = none-made
      (IsServer (workload_of c.args.setup.now (plans_of (map g.I.Inbox.view c.args.inboxes.items))) c.args.setup.now.workers
      (board_numbers (board_id c.args.board.now)) c.args.terms.notes) c.new-servers.result.items
      c.new-servers.ensures.items;
  new = none-made (IsNewServer c.args.setup.now (plans_of (map g.I.Inbox.view c.args.inboxes.items)) c.args.terms)
      c.new-servers.result.items c.new-servers.ensures.items;
}

pub overflow_cast-number : goal.overflow_cast-number
overflow_cast-number g c =
    let l = c.loop-seat in
    let from = c.into_iter-seat-iterator.ensures.into_iter_gives in
    let all = YieldsList-from_vec {s = c.into_iter-seat-iterator.result} c.args.seats.items from.0
    (from.1 ∙ c.args.seats.ok.0) in
    let turn = YieldsList-turn all l.yielded _ l.yielded_by _ c.next.new.self c.in-Some.seat c.in-Some.is
    c.next.ensures.steps in
    fits-worker c.len-number.result (length l.yielded) c.args.setup.now.workers
    (c.len-number.ensures ∙ l.servers.ok.0 ∙ l.invariant.len) (subst (λ n. length l.yielded < n) c.requires.len turn.0)
    c.requires.within.0.1

pub new-requires-clause-is_worker : goal.new-requires-clause-is_worker
new-requires-clause-is_worker g c =
    let l = c.loop-seat in
    let from = c.into_iter-seat-iterator.ensures.into_iter_gives in
    let all = YieldsList-from_vec {s = c.into_iter-seat-iterator.result} c.args.seats.items from.0
    (from.1 ∙ c.args.seats.ok.0) in
    let turn = YieldsList-turn all l.yielded _ l.yielded_by _ c.next.new.self c.in-Some.seat c.in-Some.is
    c.next.ensures.steps in
    subst (λ n. n < c.args.setup.now.workers) (sym (c.len-number.ensures ∙ l.servers.ok.0 ∙ l.invariant.len))
    (subst (λ n. length l.yielded < n) c.requires.len turn.0)

pub remove-inboxes-requires : goal.remove-inboxes-requires
remove-inboxes-requires g c =
    let l = c.loop-seat in
    let from = c.into_iter-seat-iterator.ensures.into_iter_gives in
    let all = YieldsList-from_vec {s = c.into_iter-seat-iterator.result} c.args.seats.items from.0
    (from.1 ∙ c.args.seats.ok.0) in
    let turn = YieldsList-turn all l.yielded _ l.yielded_by _ c.next.new.self c.in-Some.seat c.in-Some.is
    c.next.ensures.steps in
    subst (λ n. 0 < n) (sym l.hands.ok.0)
    (hand-left c.in_ok-hands.hands.items l.hands.items (length l.yielded) c.args.setup.now.workers l.invariant.hands
    c.in_ok-hands.ensures.len (subst (λ n. length l.yielded < n) c.requires.len turn.0))

pub returns-clause-servers : goal.returns-clause-servers
returns-clause-servers g c =
    let l = c.loop-seat in
    let from = c.into_iter-seat-iterator.ensures.into_iter_gives in
    let all = YieldsList-from_vec {s = c.into_iter-seat-iterator.result} c.args.seats.items from.0
    (from.1 ∙ c.args.seats.ok.0) in
    let t = YieldsList-end all l.yielded _ l.yielded_by _ c.next.new.self c.in-None.is c.next.ensures.steps in
    subst (λ n. AllZip (IsServer (workload_of c.args.setup.now (plans_of (map g.I.Inbox.view c.args.inboxes.items)))
    c.args.setup.now.workers (board_numbers (board_id c.args.board.now)) c.args.terms.notes) (range_with_len 0 n)
    l.servers.items) (t.1 ∙ c.requires.len) l.invariant.servers

pub returns-clause-new : goal.returns-clause-new
returns-clause-new g c =
    let l = c.loop-seat in
    let from = c.into_iter-seat-iterator.ensures.into_iter_gives in
    let all = YieldsList-from_vec {s = c.into_iter-seat-iterator.result} c.args.seats.items from.0
    (from.1 ∙ c.args.seats.ok.0) in
    let t = YieldsList-end all l.yielded _ l.yielded_by _ c.next.new.self c.in-None.is c.next.ensures.steps in
    subst (λ n. AllZip (IsNewServer c.args.setup.now (plans_of (map g.I.Inbox.view c.args.inboxes.items)) c.args.terms)
    (range_with_len 0 n) l.servers.items) (t.1 ∙ c.requires.len) l.invariant.new

pub at-requires : goal.at-requires
at-requires g c =
    let l = c.loop-seat in
    let k : ℕ = length l.yielded in
    let from = c.into_iter-seat-iterator.ensures.into_iter_gives in
    let all = YieldsList-from_vec {s = c.into_iter-seat-iterator.result} c.args.seats.items from.0
    (from.1 ∙ c.args.seats.ok.0) in
    let turn = YieldsList-turn all l.yielded _ l.yielded_by _ c.next.new.self c.in-Some.seat c.in-Some.is
    c.next.ensures.steps in
    (c.requires.seats k c.in-Some.seat
    (slice_get_read c.args.seats.items (length c.args.seats.items) k c.in-Some.seat refl turn.0 turn.1)).0
