use Rattle.std.proofs.Common.{◌≡◌, ◌<◌, ◌+◌, ◌++◌, ◌∷◌, [], ℕ, List, length, map, slice_get, refl, sym, ap, ◌∙◌, subst, add-one}
use Rattle.std.proofs.lemmas.Iterator.Adapters.{YieldsList-from_vec}
use Rattle.std.proofs.lemmas.Iterator.Consumers.{YieldsList-end, YieldsList-turn}
use Rattle.std.specs.List.{AllZip, range_with_len}
use Rattle.std.proofs.lemmas.List.{length-map, length_push, map_push}
use Rattle.std.proofs.lemmas.Option.{slice_get_read}
use Rattle.like_requests.proofs.Planned.{worker-within}
use Rattle.like_requests.specs.Setup.{IsWithin}
use Rattle.like_core.specs.declared.opening.Opening.{Opening}
use Rattle.like_core.specs.declared.view.View.TheVariants.{Coord, Worker}
use Rattle.like_core.specs.declared.view.WorkerSeatView.{WorkerSeatView}
use Rattle.like_core.specs.Post as post
use Rattle.like_board.specs.NewViews.{new_workers}
use Rattle.like_board.specs.Own.{own_view}
use Rattle.like_board.specs.Rule.{opened_coord}
use Rattle.like_queue.specs.Inbox.{InboxView}
use Rattle.like_tables.specs.Share.{dealt}
use Rattle.like_promises.specs.Workload.{workload_of}
use Rattle.like_roles.specs.worker.New.{IsPostOf}
use Rattle.like_crew.specs.OwnCrew.{servers_of}
use Rattle.like_crew.specs.OwnServer.{OwnServerView}
use Rattle.like_crew.specs.Server.{ServerView, plans_of}
use Rattle.like_crew.specs.Servers.{IsNewServer, IsServer}
use Rattle.like_crew.specs.Site.{opening_of}
use Rattle.like_crew.proofs.Makings.{one-pushed}
use Rattle.like_crew.proofs.servers.Making.{fits-worker, hand-closed, hand-is, hand-left, inboxes-at, new-server, none-made, others, server-at}
use Rattle.like_crew.proofs.servers.OwnMaking.{each-more, own-post, workers-more, workers-none}
use Rattle.like_crew.proofs.crew.own_servers.own_servers.Goals as goal

pub deal-requires : goal.deal-requires
deal-requires g c = c.requires.within.0.0

pub loop-seat-init : goal.loop-seat-init
loop-seat-init g c =
    let none = c.new-servers.ensures.items in
    let servers = ap servers_of none in
    record {
      hands = refl;
      len = ap length none;
      servers = none-made
          (IsServer (workload_of c.args.setup.now (plans_of (map g.I.Inbox.view c.args.inboxes.items)))
          c.args.setup.now.workers [] c.args.terms.notes) (servers_of c.new-servers.result.items) servers;
      new = none-made (IsNewServer c.args.setup.now (plans_of (map g.I.Inbox.view c.args.inboxes.items)) c.args.terms)
          (servers_of c.new-servers.result.items) servers;
      places = λ worker s e. absurd (cc (sym (ap (λ xs. slice_get xs worker) none) ∙ e));
      views = ap (map (λ (s : ServerView). Worker s.worker.post)) servers ∙ sym (workers-none (opening_of c.args.setup.now));
    }

pub overflow_cast-number : goal.overflow_cast-number
overflow_cast-number g c =
    let l = c.loop-seat in
    let k : ℕ = length l.yielded in
    let from = c.into_iter-seat-iterator.ensures.into_iter_gives in
    let all = YieldsList-from_vec {s = c.into_iter-seat-iterator.result} c.args.seats.items from.0
    (from.1 ∙ c.args.seats.ok.0) in
    let turn = YieldsList-turn all l.yielded _ l.yielded_by _ c.next.new.self c.in-Some.seat c.in-Some.is
    c.next.ensures.steps in
    fits-worker c.len-number.result k c.args.setup.now.workers (c.len-number.ensures ∙ l.servers.ok.0 ∙ l.invariant.len)
    (subst (λ n. k < n) c.requires.len turn.0) c.requires.within.0.1

pub remove-inboxes-requires : goal.remove-inboxes-requires
remove-inboxes-requires g c =
    let l = c.loop-seat in
    let k : ℕ = length l.yielded in
    let from = c.into_iter-seat-iterator.ensures.into_iter_gives in
    let all = YieldsList-from_vec {s = c.into_iter-seat-iterator.result} c.args.seats.items from.0
    (from.1 ∙ c.args.seats.ok.0) in
    let turn = YieldsList-turn all l.yielded _ l.yielded_by _ c.next.new.self c.in-Some.seat c.in-Some.is
    c.next.ensures.steps in
    subst (λ n. 0 < n) (sym l.hands.ok.0)
    (hand-left c.in_ok-hands.hands.items l.hands.items k c.args.setup.now.workers l.invariant.hands
    c.in_ok-hands.ensures.len (subst (λ n. k < n) c.requires.len turn.0))

pub new-requires-clause-within : goal.new-requires-clause-within
new-requires-clause-within g c =
    subst (IsWithin c.args.setup.now) (sym c.requires.sizes)
    (worker-within c.args.setup.now (plans_of (map g.I.Inbox.view c.args.inboxes.items)) c.requires.within)

pub new-requires-clause-is_worker : goal.new-requires-clause-is_worker
new-requires-clause-is_worker g c =
    let l = c.loop-seat in
    let k : ℕ = length l.yielded in
    let from = c.into_iter-seat-iterator.ensures.into_iter_gives in
    let all = YieldsList-from_vec {s = c.into_iter-seat-iterator.result} c.args.seats.items from.0
    (from.1 ∙ c.args.seats.ok.0) in
    let turn = YieldsList-turn all l.yielded _ l.yielded_by _ c.next.new.self c.in-Some.seat c.in-Some.is
    c.next.ensures.steps in
    subst (λ n. n < c.args.setup.now.workers) (sym (c.len-number.ensures ∙ l.servers.ok.0 ∙ l.invariant.len))
    (subst (λ n. k < n) c.requires.len turn.0)

pub new-requires-clause-post : goal.new-requires-clause-post
new-requires-clause-post g c =
    let l = c.loop-seat in
    let k : ℕ = length l.yielded in
    let from = c.into_iter-seat-iterator.ensures.into_iter_gives in
    let all = YieldsList-from_vec {s = c.into_iter-seat-iterator.result} c.args.seats.items from.0
    (from.1 ∙ c.args.seats.ok.0) in
    let turn = YieldsList-turn all l.yielded _ l.yielded_by _ c.next.new.self c.in-Some.seat c.in-Some.is
    c.next.ensures.steps in
    let fresh = c.requires.seats.2 k c.in-Some.seat
    (slice_get_read c.args.seats.items (length c.args.seats.items) k c.in-Some.seat refl turn.0 turn.1) in
    subst (λ n. IsPostOf n c.args.setup.now.pages (own_view c.in-Some.seat))
    (sym (c.len-number.ensures ∙ l.servers.ok.0 ∙ l.invariant.len))
    (own-post c.args.setup.now _ k (own_view c.in-Some.seat) c.requires.seats.1 fresh.1)

pub new-requires-clause-inboxes : goal.new-requires-clause-inboxes
new-requires-clause-inboxes g c =
    let l = c.loop-seat in
    let k : ℕ = length l.yielded in
    let from = c.into_iter-seat-iterator.ensures.into_iter_gives in
    let all = YieldsList-from_vec {s = c.into_iter-seat-iterator.result} c.args.seats.items from.0
    (from.1 ∙ c.args.seats.ok.0) in
    let turn = YieldsList-turn all l.yielded _ l.yielded_by _ c.next.new.self c.in-Some.seat c.in-Some.is
    c.next.ensures.steps in
    let workers : ℕ = c.args.setup.now.workers in
    let below : k < workers = subst (λ n. k < n) c.requires.len turn.0 in
    inboxes-at c.args.setup.now c.args.terms.sizes.now c.len-number.result k (map g.I.Inbox.view c.args.inboxes.items)
    (map g.I.Inbox.view c.remove-inboxes.result.items)
    (c.len-number.ensures ∙ l.servers.ok.0 ∙ l.invariant.len) c.requires.within c.requires.sizes c.requires.untouched
    (hand-is g.I.Inbox.view c.in_ok-hands.hands.items l.hands.items k workers c.remove-inboxes.result
    c.args.inboxes.items c.in_ok-hands.ensures.dealt c.in_ok-hands.ensures.len below l.invariant.hands
    c.remove-inboxes.ensures.value)

pub loop-seat-preserved : goal.loop-seat-preserved
loop-seat-preserved g c =
    let l = c.loop-seat in
    let k : ℕ = length l.yielded in
    let from = c.into_iter-seat-iterator.ensures.into_iter_gives in
    let all = YieldsList-from_vec {s = c.into_iter-seat-iterator.result} c.args.seats.items from.0
    (from.1 ∙ c.args.seats.ok.0) in
    let turn = YieldsList-turn all l.yielded _ l.yielded_by _ c.next.new.self c.in-Some.seat c.in-Some.is
    c.next.ensures.steps in
    let fresh = c.requires.seats.2 k c.in-Some.seat
    (slice_get_read c.args.seats.items (length c.args.seats.items) k c.in-Some.seat refl turn.0 turn.1) in
    let workers : ℕ = c.args.setup.now.workers in
    let below : k < workers = subst (λ n. k < n) c.requires.len turn.0 in
    let inboxes : List InboxView = map g.I.Inbox.view c.args.inboxes.items in
    let mine : List InboxView = map g.I.Inbox.view c.remove-inboxes.result.items in
    let R : ℕ → ServerView → Type 0 =
    IsServer (workload_of c.args.setup.now (plans_of inboxes)) workers [] c.args.terms.notes in
    let Q : ℕ → ServerView → Type 0 = IsNewServer c.args.setup.now (plans_of inboxes) c.args.terms in
    let is : mine ≡ dealt workers k inboxes =
    hand-is g.I.Inbox.view c.in_ok-hands.hands.items l.hands.items k workers c.remove-inboxes.result
    c.args.inboxes.items c.in_ok-hands.ensures.dealt c.in_ok-hands.ensures.len below l.invariant.hands
    c.remove-inboxes.ensures.value in
    let longer : length (l.yielded ++ c.in-Some.seat ∷ []) ≡ k + 1 = length_push l.yielded c.in-Some.seat in
    let at_seat : WorkerSeatView = own_view c.in-Some.seat in
    let fits : IsPostOf k c.args.setup.now.pages at_seat =
    own-post c.args.setup.now _ k at_seat c.requires.seats.1 fresh.1 in
    let t : OwnServerView = c.in_ok-server.server in
    let told = c.in_ok-server.ensures in
    let same : c.len-number.result ≡ k = c.len-number.ensures ∙ l.servers.ok.0 ∙ l.invariant.len in
    let server : R k t.server =
    server-at c.args.setup.now c.args.terms c.len-number.result k inboxes mine at_seat [] t.server
    same c.requires.sizes is fits told.board told.new told.works in
    let closed = hand-closed g.I.Inbox.opened g.I.Inbox.view c.in_ok-hands.hands.items l.hands.items k workers
    c.remove-inboxes.result c.args.inboxes.items c.in_ok-hands.ensures.dealt c.in_ok-hands.ensures.len below
    l.invariant.hands c.remove-inboxes.ensures.value c.requires.closed in
    let none_done : Q k t.server =
    new-server c.args.setup.now c.args.terms c.len-number.result k inboxes mine at_seat t.server same
    c.requires.untouched is fits told.new told.inboxes (told.opened ∙ closed) in
    let after = c.push.new.self.items in
    let pushed = c.in_ok-push.ensures.items in
    let more : servers_of after ≡ servers_of l.servers.items ++ t.server ∷ [] =
    ap servers_of pushed ∙ map_push (λ (s : OwnServerView). s.server) l.servers.items t in
    let many : length (servers_of l.servers.items) ≡ k =
    length-map l.servers.items (λ (s : OwnServerView). s.server) ∙ l.invariant.len in
    let posted = λ (s : ServerView). Worker s.worker.post in
    let at : t.server.worker.post ≡ at_seat = told.new.at_post in
    let both = one-pushed R k (length (l.yielded ++ c.in-Some.seat ∷ [])) (servers_of l.servers.items)
    (servers_of after) t.server more many longer l.invariant.servers server in
    let news = one-pushed Q k (length (l.yielded ++ c.in-Some.seat ∷ [])) (servers_of l.servers.items)
    (servers_of after) t.server more many longer l.invariant.new none_done in
    record {
      hands = others c.in_ok-hands.hands.items l.hands.items _ k _ l.invariant.hands c.remove-inboxes.ensures.items
          longer;
      len = ap length pushed ∙ length_push l.servers.items t ∙ ap (λ n. n + 1) l.invariant.len ∙ sym longer;
      servers = both.1;
      new = news.1;
      places = λ worker s e.
          each-more (λ n (x : OwnServerView). x.place ≡ n + 1) l.servers.items t l.invariant.places
          (told.place ∙ fresh.0 ∙ ap (λ n. n + 1) (sym l.invariant.len)) worker s
          (ap (λ xs. slice_get xs worker) (sym pushed) ∙ e);
      views = ap (map posted) more ∙ map_push posted (servers_of l.servers.items) t.server
          ∙ ap (λ vs. vs ++ posted t.server ∷ []) l.invariant.views
          ∙ ap (λ (v : WorkerSeatView). new_workers (opening_of c.args.setup.now) k ++ Worker v ∷ [])
          (at ∙ fresh.1 ∙ ap (λ (z : Opening). post.fresh z k) c.requires.seats.1)
          ∙ sym (workers-more (opening_of c.args.setup.now) k)
          ∙ ap (new_workers (opening_of c.args.setup.now)) (sym (longer ∙ add-one k));
    }

pub returns-clause-servers : goal.returns-clause-servers
returns-clause-servers g c =
    let l = c.loop-seat in
    let from = c.into_iter-seat-iterator.ensures.into_iter_gives in
    let all = YieldsList-from_vec {s = c.into_iter-seat-iterator.result} c.args.seats.items from.0
    (from.1 ∙ c.args.seats.ok.0) in
    let t = YieldsList-end all l.yielded _ l.yielded_by _ c.next.new.self c.in-None.is c.next.ensures.steps in
    subst (λ n. AllZip (IsServer (workload_of c.args.setup.now (plans_of (map g.I.Inbox.view c.args.inboxes.items)))
    c.args.setup.now.workers [] c.args.terms.notes) (range_with_len 0 n) (servers_of l.servers.items))
    (t.1 ∙ c.requires.len) l.invariant.servers

pub returns-clause-new : goal.returns-clause-new
returns-clause-new g c =
    let l = c.loop-seat in
    let from = c.into_iter-seat-iterator.ensures.into_iter_gives in
    let all = YieldsList-from_vec {s = c.into_iter-seat-iterator.result} c.args.seats.items from.0
    (from.1 ∙ c.args.seats.ok.0) in
    let t = YieldsList-end all l.yielded _ l.yielded_by _ c.next.new.self c.in-None.is c.next.ensures.steps in
    subst (λ n. AllZip (IsNewServer c.args.setup.now (plans_of (map g.I.Inbox.view c.args.inboxes.items)) c.args.terms)
    (range_with_len 0 n) (servers_of l.servers.items)) (t.1 ∙ c.requires.len) l.invariant.new

pub returns-clause-seated : goal.returns-clause-seated
returns-clause-seated g c =
    let l = c.loop-seat in
    let from = c.into_iter-seat-iterator.ensures.into_iter_gives in
    let all = YieldsList-from_vec {s = c.into_iter-seat-iterator.result} c.args.seats.items from.0
    (from.1 ∙ c.args.seats.ok.0) in
    let t = YieldsList-end all l.yielded _ l.yielded_by _ c.next.new.self c.in-None.is c.next.ensures.steps in
    record {
      views_are = ap (λ vs. Coord (opened_coord (opening_of c.args.setup.now)) ∷ vs)
          (sym (l.invariant.views ∙ ap (new_workers (opening_of c.args.setup.now)) (t.1 ∙ c.requires.len)));
      places = l.invariant.places;
    }
