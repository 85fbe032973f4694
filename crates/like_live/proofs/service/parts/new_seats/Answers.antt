use Rattle.std.proofs.Common.{◌≡◌, ◌+◌, ◌≤◌, ℕ, List, Some, slice_get, length, sym, ap, ◌∙◌, subst, arith, ◌<◌, get_or}
use Rattle.std.proofs.lemmas.Iterator.Adapters.{YieldsList-from_vec}
use Rattle.std.proofs.lemmas.Iterator.Consumers.{YieldsList-turn, YieldsList-end}
use Rattle.std.proofs.lemmas.List.{length_push}
use Rattle.std.specs.Arc.{arc_value}
use Rattle.like_board.specs.Seats.{board_id, AreFresh, BoardId, seat_board, seat_view}
use Rattle.like_live.specs.LiveView.{LiveView}
use Rattle.like_live.specs.Service.{IsOpenedSeat}
use Rattle.like_board.proofs.Pushing.{each-pushed}
use Rattle.std.proofs.lemmas.Option.{slice_get-get_or}
use Rattle.like_board.specs.declared.worker_seat.WorkerSeat.{WorkerSeat}
use Rattle.like_core.specs.Post.{fresh}
use Rattle.like_core.specs.declared.opening.Opening.{Opening as CoreOpening}
use Rattle.like_live.proofs.service.parts.new_seats.Goals as goal

-- the next of a new board's seats is the one with this number
at-turn : (board : BoardId) (z : CoreOpening) (workers : List WorkerSeat) (i number : ℕ) (w : WorkerSeat)
    → AreFresh board z workers → (i < length workers) × (w ≡ get_or workers i w) → number ≡ i
    → (seat_board w ≡ board) × (seat_view w ≡ fresh z number)
at-turn board z workers i number w all turn same =
    all number w (subst (λ n. slice_get workers n ≡ Some w) (sym same)
    (slice_get-get_or workers i w turn.0 ∙ ap Some (sym turn.1)))

pub overflow_cast-number : goal.overflow_cast-number
overflow_cast-number g c =
    let l = c.loop-worker in
    let from = c.into_iter-worker-iterator.ensures.into_iter_gives in
    let all = YieldsList-from_vec {s = c.into_iter-worker-iterator.result} c.args.workers.items from.0
    (from.1 ∙ c.args.workers.ok.0) in
    let turn = YieldsList-turn all l.yielded _ l.yielded_by _ c.next.new.self c.in-Some.worker c.in-Some.is
    c.next.ensures.steps in
    let few : length c.args.workers.items ≤ 64 = subst (λ n. n ≤ 64) (sym c.requires.len) c.requires.within.1.1.1.0.1 in
    omega (arith, turn.0, few, c.len-number.ensures, l.seats.ok.0, l.invariant.len)

pub loop-worker-preserved : goal.loop-worker-preserved
loop-worker-preserved g c =
    let l = c.loop-worker in
    let seat = c.in_ok-seat.seat in
    let items = c.in_ok-push.ensures.items in
    let Is : ℕ → LiveView → Type 0 = IsOpenedSeat c.args.opening.now c.args.factor (board_id (arc_value c.args.board.now)) in
    let number : c.len-number.result ≡ length l.seats.items = c.len-number.ensures ∙ l.seats.ok.0 in
    record {
      len = ap length items ∙ length_push l.seats.items seat ∙ ap (λ n. n + 1) l.invariant.len
          ∙ sym (length_push l.yielded c.in-Some.worker);
      each = subst (λ (xs : List LiveView). (i : ℕ) (s : LiveView) → slice_get xs i ≡ Some s → Is i s) (sym items)
          (each-pushed Is l.seats.items seat l.invariant.each (subst (λ n. Is n seat) number c.in_ok-seat.ensures));
    }

pub new_seat-requires : goal.new_seat-requires
new_seat-requires g c =
    let l = c.loop-worker in
    let from = c.into_iter-worker-iterator.ensures.into_iter_gives in
    let all = YieldsList-from_vec {s = c.into_iter-worker-iterator.result} c.args.workers.items from.0
    (from.1 ∙ c.args.workers.ok.0) in
    let turn = YieldsList-turn all l.yielded _ l.yielded_by _ c.next.new.self c.in-Some.worker c.in-Some.is
    c.next.ensures.steps in
    let number : c.len-number.result ≡ length l.yielded = c.len-number.ensures ∙ l.seats.ok.0 ∙ l.invariant.len in
    let worker = at-turn _ _ c.args.workers.items (length l.yielded) c.len-number.result c.in-Some.worker
    c.requires.workers turn number in
    record {
      within = c.requires.within;
      least = c.requires.least;
      there = omega (arith, turn.0, c.requires.len, number);
      here = worker.0;
      view = worker.1;
    }

pub returns : goal.returns
returns g c =
    let l = c.loop-worker in
    let from = c.into_iter-worker-iterator.ensures.into_iter_gives in
    let all = YieldsList-from_vec {s = c.into_iter-worker-iterator.result} c.args.workers.items from.0
    (from.1 ∙ c.args.workers.ok.0) in
    let end = YieldsList-end all l.yielded _ l.yielded_by _ c.next.new.self c.in-None.is c.next.ensures.steps in
    record { len = l.invariant.len ∙ end.1 ∙ c.requires.len; each = l.invariant.each }
