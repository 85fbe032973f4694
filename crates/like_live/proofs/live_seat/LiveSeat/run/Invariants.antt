use Rattle.std.specs.Prelude.{◌≡◌, ◌≤◌, ℕ, slice_get, take}
use Rattle.like_live.specs.Batch.{AnswersRows}
use Rattle.like_live.specs.LiveView.{IsLive, IsSameSeat}
use Rattle.like_live.proofs.live_seat.LiveSeat.run.Given as goal

abbrev pub invariant-loop-done : goal.invariant-loop-done
invariant-loop-done g l = record {
  ran : AnswersRows g.R.Row.asks g.R.Row.tells l.initial.self (take l.done l.rows) (take l.done l.answers) l.self;
  rest : (i : ℕ) → l.done ≤ i → slice_get l.answers i ≡ slice_get l.initial.answers i;
  live : IsLive l.self;
  same : IsSameSeat l.initial.self l.self;
}
