use Rattle.std.specs.Prelude.{take}
use Rattle.like_core.specs.WorkerState.{IsRunning}
use Rattle.like_live.specs.LikeRow.{CountsAll}
use Rattle.like_live.specs.LiveView.{IsLive, IsSameSeat}
use Rattle.like_live.proofs.live_seat.LiveSeat.like_all.Given as goal

abbrev pub invariant-loop-counted : goal.invariant-loop-counted
invariant-loop-counted g l = record {
  likes : CountsAll l.initial.self (take l.counted l.likes) l.self;
  runs : IsRunning l.self.station.post.state;
  live : IsLive l.self;
  same : IsSameSeat l.initial.self l.self;
}
