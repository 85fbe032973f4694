use Rattle.std.proofs.Common.{get_or, arith}
use Rattle.std.proofs.lemmas.Option.{slice_get-get_or}
use Rattle.like_live.specs.declared.like_pair.LikePair.{LikePair}
use Rattle.like_live.specs.LikeRow.{stops}
use Rattle.like_live.proofs.Calling.{LikesNow-same}
use Rattle.like_live.proofs.LikeRows.{counts-more, likes-run}
use Rattle.like_live.proofs.Moving.{same_seat_both}
use Rattle.like_live.proofs.live_seat.LiveSeat.like_all.Goals as goal

pub returns-in_default : goal.returns-in_default
returns-in_default g c =
    let first : LikePair = record { user = 0; page = 0 } in
    let like : LikePair = get_or c.args.likes.now c.loop-counted.counted first in
    record {
      likes = stops c.loop-counted.self like c.loop-counted.invariant.likes
          (slice_get-get_or c.args.likes.now c.loop-counted.counted first c.loop-counted-test.true) c.like_now.ensures.case
          c.in_default.not-Liked;
      few = omega (arith, c.loop-counted-test.true);
      keeps = c.like_now.ensures.keeps;
      same = same_seat_both c.args.self.now c.loop-counted.self c.like_now.new.self c.loop-counted.invariant.same
          (LikesNow-same c.loop-counted.self c.like_now.new.self like.user like.page c.like_now.result
          c.like_now.ensures.case);
    }

pub loop-counted-preserved : goal.loop-counted-preserved
loop-counted-preserved g c =
    let first : LikePair = record { user = 0; page = 0 } in
    let like : LikePair = get_or c.args.likes.now c.loop-counted.counted first in
    record {
      likes = counts-more c.args.likes.now c.loop-counted.counted like c.args.self.now c.loop-counted.self
          c.like_now.new.self (slice_get-get_or c.args.likes.now c.loop-counted.counted first c.loop-counted-test.true)
          c.loop-counted.invariant.likes c.in-Liked.ensures.case;
      runs = likes-run c.loop-counted.self c.like_now.new.self like.user like.page c.like_now.result
          c.loop-counted.invariant.runs c.like_now.ensures.case;
      live = c.like_now.ensures.keeps;
      same = same_seat_both c.args.self.now c.loop-counted.self c.like_now.new.self c.loop-counted.invariant.same
          (LikesNow-same c.loop-counted.self c.like_now.new.self like.user like.page c.like_now.result
          c.like_now.ensures.case);
    }
