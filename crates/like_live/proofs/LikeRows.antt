-- A row of likes, and the calls of a history that it is.
use Rattle.std.proofs.Common.{◌≡◌, ◌≢◌, ℕ, ◌+◌, zero, suc, List, [], ◌∷◌, length, map, slice_get, take, Some, None, refl, ap, sym, subst, ◌∙◌, inl, inr, arith, take_all}
use Rattle.like_core.specs.WorkerState.{IsRunning}
use Rattle.like_core.specs.declared.log.LogEntry.TheVariants.{Saw}
use Rattle.like_seat.specs.StationView.{phase_at}
use Rattle.like_serial.proofs.Seen.{not_some, some_is}
use Rattle.like_live.specs.declared.answer.LikeAnswer.{LikeAnswer}
use Rattle.like_live.specs.declared.answer.LikeAnswer.TheVariants.{Liked}
use Rattle.like_live.specs.declared.answer.TurnAnswer.TheVariants.{Runs}
use Rattle.like_live.specs.declared.like_pair.LikePair.{LikePair}
use Rattle.like_live.specs.declared.like_pair.RowAnswer.{RowAnswer}
use Rattle.like_live.specs.LiveView.{LiveView, with_station}
use Rattle.like_live.specs.Moves.{Moves}
use Rattle.like_live.specs.Calls as calls
use Rattle.like_live.specs.Calls.{LikesNow}
use Rattle.like_live.specs.History.{HasDone, HasLatest, IsInRow, IsLookOrLike, like_on}
use Rattle.like_live.specs.LikeRow as row
use Rattle.like_live.specs.LikeRow.{CountsAll, LikesAll, RowsAreLikes, row_calls, turn_of}
use Rattle.like_live.proofs.CallSteps.{has_looked, moves_run}
use Rattle.like_live.proofs.Stepping.{saw_phase}

-- one like more
counts-push : (likes : List LikePair) (i : ℕ) (p : LikePair) (v now after : LiveView)
    → slice_get likes i ≡ Some p → CountsAll v (take i likes) now → LikesNow now p.user p.page Liked after
    → CountsAll v (take (suc i) likes) after
counts-push [] i p v now after at first like = absurd (not_some p at)
counts-push (q ∷ likes) zero p v now after at first like = (
  after,
  subst (λ w. LikesNow w q.user q.page Liked after) first
      (subst (λ r. LikesNow now r.user r.page Liked after) (sym (some_is q p at)) like),
  refl,
)
counts-push (q ∷ likes) (suc i) p v now after at first like =
    (first.0, first.1, counts-push likes i p first.0 now after at first.2 like)

pub counts-more : (likes : List LikePair) (i : ℕ) (p : LikePair) (v now after : LiveView)
    → slice_get likes i ≡ Some p → CountsAll v (take i likes) now → LikesNow now p.user p.page Liked after
    → CountsAll v (take (i + 1) likes) after
counts-more likes i p v now after at first like =
    subst (λ n. CountsAll v (take n likes) after) (next i) (counts-push likes i p v now after at first like)
  where
    next : (i : ℕ) → suc i ≡ i + 1
    next i = omega arith

-- a like leaves a seat running
pub likes-run : (v after : LiveView) (user page : ℕ) (answer : LikeAnswer) → IsRunning v.station.post.state
    → LikesNow v user page answer after → IsRunning after.station.post.state
likes-run v after user page answer runs (calls.refused fails a is) =
    subst (λ (w : LiveView). IsRunning w.station.post.state) (sym is) runs
likes-run v after user page answer runs (calls.full accepted most a is) =
    subst (λ (w : LiveView). IsRunning w.station.post.state) (sym is) runs
likes-run v after user page answer runs (calls.liked None s accepted few a c is) =
    subst (λ (w : LiveView). IsRunning w.station.post.state) (sym (is ∙ ap (with_station v) c.1)) runs
likes-run v after user page answer runs (calls.liked (Some old) s accepted few a c is) =
    subst (λ (w : LiveView). IsRunning w.station.post.state) (sym (is ∙ ap (with_station v) c.1)) runs

-- a turn of a seat that runs begins a row
row_begins : (v now : LiveView) → Moves v Runs now → IsInRow now
row_begins v now m = record {
  runs = moves_run v now m;
  latest = λ split.
      let l = has_looked v now m split in
      subst HasLook (sym l.is)
      (inl (ap (λ n. Saw v.station.post.worker n)
      (saw_phase v.station.post.state l.sight l.can
      (subst (λ (w : LiveView). IsRunning w.station.post.state) l.is (moves_run v now m)))));
}
  where
    HasLook : LiveView → Type 0
    HasLook w = HasLatest (λ e. IsLookOrLike w.station.post.worker (phase_at w.station) e.entry) w.station.post.logged

-- and a like goes on with it
row_goes_on : (v after : LiveView) (user page : ℕ) (answer : LikeAnswer) → IsInRow v
    → LikesNow v user page answer after → IsInRow after
row_goes_on v after user page answer in_row (calls.refused fails a is) = subst IsInRow (sym is) in_row
row_goes_on v after user page answer in_row (calls.full accepted most a is) = subst IsInRow (sym is) in_row
row_goes_on v after user page answer in_row (calls.liked None s accepted few a c is) =
    subst IsInRow (sym (is ∙ ap (with_station v) c.1)) (record { runs = in_row.runs; latest = in_row.latest })
row_goes_on v after user page answer in_row (calls.liked (Some old) s accepted few a c is) =
    subst IsInRow (sym (is ∙ ap (with_station v) c.1))
    (record { runs = in_row.runs; latest = λ split. inr (page, old, refl) })

-- likes that are counted are calls of a history
counted_calls : (likes : List LikePair) (v after : LiveView) → IsInRow v → CountsAll v likes after
    → HasDone v (map (λ p. like_on p.user p.page Liked) likes) after
counted_calls [] v after in_row is = is
counted_calls (p ∷ likes) v after in_row c = (
  c.0,
  ((in_row, c.1), counted_calls likes c.0 after (row_goes_on v c.0 p.user p.page Liked in_row c.1) c.2),
)

-- the like that stops a row leaves the seat as it is
record Stopped (v after : LiveView) (answer : LikeAnswer) : Type 0 where
  same : after ≡ v
  turned : turn_of answer ≡ Runs

stopped : (v after : LiveView) (user page : ℕ) (answer : LikeAnswer) → LikesNow v user page answer after → answer ≢ Liked
    → Stopped v after answer
stopped v after user page answer (calls.refused fails a is) not = record { same = is; turned = ap turn_of a }
stopped v after user page answer (calls.full accepted most a is) not = record { same = is; turned = ap turn_of a }
stopped v after user page answer (calls.liked old s accepted few a c is) not = absurd (not a)

all_calls : (v now after : LiveView) (likes : List LikePair) (told : RowAnswer) → Moves v Runs now
    → LikesAll now likes told after → HasDone v (row_calls likes told) after
all_calls v now after likes told m (row.all counts is) =
    subst (λ t. HasDone v (row_calls likes t) after) (sym is) (
      now,
      (
        m,
        subst (λ ps. HasDone now (map (λ p. like_on p.user p.page Liked) ps) after)
            (sym (take_all (length likes) likes (omega arith))) (counted_calls likes now after (row_begins v now m) counts),
      ),
    )
all_calls v now after likes told m (row.stops then p counts at like not) =
    let s = stopped then after p.user p.page told.answer like not in (
      now,
      (
        subst (λ t. Moves v t now) (sym s.turned) m,
        counted_calls (take told.counted likes) now after (row_begins v now m)
            (subst (CountsAll now (take told.counted likes)) (sym s.same) counts),
      ),
    )

pub rows_are_likes : RowsAreLikes
rows_are_likes v after likes told (row.gone m is) =
    subst (λ t. HasDone v (row_calls likes t) after) (sym is) (after, (m, refl))
rows_are_likes v after likes told (row.between m is) =
    subst (λ t. HasDone v (row_calls likes t) after) (sym is) (after, (m, refl))
rows_are_likes v after likes told (row.runs now m does) = all_calls v now after likes told m does
