use Rattle.std.proofs.Common.{◌≤◌, [], ◌∷◌, ◌++◌, length, ap, ◌∙◌, arith}
use Rattle.std.specs.List.{slice_get}
use Rattle.std.proofs.lemmas.List.{length-append}
use Rattle.std.proofs.lemmas.Option.{slice_get_within}
use Rattle.like_promises.proofs.Lists.{slice_get-before}
use Rattle.test_parts.proofs.roles.play.seat_players.Goals as goal

pub loop-seat-preserved : goal.loop-seat-preserved
loop-seat-preserved c =
    let left = c.pop.new.self.items in
    let before = c.loop-seat.invariant.len in
    let popped = c.in-Some.ensures.items in
    let longer = length-append left (c.in-Some.seat ∷ []) in
    record {
      seats = λ worker seat at.
          let still = slice_get-before left (c.in-Some.seat ∷ []) worker (slice_get_within left worker seat at) in
          c.loop-seat.invariant.seats worker seat (ap (λ xs. slice_get xs worker) popped ∙ (still ∙ at));
      len = (let whole : length (left ++ c.in-Some.seat ∷ []) ≤ c.args.setup.now.workers = rw popped at before in
          omega arith);
    }
