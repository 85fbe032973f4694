use Rattle.std.proofs.Common.{◌+◌, false, [], ◌∷◌, ◌++◌, length, map, take, sym, ap, ◌∙◌, subst, arith}
use Rattle.std.specs.List.{AllZip}
use Rattle.std.proofs.lemmas.List.{get_or-set_other, length_push, map-append, replicate_more}
use Rattle.std.proofs.lemmas.Slice.Zip.{AllZip-long}
use Rattle.told_lock.specs.Rights.{IsKeeper, seens_of, told_of}
use Rattle.like_shared.specs.declared.seat_call.SeatPass.{SeatPass}
use Rattle.like_shared.specs.Passes.{IsReady, log_at}
use Rattle.like_shared.proofs.Places.{IsOut, all-set, all-whole, map-alike, out-at, zip-more, zip-read, zip-set}
use Rattle.like_shared.proofs.service.clients.new_passes.Goals as goal

pub bounds-keepers-seat : goal.bounds-keepers-seat
bounds-keepers-seat c =
    let l = c.loop-seat in
    omega (arith, c.loop-seat-test.true, AllZip-long IsKeeper c.args.locks.now l.keepers l.invariant.keepers)

pub new_pass-requires-clause-keeper : goal.new_pass-requires-clause-keeper
new_pass-requires-clause-keeper c =
    let l = c.loop-seat in
    let keeper = c.index-keepers-seat in
    subst (IsKeeper c.index-locks-seat.result) keeper.is
    (zip-read IsKeeper c.args.locks.now l.keepers l.seat c.index-locks-seat.result keeper.result l.invariant.keepers
    c.loop-seat-test.true c.index-locks-seat.is keeper.is)

pub new_pass-requires-clause-room : goal.new_pass-requires-clause-room
new_pass-requires-clause-room c =
    let l = c.loop-seat in
    let keeper = c.index-keepers-seat in
    let all = AllZip-long IsKeeper c.args.locks.now c.args.keepers.now c.requires.keepers in
    let seen = out-at c.args.keepers.now l.keepers c.args._out l.seat keeper.result
    (omega (arith, c.loop-seat-test.true, all)) c.requires.out
    (l.invariant.rest l.seat keeper.result (omega arith)) in
    omega (arith, seen, c.requires.room)

pub loop-seat-preserved : goal.loop-seat-preserved
loop-seat-preserved c =
    let l = c.loop-seat in
    let lock = c.index-locks-seat in
    let keeper = c.index-keepers-seat in
    let after = c.new_pass.new.keeper in
    let pass : SeatPass = record { pass = c.new_pass.result; is_held = false } in
    let did = c.new_pass.ensures in
    let less = c.loop-seat-test.true in
    let all = AllZip-long IsKeeper c.args.locks.now l.keepers l.invariant.keepers in
    let first = AllZip-long IsKeeper c.args.locks.now c.args.keepers.now c.requires.keepers in
    let one-out = out-at c.args.keepers.now l.keepers c.args._out l.seat keeper.result (omega (arith, less, first))
    c.requires.out (l.invariant.rest l.seat keeper.result (omega arith)) in
    record {
      keepers = zip-set IsKeeper c.args.locks.now l.keepers l.seat lock.result after l.invariant.keepers less lock.is
          did.keeper;
      out = all-set (IsOut (c.args._out + 1)) l.keepers l.seat after (omega (arith, less, all)) l.invariant.out
          (did.out ∙ ap (λ n. n + 1) one-out);
      told = map-alike told_of l.keepers l.seat keeper.result after (omega (arith, less, all)) keeper.is
          (did.told ∙ ap told_of (sym keeper.is)) ∙ l.invariant.told;
      seen = map-alike seens_of l.keepers l.seat keeper.result after (omega (arith, less, all)) keeper.is
          (did.seens ∙ ap seens_of (sym keeper.is)) ∙ l.invariant.seen;
      rest = λ i d past.
          get_or-set_other l.keepers l.seat i after d (λ same. omega (arith, past, same)) ∙ l.invariant.rest i d (omega (arith, past));
      passes = subst (AllZip IsReady (take (l.seat + 1) c.args.locks.now)) (sym c.push_reserved.ensures.items)
          (zip-more IsReady c.args.locks.now l.passes.items l.seat lock.result pass less lock.is l.invariant.passes did.idle);
      logs = ap (map log_at) c.push_reserved.ensures.items ∙ map-append log_at l.passes.items (pass ∷ [])
          ∙ (λ i. l.invariant.logs i ++ did.log i ∷ []) ∙ replicate_more l.seat [];
      held = ap (map (λ (p : SeatPass). p.is_held)) c.push_reserved.ensures.items
          ∙ map-append (λ (p : SeatPass). p.is_held) l.passes.items (pass ∷ [])
          ∙ ap (λ bs. bs ++ false ∷ []) l.invariant.held ∙ replicate_more l.seat false;
      len = ap length c.push_reserved.ensures.items ∙ length_push l.passes.items pass ∙ ap (λ n. n + 1) l.invariant.len;
      room = c.push_reserved.ensures.capacity ∙ l.invariant.room;
    }

pub returns-clause-out : goal.returns-clause-out
returns-clause-out c =
    let l = c.loop-seat in
    all-whole (IsOut (c.args._out + 1)) l.keepers l.seat
    (omega (arith, AllZip-long IsKeeper c.args.locks.now l.keepers l.invariant.keepers, c.loop-seat-test.false))
    l.invariant.out
