use Rattle.std.proofs.Common.{◌+◌, ◌-◌, ◌<◌, [], ◌∷◌, ◌++◌, get_or, length, map, set, sym, ap, ◌∙◌, subst, arith}
use Rattle.std.proofs.lemmas.Iterator.Adapters.{YieldsList-from_vec}
use Rattle.std.proofs.lemmas.Iterator.Consumers.{YieldsList-end, YieldsList-turn}
use Rattle.std.proofs.lemmas.List.{get_or-set_other, length_push, map-id}
use Rattle.std.proofs.lemmas.Slice.Zip.{AllZip-long}
use Rattle.told_lock.specs.Deeds.{named}
use Rattle.told_lock.specs.Rights.{IsKeeper, name_of, seens_of, told_of}
use Rattle.like_shared.specs.Passes.{IsReady, log_at, seen_at}
use Rattle.like_shared.proofs.Backs.{each-back}
use Rattle.like_shared.proofs.Places.{IsOut, all-set, all-whole, out-at, zip-read, zip-set}
use Rattle.like_shared.proofs.service.clients.take_passes.Goals as goal

pub bounds-locks-seat : goal.bounds-locks-seat
bounds-locks-seat c =
    let l = c.loop-pass in
    let from = c.into_iter-pass-iterator.ensures.into_iter_gives in
    let all = YieldsList-from_vec {s = c.into_iter-pass-iterator.result} c.args.passes.items from.0
    (from.1 ∙ c.args.passes.ok.0) in
    let turn = YieldsList-turn all l.yielded _ l.yielded_by _ c.next.new.self c.in-Some.pass c.in-Some.is
    c.next.ensures.steps in
    let passes = AllZip-long IsReady c.args.locks.now c.args.passes.items c.requires.passes in
    omega (arith, turn.0, l.invariant.next, passes)

pub offset_bounds-locks-seat : goal.offset_bounds-locks-seat
offset_bounds-locks-seat c =
    let l = c.loop-pass in
    let from = c.into_iter-pass-iterator.ensures.into_iter_gives in
    let all = YieldsList-from_vec {s = c.into_iter-pass-iterator.result} c.args.passes.items from.0
    (from.1 ∙ c.args.passes.ok.0) in
    let turn = YieldsList-turn all l.yielded _ l.yielded_by _ c.next.new.self c.in-Some.pass c.in-Some.is
    c.next.ensures.steps in
    let passes = AllZip-long IsReady c.args.locks.now c.args.passes.items c.requires.passes in
    let there : l.seat < length c.args.locks.now = omega (arith, turn.0, l.invariant.next, passes) in
    omega arith

pub bounds-keepers-seat : goal.bounds-keepers-seat
bounds-keepers-seat c =
    let l = c.loop-pass in
    let from = c.into_iter-pass-iterator.ensures.into_iter_gives in
    let all = YieldsList-from_vec {s = c.into_iter-pass-iterator.result} c.args.passes.items from.0
    (from.1 ∙ c.args.passes.ok.0) in
    let turn = YieldsList-turn all l.yielded _ l.yielded_by _ c.next.new.self c.in-Some.pass c.in-Some.is
    c.next.ensures.steps in
    let passes = AllZip-long IsReady c.args.locks.now c.args.passes.items c.requires.passes in
    let keepers = AllZip-long IsKeeper c.args.locks.now l.keepers l.invariant.keepers in
    omega (arith, turn.0, l.invariant.next, passes, keepers)

pub offset_bounds-keepers-seat : goal.offset_bounds-keepers-seat
offset_bounds-keepers-seat c =
    let l = c.loop-pass in
    let from = c.into_iter-pass-iterator.ensures.into_iter_gives in
    let all = YieldsList-from_vec {s = c.into_iter-pass-iterator.result} c.args.passes.items from.0
    (from.1 ∙ c.args.passes.ok.0) in
    let turn = YieldsList-turn all l.yielded _ l.yielded_by _ c.next.new.self c.in-Some.pass c.in-Some.is
    c.next.ensures.steps in
    let passes = AllZip-long IsReady c.args.locks.now c.args.passes.items c.requires.passes in
    let keepers = AllZip-long IsKeeper c.args.locks.now l.keepers l.invariant.keepers in
    let there : l.seat < length l.keepers = omega (arith, turn.0, l.invariant.next, passes, keepers) in
    omega arith

pub take_pass-requires-clause-keeper : goal.take_pass-requires-clause-keeper
take_pass-requires-clause-keeper c =
    let l = c.loop-pass in
    let from = c.into_iter-pass-iterator.ensures.into_iter_gives in
    let all = YieldsList-from_vec {s = c.into_iter-pass-iterator.result} c.args.passes.items from.0
    (from.1 ∙ c.args.passes.ok.0) in
    let turn = YieldsList-turn all l.yielded _ l.yielded_by _ c.next.new.self c.in-Some.pass c.in-Some.is
    c.next.ensures.steps in
    let passes = AllZip-long IsReady c.args.locks.now c.args.passes.items c.requires.passes in
    let keeper = c.index-keepers-seat in
    subst (IsKeeper c.index-locks-seat.result) keeper.is
    (zip-read IsKeeper c.args.locks.now l.keepers l.seat c.index-locks-seat.result keeper.result l.invariant.keepers
    (omega (arith, turn.0, l.invariant.next, passes)) c.index-locks-seat.is keeper.is)

pub take_pass-requires-clause-ready : goal.take_pass-requires-clause-ready
take_pass-requires-clause-ready c =
    let l = c.loop-pass in
    let from = c.into_iter-pass-iterator.ensures.into_iter_gives in
    let all = YieldsList-from_vec {s = c.into_iter-pass-iterator.result} c.args.passes.items from.0
    (from.1 ∙ c.args.passes.ok.0) in
    let turn = YieldsList-turn all l.yielded _ l.yielded_by _ c.next.new.self c.in-Some.pass c.in-Some.is
    c.next.ensures.steps in
    let passes = AllZip-long IsReady c.args.locks.now c.args.passes.items c.requires.passes in
    zip-read IsReady c.args.locks.now c.args.passes.items l.seat c.index-locks-seat.result c.in-Some.pass c.requires.passes
    (omega (arith, turn.0, l.invariant.next, passes)) c.index-locks-seat.is
    (turn.1 ∙ ap (λ i. get_or c.args.passes.items i c.in-Some.pass) (sym l.invariant.next))

pub loop-pass-preserved : goal.loop-pass-preserved
loop-pass-preserved c =
    let l = c.loop-pass in
    let from = c.into_iter-pass-iterator.ensures.into_iter_gives in
    let all = YieldsList-from_vec {s = c.into_iter-pass-iterator.result} c.args.passes.items from.0
    (from.1 ∙ c.args.passes.ok.0) in
    let turn = YieldsList-turn all l.yielded _ l.yielded_by _ c.next.new.self c.in-Some.pass c.in-Some.is
    c.next.ensures.steps in
    let passes = AllZip-long IsReady c.args.locks.now c.args.passes.items c.requires.passes in
    let keepers = AllZip-long IsKeeper c.args.locks.now l.keepers l.invariant.keepers in
    let lock = c.index-locks-seat in
    let keeper = c.index-keepers-seat in
    let after = c.take_pass.new.keeper in
    let did = c.take_pass.ensures in
    let pass = c.in-Some.pass in
    let next = l.invariant.next in
    let first = AllZip-long IsKeeper c.args.locks.now c.args.keepers.now c.requires.keepers in
    let one-out = out-at c.args.keepers.now l.keepers c.args._out l.seat keeper.result
    (omega (arith, turn.0, next, passes, first)) c.requires.out (l.invariant.rest l.seat keeper.result (omega arith)) in
    record {
      next = ap (λ n. n + 1) next ∙ sym (length_push l.yielded pass);
      out = all-set (IsOut (c.args._out - 1)) l.keepers l.seat after (omega (arith, turn.0, next, passes, keepers))
          l.invariant.out (did.out ∙ ap (λ n. n - 1) one-out);
      rest = λ i d past.
          get_or-set_other l.keepers l.seat i after d (λ same. omega (arith, past, same)) ∙ l.invariant.rest i d (omega (arith, past));
      keepers =
          zip-set IsKeeper c.args.locks.now l.keepers l.seat lock.result after l.invariant.keepers
          (omega (arith, turn.0, next, passes)) lock.is did.keeper;
      told =
          ap (λ i. map told_of (set l.keepers i after)) next
          ∙ each-back (λ told p. told ++ named (name_of p.pass) (log_at p)) [] told_of (map told_of c.args.keepers.now)
          l.keepers l.yielded keeper.result after pass l.invariant.told
          (omega (arith, turn.0, passes, keepers)) (keeper.is ∙ ap (λ i. get_or l.keepers i keeper.result) next)
          (did.told ∙ ap (λ k. told_of k ++ named (name_of pass.pass) (log_at pass)) (sym keeper.is));
      seen =
          ap (λ i. map seens_of (set l.keepers i after)) next
          ∙ each-back (λ seen p. seen ++ seen_at p ∷ []) [] seens_of (map seens_of c.args.keepers.now)
          l.keepers l.yielded keeper.result after pass l.invariant.seen
          (omega (arith, turn.0, passes, keepers)) (keeper.is ∙ ap (λ i. get_or l.keepers i keeper.result) next)
          (did.seen ∙ ap (λ k. seens_of k ++ seen_at pass ∷ []) (sym keeper.is));
    }

pub returns-clause-out : goal.returns-clause-out
returns-clause-out c =
    let l = c.loop-pass in
    let from = c.into_iter-pass-iterator.ensures.into_iter_gives in
    let all = YieldsList-from_vec {s = c.into_iter-pass-iterator.result} c.args.passes.items from.0
    (from.1 ∙ c.args.passes.ok.0) in
    let end = YieldsList-end all l.yielded _ l.yielded_by _ c.next.new.self c.in-None.is c.next.ensures.steps in
    all-whole (IsOut (c.args._out - 1)) l.keepers l.seat
    (omega (
      arith,
      AllZip-long IsKeeper c.args.locks.now l.keepers l.invariant.keepers,
      AllZip-long IsReady c.args.locks.now c.args.passes.items c.requires.passes,
      l.invariant.next,
      ap length (sym (map-id l.yielded) ∙ end.0),
    ))
    l.invariant.out
