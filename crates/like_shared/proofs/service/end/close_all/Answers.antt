use Rattle.std.proofs.Common.{◌∙◌, ◌++◌, ◌∷◌, [], List, length, length-append, map, sym, ap, subst, arith}
use Rattle.std.specs.List.{zip}
use Rattle.std.proofs.lemmas.Iterator.{YieldsList-from_zip}
use Rattle.std.proofs.lemmas.Iterator.Adapters.{YieldsList-from_vec}
use Rattle.std.proofs.lemmas.Iterator.Consumers.{YieldsList-end, YieldsList-turn}
use Rattle.std.proofs.lemmas.List.{map-id}
use Rattle.std.proofs.lemmas.List.Elements.{All-get_or}
use Rattle.like_live.specs.LiveView.{LiveView}
use Rattle.like_shared.specs.Closed.{AreEndsOf}
use Rattle.like_shared.proofs.Closing.{IsBack, Kept, all-back, ends-kept, ends-whole, first_at, seen_in, told_at}
use Rattle.like_shared.proofs.service.end.close_all.Goals as goal

pub close-requires-clause-keeper : goal.close-requires-clause-keeper
close-requires-clause-keeper c =
    let l = c.loop-lock in
    let s = c.into_iter-lock-iterator.result in
    let given = c.into_iter-lock-iterator.ensures.into_iter_gives in
    let first = c.zip-lock-items.ensures.first in
    let second = c.zip-lock-items.ensures.second in
    let all = YieldsList-from_zip {s = s}
    (YieldsList-from_vec {s = s.a} c.args.locks.items
    (ap (λ z. z.a.rest.items) given ∙ ap (λ z. z.rest.items) first ∙ c.into_iter.ensures.rest)
    (ap (λ z. z.a.rest.len) given ∙ ap (λ z. z.rest.len) first ∙ c.into_iter.ensures.len ∙ c.args.locks.ok.0))
    (YieldsList-from_vec {s = s.b} c.args.keepers.items (ap (λ z. z.b.rest.items) given ∙ second.0)
    (ap (λ z. z.b.rest.len) given ∙ second.1 ∙ c.args.keepers.ok.0)) in
    let pair : Kept = (c.in-Some.lock, c.in-Some.keeper) in
    let turn = YieldsList-turn all l.yielded _ l.yielded_by _ c.next.new.self pair c.in-Some.is c.next.ensures.steps in
    (subst IsBack (sym turn.1)
    (All-get_or IsBack (zip c.args.locks.items c.args.keepers.items) (length l.yielded) pair turn.0
    (all-back c.args.locks.items c.args.keepers.items c.requires.keepers c.requires.passes))).0

pub loop-lock-preserved : goal.loop-lock-preserved
loop-lock-preserved c =
    let l = c.loop-lock in
    let more = l.yielded ++ (c.in-Some.lock, c.in-Some.keeper) ∷ [] in
    let pushed = c.push_reserved.ensures.items in
    record {
      ends = subst (AreEndsOf (map first_at more) (map told_at more) (map seen_in more)) (sym {A = List LiveView} pushed)
          (ends-kept l.yielded c.in-Some.lock c.in-Some.keeper l.back.items c.close.result l.invariant.ends
          c.close.ensures);
      len = omega (
        arith,
        ap length pushed,
        length-append l.back.items (c.close.result ∷ []),
        length-append l.yielded ((c.in-Some.lock, c.in-Some.keeper) ∷ []),
        l.invariant.len,
      );
      room = c.push_reserved.ensures.capacity ∙ l.invariant.room;
    }

pub returns : goal.returns
returns c =
    let l = c.loop-lock in
    let s = c.into_iter-lock-iterator.result in
    let given = c.into_iter-lock-iterator.ensures.into_iter_gives in
    let first = c.zip-lock-items.ensures.first in
    let second = c.zip-lock-items.ensures.second in
    let all = YieldsList-from_zip {s = s}
    (YieldsList-from_vec {s = s.a} c.args.locks.items
    (ap (λ z. z.a.rest.items) given ∙ ap (λ z. z.rest.items) first ∙ c.into_iter.ensures.rest)
    (ap (λ z. z.a.rest.len) given ∙ ap (λ z. z.rest.len) first ∙ c.into_iter.ensures.len ∙ c.args.locks.ok.0))
    (YieldsList-from_vec {s = s.b} c.args.keepers.items (ap (λ z. z.b.rest.items) given ∙ second.0)
    (ap (λ z. z.b.rest.len) given ∙ second.1 ∙ c.args.keepers.ok.0)) in
    let end = YieldsList-end all l.yielded _ l.yielded_by _ c.next.new.self c.in-None.is c.next.ensures.steps in
    ends-whole c.args.locks.items c.args.keepers.items l.yielded l.back.items c.requires.keepers
    (sym (map-id l.yielded) ∙ end.0) l.invariant.ends
