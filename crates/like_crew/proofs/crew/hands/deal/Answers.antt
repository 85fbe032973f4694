use Rattle.std.proofs.Common.{◌≡◌, ◌<◌, ◌≤◌, ◌+◌, ◌^◌, [], ℕ, Fits, w64, List, Vec, Global, length, get_or, map, refl, sym, ap, ◌∙◌, subst, arith, ◌%◌}
use Rattle.std.proofs.Math.Nat.{mod-lt}
use Rattle.std.proofs.lemmas.List.{length-set, length_push, map-id}
use Rattle.std.proofs.lemmas.Iterator.Adapters.{YieldsList-from_vec}
use Rattle.std.proofs.lemmas.Iterator.Consumers.{YieldsList-end, YieldsList-turn}
use Rattle.like_tables.specs.Share.{dealt}
use Rattle.like_tables.proofs.Dealt.{is-dealt}
use Rattle.like_crew.proofs.lists.Deals.{deal-none, deal-pushed}
use Rattle.like_crew.proofs.crew.hands.deal.Goals as goal

-- what is in a hand
abbrev held : {A : Type 0} → Vec A Global → List A
held hand = hand.items

pub loop-item-init : goal.loop-item-init
loop-item-init g c = record {
  next = refl;
  sized = c.in_ok-hands.ensures.len;
  dealt = deal-none held c.in_ok-hands.hands.items c.args.workers c.in_ok-hands.ensures.none;
}

pub loop-item-preserved : goal.loop-item-preserved
loop-item-preserved g c =
    let l = c.loop-item in
    record {
      next = omega (arith, l.invariant.next, length_push l.yielded c.in-Some.item);
      sized = length-set l.hands.items (l.submitter % c.args.workers) c.push.new.self ∙ l.invariant.sized;
      dealt = deal-pushed held l.hands.items c.index_mut.result.now c.push.new.self l.yielded c.in-Some.item
          c.args.workers (l.submitter % c.args.workers)
          c.requires l.invariant.sized
          (ap (λ n. n % c.args.workers) l.invariant.next) c.index_mut.ensures.value c.in_ok-push.ensures.items
          l.invariant.dealt;
    }

pub returns-clause-dealt : goal.returns-clause-dealt
returns-clause-dealt g c =
    let from = c.into_iter-item-iterator.ensures.into_iter_gives in
    let all = YieldsList-from_vec {s = c.into_iter-item-iterator.result} c.args.items.items from.0
    (from.1 ∙ c.args.items.ok.0) in
    let t = YieldsList-end all c.loop-item.yielded _ c.loop-item.yielded_by _ c.next.new.self c.in-None.is
    c.next.ensures.steps in
    let whole : c.loop-item.yielded ≡ c.args.items.items = sym (map-id c.loop-item.yielded) ∙ t.0 in
    λ worker below.
    subst (λ xs. get_or (map held c.loop-item.hands.items) worker [] ≡ dealt c.args.workers worker xs) whole
    (is-dealt c.args.workers worker c.loop-item.yielded (get_or (map held c.loop-item.hands.items) worker []) c.requires
    (c.loop-item.invariant.dealt worker below))

pub index_mut-requires : goal.index_mut-requires
index_mut-requires g c =
    subst (λ n. c.loop-item.submitter % c.args.workers < n) (sym (c.loop-item.hands.ok.0 ∙ c.loop-item.invariant.sized))
    (mod-lt c.loop-item.submitter c.requires)

-- the next number of a submitter fits
fits-next : (submitter k many len cap : ℕ) → submitter ≡ k → k < many → len ≡ many → len ≤ cap → cap < 2 ^ 63
    → Fits w64 (submitter + 1)
fits-next submitter k many len cap same below sized within small = omega arith

pub overflow_add-submitter : goal.overflow_add-submitter
overflow_add-submitter g c =
    let l = c.loop-item in
    let from = c.into_iter-item-iterator.ensures.into_iter_gives in
    let all = YieldsList-from_vec {s = c.into_iter-item-iterator.result} c.args.items.items from.0
    (from.1 ∙ c.args.items.ok.0) in
    let turn = YieldsList-turn all l.yielded _ l.yielded_by _ c.next.new.self c.in-Some.item c.in-Some.is
    c.next.ensures.steps in
    fits-next l.submitter (length l.yielded) (length c.args.items.items) c.args.items.len c.args.items.cap
    l.invariant.next turn.0 c.args.items.ok.0 c.args.items.ok.1 c.args.items.small
