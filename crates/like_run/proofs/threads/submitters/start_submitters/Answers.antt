use Rattle.std.proofs.Common.{◌≡◌, ◌≢◌, ◌≤◌, ◌+◌, ◌++◌, ◌∷◌, [], ◌∙◌, ℕ, true≢false, List, length, sym, ap, arith, vec_capacity}
use Rattle.std.proofs.lemmas.Iterator.Adapters.{YieldsList-from_vec}
use Rattle.std.proofs.lemmas.Iterator.Consumers.{YieldsList-end, YieldsList-turn}
use Rattle.std.proofs.lemmas.List.{length_push}
use Rattle.like_run.proofs.threads.submitters.start_submitters.Goals as goal

pub overflow_cast-submitter : goal.overflow_cast-submitter
overflow_cast-submitter g c =
    let l = c.loop-end in
    let from = c.into_iter-end-iterator.ensures.into_iter_gives in
    let all = YieldsList-from_vec {s = c.into_iter-end-iterator.result} c.args.ends.items from.0
    (from.1 ∙ c.args.ends.ok.0) in
    let turn = YieldsList-turn all l.yielded _ l.yielded_by _ c.next.new.self c.in-Some.end c.in-Some.is
    c.next.ensures.steps in
    omega (arith, turn.0, c.len-submitter.ensures, l.threads.ok.0, l.invariant.many, c.requires.new.few)

pub push_reserved-requires : goal.push_reserved-requires
push_reserved-requires g c =
    let l = c.loop-end in
    let from = c.into_iter-end-iterator.ensures.into_iter_gives in
    let all = YieldsList-from_vec {s = c.into_iter-end-iterator.result} c.args.ends.items from.0
    (from.1 ∙ c.args.ends.ok.0) in
    let turn = YieldsList-turn all l.yielded _ l.yielded_by _ c.next.new.self c.in-Some.end c.in-Some.is
    c.next.ensures.steps in
    omega (arith, turn.0, l.threads.ok.0, l.invariant.many, l.invariant.room, c.requires.room)

-- one thread more is no more than there may be, and there is one for each end
one-more : {A B : Type 0} (old new : List A) (thread : A) (done : List B) (end : B) (n many most : ℕ)
    → new ≡ old ++ thread ∷ []
    → length old ≤ most
    → n ≢ most
    → n ≡ many
    → many ≡ length old
    → length old ≡ length done
    → (length new ≤ most) × (length new ≡ length (done ++ end ∷ []))
one-more old new thread done end n many most pushed few other same sized each = (
  omega (arith, ap length pushed, length_push old thread, few, other, same, sized),
  ap length pushed ∙ length_push old thread ∙ ap (λ k. k + 1) each ∙ sym (length_push done end),
)

pub loop-end-preserved : goal.loop-end-preserved
loop-end-preserved g c =
    let l = c.loop-end in
    let more = one-more l.threads.items c.push_reserved.new.self.items c.in-Some-start_submitter.thread l.yielded
    c.in-Some.end c.len.result _ c.args.most c.push_reserved.ensures.items l.invariant.few c.if-len-most.false
    c.len.ensures l.threads.ok.0 l.invariant.many in
    record { few = more.0; room = ◌∙◌ {a = vec_capacity c.push_reserved.new.self} c.push_reserved.ensures.capacity l.invariant.room; many = more.1 }

pub returns-then-len-most-clause-few : goal.returns-then-len-most-clause-few
returns-then-len-most-clause-few g c = c.loop-end.invariant.few

pub returns-clause-few : goal.returns-clause-few
returns-clause-few g c = c.loop-end.invariant.few

pub returns-clause-many : goal.returns-clause-many
returns-clause-many g c = λ _.
    let l = c.loop-end in
    let from = c.into_iter-end-iterator.ensures.into_iter_gives in
    let all = YieldsList-from_vec {s = c.into_iter-end-iterator.result} c.args.ends.items from.0
    (from.1 ∙ c.args.ends.ok.0) in
    let end = YieldsList-end all l.yielded _ l.yielded_by _ c.next.new.self c.in-None.is c.next.ensures.steps in
    l.invariant.many ∙ end.1

pub returns-then-len-most-clause-many : goal.returns-then-len-most-clause-many
returns-then-len-most-clause-many g c = λ started. absurd (true≢false (sym started))
