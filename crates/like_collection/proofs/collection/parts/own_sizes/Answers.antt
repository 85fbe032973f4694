use Rattle.std.proofs.Common.{◌≡◌, ◌<◌, ◌+◌, ◌++◌, ◌∷◌, ◌∙◌, [], ℕ, List, ap, arith, get_or, length, sym, take}
use Rattle.std.proofs.lemmas.List.{length-take-le, take_more}
use Rattle.like_collection.specs.Parts.{own, own_sizes}
use Rattle.like_collection.proofs.Parts.{own_sizes-more}
use Rattle.like_collection.proofs.collection.parts.own_sizes.Goals as goal

pub loop-submitter-preserved : goal.loop-submitter-preserved
loop-submitter-preserved c =
    let k : ℕ = c.loop-submitter.submitter in
    let sizes : List ℕ = c.args.sizes.now in
    let workers : ℕ = c.args.workers in
    let worker : ℕ = c.args.worker in
    let there : k < length sizes = omega (arith, c.loop-submitter-test.true, c.loop-submitter.auto.submitter-end) in
    let front : length (take k sizes) ≡ k = length-take-le k sizes (omega (arith, there)) in
    let more : own_sizes workers worker (take (k + 1) sizes)
    ≡ own_sizes workers worker (take k sizes) ++ own workers worker (k, get_or sizes k 0) ∷ [] =
    ap (own_sizes workers worker) (take_more sizes k 0 there)
    ∙ own_sizes-more workers worker (take k sizes) (get_or sizes k 0)
    ∙ ap (λ n. own_sizes workers worker (take k sizes) ++ own workers worker (n, get_or sizes k 0) ∷ []) front in
    c.in_ok-push.ensures.items ∙ ap (λ size. c.loop-submitter.own.items ++ size ∷ []) c.own_size.ensures
    ∙ ap (λ front. front ++ own workers worker (k, get_or sizes k 0) ∷ []) c.loop-submitter.invariant ∙ sym more
