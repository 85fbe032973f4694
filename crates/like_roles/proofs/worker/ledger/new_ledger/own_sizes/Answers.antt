use Rattle.std.proofs.Common.{◌≡◌, ◌+◌, ◌∷◌, [], ◌++◌, length, get_or, sum, ◌∙◌, arith, mul-le-mul_right}
use Rattle.std.proofs.lemmas.List.{length-append}
use Rattle.std.proofs.lemmas.List.Sums.{sum_by-append}
use Rattle.like_roles.proofs.Made.{own-at, own-dealt, own-each, own-there}
use Rattle.like_roles.proofs.worker.ledger.new_ledger.own_sizes.Goals as goal

pub loop-submitter-preserved : goal.loop-submitter-preserved
loop-submitter-preserved c =
    let i = c.loop-submitter.invariant in
    let own = c.loop-submitter.own.items in
    let sizes = c.args.sizes.now in
    let submitter = c.loop-submitter.submitter in
    let x = get_or sizes submitter 0 in
    let items = c.in_ok-push.ensures.items in
    let len : length (own ++ x ∷ []) ≡ length own + 1 = length-append own (x ∷ []) in
    let total : sum (own ++ x ∷ []) ≡ sum own + x = sum_by-append (λ y. y) own (x ∷ []) ∙ omega arith in
    let fits = c.requires.small submitter 0 c.loop-submitter-test.true in
    let at_most = mul-le-mul_right {m = 1} {n = c.args.workers} (length own) c.requires.some in
    rw items (record {
      at = rw len (own-at c.args.workers c.args.worker submitter (length own) i.at);
      each = own-each sizes own c.args.workers c.args.worker submitter i.at i.each;
      there = own-there sizes own c.args.workers c.args.worker submitter x i.at c.loop-submitter-test.true i.there;
      short = omega (arith, i.at);
      few = omega (arith, i.few);
    })

pub returns-clause-sizes : goal.returns-clause-sizes
returns-clause-sizes c =
    let i = c.loop-submitter.invariant in
    own-dealt c.args.sizes.now c.loop-submitter.own.items c.args.workers c.args.worker c.requires.some i.each i.there
    (omega (arith, i.at, c.loop-submitter-test.false))

pub returns-clause-few : goal.returns-clause-few
returns-clause-few c =
    let i = c.loop-submitter.invariant in
    omega (arith, i.few, i.short, c.requires.few_submitters)

pub returns-clause-there : goal.returns-clause-there
returns-clause-there c = c.loop-submitter.invariant.there

pub overflow_add-submitter : goal.overflow_add-submitter
overflow_add-submitter c = omega (arith, c.loop-submitter-test.true, c.requires.few_workers, c.requires.few_submitters)
