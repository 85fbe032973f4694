use Rattle.std.proofs.Common.{◌≡◌, length, sym, ap, arith}
use Rattle.like_tables.specs.Share.{share_of}
use Rattle.like_tables.proofs.Homes.{homes-push, homes_below-other, homes_below-own}
use Rattle.like_tables.proofs.Owned.{homes_below-le, homes_below-zero}
use Rattle.like_tables.proofs.share.UserShare.new.Goals as goal
use Rattle.like_tables.proofs.share.UserShare.new.Goals.{then-submitter-workers, else-submitter-workers}

pub loop-submitter-init : goal.loop-submitter-init
loop-submitter-init c = record {
  homes = sym (homes_below-zero _);
  len = ap length c.in_ok-homes_below.ensures.items;
  below = λ n less. absurd (omega (arith, less));
}

pub overflow_add-homes : goal.overflow_add-homes
overflow_add-homes c =
    let s = share_of c.args.users c.args.submitters c.args.workers c.args.worker in
    omega (arith, c.loop-submitter.invariant.homes, homes_below-le s c.loop-submitter.submitter)

pub loop-submitter-preserved : goal.loop-submitter-preserved
loop-submitter-preserved c =
    let s = share_of c.args.users c.args.submitters c.args.workers c.args.worker in
    let i = c.loop-submitter.invariant in
    record {
      homes = elim c.if-submitter-workers.branch [
        | then-submitter-workers w ↦
            omega (arith, w.homes-is, i.homes, homes_below-own s c.loop-submitter.submitter w.if-submitter-workers.true)
        | else-submitter-workers w ↦
            omega (
              arith,
              w.homes-is,
              i.homes,
              homes_below-other s c.loop-submitter.submitter w.if-submitter-workers.false,
            )
      ];
      len = omega (arith, i.len, c.in_ok-push.ensures.len);
      below = λ n less. rw c.in_ok-push.ensures.items (homes-push s _ _ _ i.len i.below i.homes n less);
    }

pub invariant_of-result : goal.invariant_of-result
invariant_of-result c =
    let s = share_of c.args.users c.args.submitters c.args.workers c.args.worker in
    let l = c.loop-submitter in
    let i = l.invariant in
    let all : l.submitter ≡ c.args.submitters = omega (arith, l.auto.submitter-end, c.loop-submitter-test.false) in
    record {
      lawful = record { submitters = c.requires.submitters; workers = c.requires.workers };
      fits = omega (arith, c.ranges.submitters);
      few = omega (arith, c.ranges.users);
      enough = omega (arith, i.len, all, c.in_ok-push-2.ensures.len, c.push-2.new.self.ok.0, l.homes_below.ok.0);
      below = λ n within.
          rw c.in_ok-push-2.ensures.items (homes-push s _ _ _ i.len i.below i.homes n (omega (arith, within, all)));
    }
