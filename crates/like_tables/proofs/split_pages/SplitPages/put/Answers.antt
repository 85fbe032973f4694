use Rattle.std.proofs.Common.{arith, length, ◌<◌, Bool, cond, ap, sym, eq-eqb}
use Rattle.like_limits.specs.Buckets.{bucket}
use Rattle.like_tables.proofs.Tagged.{AreTags-set, bucket-lt, table_by-put}
use Rattle.like_tables.proofs.split_pages.SplitPages.put.Goals as goal

pub returns : goal.returns
returns c =
    let i = c.self.inside in
    let lt : bucket i.factor c.args.page < length i.tags =
    omega (arith, bucket-lt i.factor c.args.page, c.self.invariant.all) in
    rw (← c.self.view_is, c.bucket-bucket.ensures) (table_by-put i.factor i.tags c.args.page lt)

pub invariant_of-self : goal.invariant_of-self
invariant_of-self c =
    let i = c.self.inside in
    let b = c.bucket-bucket.result in
    AreTags-set i.factor i.tags i.used c.insert.new.self b c.args.page 1 c.self.invariant
    (omega (arith, bucket-lt i.factor c.args.page, c.bucket-bucket.ensures)) c.insert.ensures
    (sym (ap (λ (t : Bool). cond t 1 0) (eq-eqb (bucket i.factor c.args.page) b (sym c.bucket-bucket.ensures))))
