use Rattle.std.proofs.Common.{ℕ, ◌^◌, ◌<◌, ◌≤◌, length, subst, sym, arith, eq-eqb}
use Rattle.std.proofs.lemmas.Bool.{eqb-true, le-leb}
use lib.Pow.{pow_mono}
use Rattle.like_core.proofs.word.Masks.{shr_none}
use Rattle.like_core.proofs.pure_core.Core.has_pages.Goals as goal

pub returns-then-pages-ge-MASK_BITS : goal.returns-then-pages-ge-MASK_BITS
returns-then-pages-ge-MASK_BITS c =
    let n : ℕ = length c.args.self.now.counts in
    let fits = c.ranges.mask.fits in
    let is = c.len-pages.ensures in
    let many : 64 ≤ n = (let h = c.if-pages-ge-MASK_BITS.true in omega arith) in
    let wide : 2 ^ 64 ≤ 2 ^ n = pow_mono many in
    (λ _. omega arith, λ _. le-leb 64 c.len-pages.result c.if-pages-ge-MASK_BITS.true)

pub returns-else-pages-ge-MASK_BITS : goal.returns-else-pages-ge-MASK_BITS
returns-else-pages-ge-MASK_BITS c =
    let n : ℕ = length c.args.self.now.counts in
    let none = shr_none c.args.mask c.len-pages.result in
    let P : ℕ → Type 0 = λ k. c.args.mask < 2 ^ k in (
      λ is. subst P c.len-pages.ensures (none.0 (eqb-true _ 0 is)),
      λ below. eq-eqb _ 0 (none.1 (subst P (sym c.len-pages.ensures) below)),
    )
