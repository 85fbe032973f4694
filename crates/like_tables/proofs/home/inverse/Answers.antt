use Rattle.std.proofs.Common.{◌≡◌, ◌*◌, ◌%◌, ◌^◌, ◌+◌, ◌<◌, sym, subst, arith}
use Rattle.std.proofs.lemmas.Nat.{one_shl}
use Rattle.like_tables.proofs.Inverses.{IsInverse, IsInverse-more, IsInverse-same}
use Rattle.like_tables.proofs.home.inverse.Goals as goal
use Rattle.like_tables.proofs.home.inverse.Goals.{then-odd-inverse-ne1, else-odd-inverse-ne1}

pub loop-bit-preserved : goal.loop-bit-preserved
loop-bit-preserved c =
    let l = c.loop-bit in
    let power = one_shl l.bit 64 (omega (arith, c.loop-bit-test.true)) in
    elim c.if-odd-inverse-ne1.branch [
      | then-odd-inverse-ne1 w ↦
          let more = IsInverse-more c.args.odd l.inverse l.bit _ c.requires (omega (arith, l.auto.bit)) power l.invariant
          w.if-odd-inverse-ne1.true in
          subst (λ n. IsInverse c.args.odd n (l.bit + 1)) (sym w.inverse-is) more
      | else-odd-inverse-ne1 w ↦
          subst (λ n. IsInverse c.args.odd n (l.bit + 1)) (sym w.inverse-is)
          (IsInverse-same c.args.odd l.inverse l.bit _ power l.invariant w.if-odd-inverse-ne1.false)
    ]

pub overflow_cast-result : goal.overflow_cast-result
overflow_cast-result c =
    let l = c.loop-bit in
    let last : l.bit ≡ 32 = omega (arith, c.loop-bit-test.false, l.auto.bit-end, l.auto.bit) in
    let below = subst (λ n. l.inverse < 2 ^ n) last l.invariant.below in
    omega (arith, below)

pub returns : goal.returns
returns c =
    let l = c.loop-bit in
    let last : l.bit ≡ 32 = omega (arith, c.loop-bit-test.false, l.auto.bit-end, l.auto.bit) in
    subst (λ n. c.args.odd * l.inverse % 2 ^ n ≡ 1) last l.invariant.one
