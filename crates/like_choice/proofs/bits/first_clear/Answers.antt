use Rattle.std.proofs.Common.{◌+◌, ◌^◌, ◌<◌, ◌==◌, ap, ◌∙◌, arith, w64}
use Rattle.std.specs.Int.{bit_at}
use Rattle.std.proofs.lemmas.Bool.{eq-eqb}
use Rattle.std.proofs.lemmas.Nat.Bits.{bit_at_ones, bit_at-trailing_ones}
use Rattle.like_choice.proofs.bits.first_clear.Goals as goal

pub returns-then-bits-eq18446744073709551615-clause-none :
    goal.returns-then-bits-eq18446744073709551615-clause-none
returns-then-bits-eq18446744073709551615-clause-none c = λ slot below.
    eq-eqb _ 1 (ap (λ w. bit_at w slot) c.if-bits-eq18446744073709551615.true ∙ bit_at_ones 64 slot below)

pub returns-else-bits-eq18446744073709551615-clause-some :
    goal.returns-else-bits-eq18446744073709551615-clause-some
returns-else-bits-eq18446744073709551615-clause-some c =
    let some : c.args.bits + 1 < 2 ^ 64 = omega arith in
    let found = bit_at-trailing_ones w64 c.args.bits some in
    rw c.trailing_ones.ensures (found.0, ap (λ b. b == 1) found.1)
