use Rattle.std.proofs.Common.{◌≡◌, ℕ, ◌-◌, ◌*◌, ◌%◌, ◌^◌, ◌==◌, bit_and, ap, ◌∙◌, arith}
use Rattle.std.proofs.lemmas.Nat.{one_shl}
use Rattle.like_core.proofs.Below.{low_bits}
use Rattle.like_core.proofs.form.has_all.Goals as goal

pub returns : goal.returns
returns c =
    let mask = c.args.mask in
    let n : ℕ = c.args.workers in
    let full : 1 * 2 ^ n % 18446744073709551616 - 1 ≡ 2 ^ n - 1 =
    let few = c.requires in ap (λ (k : ℕ). k - 1) (one_shl n 64 (omega arith)) in
    (λ m. bit_and mask (full m) == full m) ∙ low_bits mask n
