use Rattle.std.proofs.Common.{◌++◌, ℕ, ap, ◌∙◌, arith}
use Rattle.std.specs.Prelude.{sum}
use Rattle.told_lock.specs.Deeds.{Named, deeds_in, named}
use Rattle.told_lock.specs.Rights.{log_of, name_of}
use Rattle.test_lock.proofs.Adding.{both, last-is}
use Rattle.test_lock.proofs.adds.added_by_two.Goals as goal

pub returns : goal.returns
returns g c =
    let a = c.join-a.result.0.0 in
    let b = c.join-a.result.1.0 in
    let last = last-is c.logs_weigh_all.ensures _ _ _ _ c.close.ensures in
    let first = c.in_ok-lock.ensures.first in
    let none = c.new_pass-b.ensures.told ∙ c.new_pass-a.ensures.told ∙ c.in_ok-lock.ensures.told in
    let one = c.take_back.ensures.told ∙ ap (λ (l : Named ℕ). l ++ named (name_of a) (log_of a)) none in
    let two = c.take_back-2.ensures.told ∙ ap (λ (l : Named ℕ). l ++ named (name_of b) (log_of b)) one in
    let told = ap (λ (l : Named ℕ). sum (deeds_in l)) two ∙ both (name_of a) (name_of b) (log_of a) (log_of b) in
    let new-a = ap sum c.new_pass-a.ensures.log in
    let new-b = ap sum c.new_pass-b.ensures.log in
    let by-a = c.join-a.ensures.first.1 in
    let by-b = c.join-a.ensures.second.1 in
    omega (arith, last, first, told, new-a, new-b, by-a, by-b)
