-- Numbers that several passes add to one, as the tests have it.
use Rattle.std.proofs.Common.{◌≡◌, ◌+◌, ◌++◌, ℕ, List, [], ◌∷◌, ap, ◌∙◌, arith}
use Rattle.std.specs.Prelude.{sum}
use Rattle.std.proofs.lemmas.List.Sums.{sum_by-append, sum_by-cons}
use Rattle.told_lock.specs.Deeds.{HasRun, Leads, LogsWeighAll, Named, deeds_in, named}
use Rattle.test_lock.specs.Adding.{Added}
use Rattle.told_lock.proofs.Logs.{all-more}

-- numbers that were added one after the other
pub added : (x y : ℕ) (cs : List ℕ) → HasRun Added x cs y → y ≡ x + sum cs
added x y [] run = omega (arith, run)
added x y (c ∷ cs) run =
    let rest = added run.0 y cs run.2 in
    let one : run.0 ≡ x + c = run.1 in
    let all = sum_by-cons (λ (n : ℕ). n) c cs in omega (arith, rest, one, all)

-- the number at last is the first one and all that the passes told
pub last-is : LogsWeighAll Added → (first last : ℕ) (told : Named ℕ) (seen : List (Named ℕ)) → Leads Added first told seen last
    → last ≡ first + sum (deeds_in told)
last-is law first last told seen leads =
    let weight = law first last told seen (λ x. x) leads in
    let sums = added first last (deeds_in leads.order) leads.run in omega (arith, weight, sums)

-- what two logs weigh
pub both : (n m : ℕ) (xs ys : List ℕ) → sum (deeds_in (([] ++ named n xs) ++ named m ys)) ≡ sum xs + sum ys
both n m xs ys =
    ap sum (all-more ([] ++ named n xs) m ys ∙ ap (λ (l : List ℕ). l ++ ys) (all-more [] n xs))
    ∙ sum_by-append (λ (x : ℕ). x) xs ys
