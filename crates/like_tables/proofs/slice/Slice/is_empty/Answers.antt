use Rattle.std.proofs.Common.{◌≡◌, ◌↔◌, ℕ, List, Bool, true, false, not, length, All, Option, Some, None, IfNone, IfSome, IsTrue, is_some, sum, arith, rules, ◌∙◌}
use Rattle.std.proofs.lemmas.List.{get_or_default}
use Rattle.std.proofs.lemmas.List.Sums.{get_or-le-sum_by, sum_by-le}
use Rattle.like_tables.specs.Liked.{AreUnliked, IsNextLiked}
use Rattle.like_tables.proofs.slice.Slice.is_empty.Goals as goal

-- a sum of numbers is 0 exactly where each of them is
All-zero : (xs : List ℕ) → sum xs ≡ 0 → All (λ likes. likes ≡ 0) xs
All-zero xs e k d l = omega (arith, get_or-le-sum_by (λ x. x) xs k d l)

sum-zero : (xs : List ℕ) → All (λ likes. likes ≡ 0) xs → sum xs ≡ 0
sum-zero xs all = omega (arith, sum_by-le (λ x. x) 0 xs (λ k d l. omega (arith, all k d l)))

-- where no page has a like, all numbers are 0
All-unliked : (xs : List ℕ) → AreUnliked xs 0 (length xs) → All (λ likes. likes ≡ 0) xs
All-unliked xs none k d l = get_or_default xs k d 0 l ∙ none k (omega arith) l

-- the sum is 0 exactly where no page is found that has a like
sum-found : (xs : List ℕ) (found : Option ℕ) (none : Bool) → is_some found ≡ not none
    → IfSome found (IsNextLiked xs 0) → IfNone found (AreUnliked xs 0 (length xs))
    → IsTrue none ↔ (sum xs ≡ 0)
sum-found xs None true e next unliked = (λ _. sum-zero xs (All-unliked xs unliked), λ _. search rules)
sum-found xs None false e next unliked = absurd (cc)
sum-found xs (Some page) true e next unliked = absurd (cc)
sum-found xs (Some page) false e next unliked =
    (λ t. absurd (cc), λ zero. absurd (next.liked (All-zero xs zero page 0 next.there)))

pub returns-clause-total : goal.returns-clause-total
returns-clause-total c = sum-found _ _ _ c.is_none.ensures c.next.ensures.next c.next.ensures.none

pub returns-clause-pages : goal.returns-clause-pages
returns-clause-pages c =
    let total = sum-found _ _ _ c.is_none.ensures c.next.ensures.next c.next.ensures.none in
    (λ e. All-zero _ (total.0 e), λ all. total.1 (sum-zero _ all))
