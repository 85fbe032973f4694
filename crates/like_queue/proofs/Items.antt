-- What stands at a place of a plan's items.
use Rattle.std.proofs.Common.{◌≡◌, ℕ, zero, suc, ◌+◌, ◌≤◌, List, [], ◌∷◌, length, slice_get, Some, None, refl, sym, ap, ◌∙◌, arith}
use Rattle.std.proofs.lemmas.Option.{same_Some}
use Rattle.like_requests.specs.declared.request.Numbered.{Numbered}
use Rattle.like_requests.specs.declared.request.Request.{Request}
use Rattle.like_queue.specs.Rule.{Item, items_from}

-- at the place of a request, that with its number
pub item-of-request : (n : ℕ) (plan : List Request) (k : ℕ) (r : Request)
    → slice_get plan k ≡ Some r
    → slice_get (items_from n plan) k ≡ Some (Some (record { number = n + k; request = r }))
item-of-request n [] zero r h = absurd (cc h)
item-of-request n [] (suc k) r h = absurd (cc h)
item-of-request n (x ∷ plan) zero r h =
    let same : x ≡ r = same_Some x r h in
    let first : n ≡ n + 0 = omega arith in
    λ i. Some (Some (record { number = first i; request = same i }))
item-of-request n (x ∷ plan) (suc k) r h =
    let on : (n + 1) + k ≡ n + suc k = omega arith in
    item-of-request (n + 1) plan k r h ∙ ap (λ m. Some (Some (record { number = m; request = r }))) on

-- behind the last one, the end mark
pub item-of-end : (n : ℕ) (plan : List Request) → slice_get (items_from n plan) (length plan) ≡ Some None
item-of-end n [] = refl
item-of-end n (x ∷ plan) = item-of-end (n + 1) plan

-- and what stands there is nothing else
pub request-of-item : (n : ℕ) (plan : List Request) (k : ℕ) (ask : Numbered)
    → slice_get (items_from n plan) k ≡ Some (Some ask)
    → (slice_get plan k ≡ Some ask.request) × (ask.number ≡ n + k)
request-of-item n [] zero ask h = absurd (cc h)
request-of-item n [] (suc k) ask h = absurd (cc h)
request-of-item n (x ∷ plan) zero ask h =
    let same : record { number = n; request = x } ≡ ask = same_Some _ _ (same_Some _ _ h) in
    let first : n ≡ n + 0 = omega arith in
    (ap (λ (a : Numbered). Some a.request) same, sym (ap (λ (a : Numbered). a.number) same) ∙ first)
request-of-item n (x ∷ plan) (suc k) ask h =
    let on : (n + 1) + k ≡ n + suc k = omega arith in
    let rest = request-of-item (n + 1) plan k ask h in
    (rest.0, rest.1 ∙ on)

pub end-of-item : (n : ℕ) (plan : List Request) (k : ℕ) → slice_get (items_from n plan) k ≡ Some None → k ≡ length plan
end-of-item n [] zero h = refl
end-of-item n [] (suc k) h = absurd (cc h)
end-of-item n (x ∷ plan) zero h = absurd (cc h)
end-of-item n (x ∷ plan) (suc k) h = ap suc (end-of-item (n + 1) plan k h)

pub item-within : (n : ℕ) (plan : List Request) (k : ℕ) (item : Item)
    → slice_get (items_from n plan) k ≡ Some item
    → k ≤ length plan
item-within n [] zero item h = omega arith
item-within n [] (suc k) item h = absurd (cc h)
item-within n (x ∷ plan) zero item h = omega arith
item-within n (x ∷ plan) (suc k) item h = let rest = item-within (n + 1) plan k item h in omega arith

-- where no request stands at a place, all stand before it
pub all-sent : (plan : List Request) (k : ℕ) → slice_get plan k ≡ None → length plan ≤ k
all-sent [] k h = omega arith
all-sent (x ∷ plan) zero h = absurd (cc h)
all-sent (x ∷ plan) (suc k) h = let rest = all-sent plan k h in omega arith
