-- Each kind of step on a line's queue keeps its rule.
use Rattle.std.proofs.Common.{◌≡◌, ◌⊎◌, ℕ, zero, suc, ◌+◌, ◌≤◌, List, [], ◌∷◌, ◌++◌, length, set, slice_get, Some, refl, sym, ap, ◌∙◌, subst, inl, inr, ⊎_elim, append_assoc, length-append, arith}
use Rattle.std.proofs.lemmas.Option.{same_Some}
use mathlib.Core.Option.{some, some-injective, some-ne-none}
use lib.ListN.{get_elem?}
use Rattle.crossbeam_queue.specs.Fifo.{Forks, Learns, Pops, Pushes}
use Rattle.like_requests.specs.declared.request.Request.{Request}
use Rattle.like_queue.specs.declared.known.Known.{Known}
use Rattle.like_queue.specs.declared.known.Role.{Role}
use Rattle.like_queue.specs.declared.known.Role.TheVariants.{Unsplit, Sends, Takes}
use Rattle.like_queue.specs.Rule.{HasTwoEnds, IsLine, Item, items_of, known, one_more, unsplit}

-- the element behind a list
at-end : {A : Type 0} (xs ys : List A) (y : A) → slice_get (xs ++ y ∷ ys) (length xs) ≡ Some y
at-end [] ys y = refl
at-end (x ∷ xs) ys y = at-end xs ys y

from-end : {A : Type 0} (xs ys : List A) (y : A)
    → slice_get (xs ++ ys) (length xs) ≡ Some y
    → (rest : List A) × (ys ≡ y ∷ rest)
from-end [] [] y h = absurd (cc h)
from-end [] (z ∷ ys) y h = (ys, ap (λ w. w ∷ ys) (same_Some z y h))
from-end (x ∷ xs) ys y h = from-end xs ys y h

-- the passes of a line by their roles
of-one : (u v : Known) (pass : ℕ) → get_elem? (u ∷ []) pass ≡ some v → (pass ≡ 0) × (u ≡ v)
of-one u v zero e = (refl, some-injective u v e)
of-one u v (suc pass) e = absurd (some-ne-none v (sym e))

of-two : (s t v : Known) (pass : ℕ)
    → get_elem? (s ∷ t ∷ []) pass ≡ some v
    → ((pass ≡ 0) × (s ≡ v)) ⊎ ((pass ≡ 1) × (t ≡ v))
of-two s t v zero e = inl (refl, some-injective s v e)
of-two s t v (suc zero) e = inr (refl, some-injective t v e)
of-two s t v (suc (suc pass)) e = absurd (some-ne-none v (sym e))

role-of : (u v : Known) (role : Role) → u ≡ v → v.role ≡ role → u.role ≡ role
role-of u v role e r = ap (λ (x : Known). x.role) e ∙ r

module _ (items : List Item) (views : List Known) (pass : ℕ) (v : Known) (at : get_elem? views pass ≡ some v) where
  -- where a line has its two passes, this is one of them
  two-passes : (o : HasTwoEnds items views)
      → ((pass ≡ 0) × (known Sends o.plan (length o.taken + length items) ≡ v))
      ⊎ ((pass ≡ 1) × (known Takes o.plan (length o.taken) ≡ v))
  two-passes o = of-two _ _ v pass (ap (λ l. get_elem? l pass) (sym o.passes) ∙ at)

  one-pass : views ≡ unsplit ∷ [] → (pass ≡ 0) × (unsplit ≡ v)
  one-pass e = of-one unsplit v pass (ap (λ l. get_elem? l pass) (sym e) ∙ at)

  -- the pass that sends is the first, and the one that takes the second
  at-sends : v.role ≡ Sends → IsLine items views
      → (o : HasTwoEnds items views) × (pass ≡ 0) × (known Sends o.plan (length o.taken + length items) ≡ v)
  at-sends role h =
      ⊎_elim (λ (f : (items ≡ [])
      × (views ≡ unsplit ∷ [])). absurd (cc (role-of unsplit v Sends (one-pass f.1).1 role)))
      (λ (o : HasTwoEnds items views). ⊎_elim
      (λ (s : (pass ≡ 0) × (known Sends o.plan (length o.taken + length items) ≡ v)). (o, s.0, s.1))
      (λ (t : (pass ≡ 1)
      × (known Takes o.plan (length o.taken) ≡ v)). absurd (cc
      (role-of (known Takes o.plan (length o.taken)) v Sends t.1 role))) (two-passes o)) h

  at-takes : v.role ≡ Takes → IsLine items views
      → (o : HasTwoEnds items views) × (pass ≡ 1) × (known Takes o.plan (length o.taken) ≡ v)
  at-takes role h =
      ⊎_elim (λ (f : (items ≡ [])
      × (views ≡ unsplit ∷ [])). absurd (cc (role-of unsplit v Takes (one-pass f.1).1 role)))
      (λ (o : HasTwoEnds items views). ⊎_elim
      (λ (s : (pass ≡ 0)
      × (known Sends o.plan (length o.taken + length items) ≡ v)). absurd (cc
      (role-of (known Sends o.plan (length o.taken + length items)) v Takes s.1 role)))
      (λ (t : (pass ≡ 1) × (known Takes o.plan (length o.taken) ≡ v)). (o, t.0, t.1)) (two-passes o)) h

  at-unsplit : v.role ≡ Unsplit → IsLine items views → (items ≡ []) × (views ≡ unsplit ∷ []) × (pass ≡ 0)
  at-unsplit role h = ⊎_elim (λ (f : (items ≡ []) × (views ≡ unsplit ∷ [])). (f.0, f.1, (one-pass f.1).0))
      (λ (o : HasTwoEnds items views). ⊎_elim
      (λ (s : (pass ≡ 0)
      × (known Sends o.plan (length o.taken + length items) ≡ v)). absurd (cc
      (role-of (known Sends o.plan (length o.taken + length items)) v Unsplit s.1 role)))
      (λ (t : (pass ≡ 1)
      × (known Takes o.plan (length o.taken) ≡ v)). absurd (cc
      (role-of (known Takes o.plan (length o.taken)) v Unsplit t.1 role))) (two-passes o)) h

-- the queue is made, with its one pass
pub begins : IsLine [] (unsplit ∷ [])
begins = inl (refl, refl)

-- its pass is split
pub splits : (plan : List Request) (pass : ℕ) (v : Known)
    → v.role ≡ Unsplit
    → Forks IsLine pass v (known Sends plan 0) (known Takes plan 0)
splits plan pass v role items views h at =
    let s = at-unsplit items views pass v at role h in
    let made : HasTwoEnds [] (known Sends plan 0 ∷ known Takes plan 0 ∷ []) =
    record { plan = plan; taken = []; left = items_of plan; order = refl; passes = refl } in
    subst (λ xs. IsLine xs (set views pass (known Sends plan 0) ++ known Takes plan 0 ∷ [])) (sym s.0)
    (subst (λ l. IsLine [] (set l pass (known Sends plan 0) ++ known Takes plan 0 ∷ [])) (sym s.1)
    (subst (λ p. IsLine [] (set (unsplit ∷ []) p (known Sends plan 0) ++ known Takes plan 0 ∷ [])) (sym s.2)
    (inr made)))

-- an item is pushed: the next one of the plan
pub sends : (n pass : ℕ) (v : Known) (item : Item)
    → v.role ≡ Sends
    → slice_get (items_of v.plan) v.count ≡ Some item
    → Pushes IsLine n pass v item (λ after. after ≡ one_more v)
sends n pass v item role next items views room h at =
    let s = at-sends items views pass v at role h in
    let o : HasTwoEnds items views = s.0 in
    let it : Known = known Sends o.plan (length o.taken + length items) in
    let here : slice_get (items_of o.plan) (length o.taken + length items) ≡ Some item =
    subst (λ (x : Known). slice_get (items_of x.plan) x.count ≡ Some item) (sym s.2) next in
    let from = from-end (o.taken ++ items) o.left item
    (ap (λ l. slice_get l (length (o.taken ++ items))) (append_assoc o.taken items o.left ∙ o.order)
    ∙ ap (slice_get (items_of o.plan)) (length-append o.taken items) ∙ here) in
    let count : (length o.taken + length items) + 1 ≡ length o.taken + length (items ++ item ∷ []) =
    omega (arith, length-append items (item ∷ [])) in
    let kept : HasTwoEnds (items ++ item ∷ []) (one_more it ∷ known Takes o.plan (length o.taken) ∷ []) = record {
      plan = o.plan;
      taken = o.taken;
      left = from.0;
      order = ap (λ l. o.taken ++ l) (append_assoc items (item ∷ []) from.0 ∙ ap (λ l. items ++ l) (sym from.1))
          ∙ o.order;
      passes = ap (λ m. known Sends o.plan m ∷ known Takes o.plan (length o.taken) ∷ []) count;
    } in
    subst (λ x. (w : Known) × IsLine (items ++ item ∷ []) (set views pass w) × (w ≡ one_more x)) s.2 (
      one_more it,
      subst (λ p. IsLine (items ++ item ∷ []) (set views p (one_more it))) (sym s.1)
          (subst (λ l. IsLine (items ++ item ∷ []) (set l 0 (one_more it))) (sym o.passes) (inr kept)),
      refl,
    )

-- where a push is refused, as many items were sent before as the queue holds
pub sent-before : (pass : ℕ) (v : Known) → v.role ≡ Sends → Learns IsLine pass v (λ items. length items ≤ v.count)
sent-before pass v role items views h at =
    let s = at-sends items views pass v at role h in
    let o : HasTwoEnds items views = s.0 in
    let within : length items ≤ length o.taken + length items = omega arith in
    subst (λ (x : Known). length items ≤ x.count) s.2 within

-- an item is taken: the next one of the plan
pub takes : (pass : ℕ) (v : Known)
    → v.role ≡ Takes
    → Pops IsLine pass v (λ item after. (slice_get (items_of v.plan) v.count ≡ Some item) × (after ≡ one_more v))
takes pass v role item items views h at =
    let s = at-takes (item ∷ items) views pass v at role h in
    let o : HasTwoEnds (item ∷ items) views = s.0 in
    let it : Known = known Takes o.plan (length o.taken) in
    let here : slice_get (items_of o.plan) (length o.taken) ≡ Some item =
    ap (λ l. slice_get l (length o.taken)) (sym o.order) ∙ at-end o.taken (items ++ o.left) item in
    let count : length o.taken + 1 ≡ length (o.taken ++ item ∷ []) = omega (arith, length-append o.taken (item ∷ [])) in
    let sent : length o.taken + length (item ∷ items) ≡ length (o.taken ++ item ∷ []) + length items =
    omega (arith, length-append o.taken (item ∷ [])) in
    let kept : HasTwoEnds items (known Sends o.plan (length o.taken + length (item ∷ items)) ∷ one_more it ∷ []) =
    record {
      plan = o.plan;
      taken = o.taken ++ item ∷ [];
      left = o.left;
      order = append_assoc o.taken (item ∷ []) (items ++ o.left) ∙ o.order;
      passes = λ i. known Sends o.plan (sent i) ∷ known Takes o.plan (count i) ∷ [];
    } in
    subst (λ (x : Known). (w : Known) × IsLine items (set views pass w)
    × ((slice_get (items_of x.plan) x.count ≡ Some item) × (w ≡ one_more x))) s.2 (
      one_more it,
      subst (λ p. IsLine items (set views p (one_more it))) (sym s.1)
          (subst (λ l. IsLine items (set l 1 (one_more it))) (sym o.passes) (inr kept)),
      (here, refl),
    )
