-- What a worker added before a phase are the likes that it ran before it.
use Rattle.std.proofs.Common.{◌≡◌, ℕ, zero, suc, ◌+◌, ◌==◌, ◌&&◌, nat_lt, Bool, true, false, cond, List, [], ◌∷◌, filter, subst, refl, ap, sym, ◌∙◌, arith}
use Rattle.std.proofs.lemmas.Bool.{le-ltb}
use Rattle.std.proofs.lemmas.List.Sums.{sum_by-cons}
use Rattle.like_core.specs.declared.view.Addition.{Addition}
use Rattle.like_core.specs.Additions.{added_in, added_before}
use Rattle.like_core.proofs.core.Labels.{added_before-next, one_before-next}
use Rattle.like_promises.specs.declared.log.Ran.{Ran}
use Rattle.like_promises.specs.Likes.{likes_among, likes_within}
use Rattle.like_promises.specs.Workload.{Workload}
use Rattle.like_roles.proofs.counts.Tallied.{likes_among-append}

-- likes before no phase
likes_before-none : (workload : Workload) (page : ℕ) (ran : List Ran)
    → likes_among workload page (filter (λ e. nat_lt e.phase 0) ran) ≡ 0
likes_before-none workload page ran = ap (likes_among workload page) (none ran)
  where
    none : (xs : List Ran) → filter (λ e. nat_lt e.phase 0) xs ≡ []
    none [] = refl
    none (x ∷ xs) =
        ap (λ (b : Bool). cond b (x ∷ filter (λ e. nat_lt e.phase 0) xs) (filter (λ e. nat_lt e.phase 0) xs))
        (le-ltb x.phase 0 (omega arith)) ∙ none xs

added_before-none : (additions : List Addition) (page : ℕ) → added_before 0 page additions ≡ 0
added_before-none [] page = refl
added_before-none (a ∷ additions) page =
    let here : cond {A = ℕ} (nat_lt a.phase 0 && (a.page == page)) a.likes 0 ≡ 0 =
    ap (λ (b : Bool). cond {A = ℕ} (b && (a.page == page)) a.likes 0) (le-ltb a.phase 0 (omega arith)) in
    let rest = added_before-none additions page in
    omega (arith, sum_by-cons (λ (b : Addition). cond (nat_lt b.phase 0 && (b.page == page)) b.likes 0) a additions)

-- likes before the next phase are those before this one and in it
likes_before-next : (workload : Workload) (page : ℕ) (ran : List Ran) (phase : ℕ)
    → likes_among workload page (filter (λ e. nat_lt e.phase (phase + 1)) ran)
    ≡ likes_among workload page (filter (λ e. nat_lt e.phase phase) ran) + likes_within workload page ran phase
likes_before-next workload page [] phase = refl
likes_before-next workload page (e ∷ ran) phase =
    let rest = likes_before-next workload page ran phase in
    let n : ℕ = likes_among workload page (e ∷ []) in
    let here = one_before-next e.phase phase n true in
    let first = one (nat_lt e.phase (phase + 1)) (filter (λ x. nat_lt x.phase (phase + 1)) ran) in
    let second = one (nat_lt e.phase phase) (filter (λ x. nat_lt x.phase phase) ran) in
    let third = one (e.phase == phase) (filter (λ x. x.phase == phase) ran) in
    omega arith
  where
    one : (b : Bool) (xs : List Ran)
        → likes_among workload page (cond b (e ∷ xs) xs)
        ≡ cond (b && true) (likes_among workload page (e ∷ [])) 0 + likes_among workload page xs
    one true xs = likes_among-append workload page (e ∷ []) xs
    one false xs = omega arith

-- what a worker has added before a phase are the likes that it ran before it
pub below-is : (workload : Workload) (ran : List Ran) (additions : List Addition)
    → ((phase page : ℕ) → likes_within workload page ran phase ≡ added_in phase page additions)
    → (phase page : ℕ)
    → likes_among workload page (filter (λ e. nat_lt e.phase phase) ran) ≡ added_before phase page additions
below-is workload ran additions each zero page =
    likes_before-none workload page ran ∙ sym (added_before-none additions page)
below-is workload ran additions each (suc phase) page =
    let e : suc phase ≡ phase + 1 = omega arith in
    let before = below-is workload ran additions each phase page in
    let here = each phase page in
    let likes = likes_before-next workload page ran phase in
    let added = added_before-next additions phase page in
    let goes : likes_among workload page (filter (λ x. nat_lt x.phase (phase + 1)) ran)
    ≡ added_before (phase + 1) page additions = omega arith in
    subst (λ (k : ℕ). likes_among workload page (filter (λ x. nat_lt x.phase k) ran) ≡ added_before k page additions)
    (sym e) goes
