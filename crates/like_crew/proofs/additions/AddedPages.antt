-- Accepted likes are of pages that are there, and so are the additions that are noted.
use Rattle.std.proofs.Common.{◌≡◌, ℕ, zero, suc, ◌<◌, ◌≤◌, ◌==◌, Bool, cond, List, [], ◌∷◌, All, length, get_or, map, slice_get, Option, Some, None, option_and_then, option_map, refl, ap, ◌∙◌, subst, inl, inr, arith, sym}
use Rattle.std.specs.List.{cons_option, sum_by}
use Rattle.std.proofs.lemmas.Bool.{cases_eq, cases_lt, cond-true, eq-eqb, ne_eqb}
use Rattle.std.proofs.lemmas.List.Sums.{get_or-le-sum_by, sum_by-cons}
use Rattle.std.proofs.lemmas.Option.{get_or_from_slice_get, slice_get_within}
use Rattle.like_requests.proofs.Planned.{AreThere}
use Rattle.like_requests.specs.Setup.{IsThere}
use Rattle.like_requests.specs.declared.request.Request.{Request}
use Rattle.like_core.specs.declared.view.Addition.{Addition}
use Rattle.like_core.specs.Additions.{added_to}
use Rattle.like_promises.proofs.RequestAt.{request_at-plan}
use Rattle.like_promises.proofs.Asked.{asking, like-there}
use Rattle.like_promises.specs.Asked.{asked}
use Rattle.like_promises.specs.declared.log.Added.{Added}
use Rattle.like_promises.specs.declared.log.Ran.{Ran}
use Rattle.like_promises.specs.places.Adds.{IsOfLikes, addition_of}
use Rattle.like_promises.specs.Likes.{likes, likes_among}
use Rattle.like_promises.specs.Store.{Ask, like, look, refuse}
use Rattle.like_promises.specs.Workload.{Workload, nth, request_at, submitters}
use Rattle.like_roles.proofs.counts.Tallied.{likes_among-append, page_likes}
use Rattle.like_core.proofs.Lists.{sum-of-map}

-- a fact of each element is one of that at a place
got : {A : Type 0} (P : A → Type 0) (xs : List A) (k : ℕ) (x : A) → All P xs → slice_get xs k ≡ Some x → P x
got P xs k x all at = subst P (get_or_from_slice_get xs k x x at) (all k x (slice_get_within xs k x at))

module _ (workload : Workload) (plans : All (AreThere workload.pages) workload.plans) where
  -- the page of a request is there
  numbered-there : (plan : List Request) (number : ℕ) (r : Request) → AreThere workload.pages plan
      → nth plan number ≡ Some r → IsThere (length workload.pages) r.page
  numbered-there plan zero r all is = cc is
  numbered-there plan (suc n) r all is = got (λ x. IsThere (length workload.pages) x.page) plan n r all is

  asked-there : (submitter number : ℕ) (r : Request) → request_at workload submitter number ≡ Some r
      → IsThere (length workload.pages) r.page
  asked-there submitter number r is =
      by_plan (slice_get workload.plans submitter) refl (sym (request_at-plan workload submitter number) ∙ is) where
        by_plan : (o : Option (List Request)) → slice_get workload.plans submitter ≡ o
            → option_and_then (λ plan. nth plan number) o ≡ Some r → IsThere (length workload.pages) r.page
        by_plan None at same = cc same
        by_plan (Some plan) at same =
            numbered-there plan number r (got (AreThere workload.pages) workload.plans submitter plan plans at) same

  -- and so is that of a like
  liked-page : (e : Ran) (user page : ℕ) → asked workload e.submitter e.number ≡ Some (like user page)
      → page < length workload.pages
  liked-page e user page is = by_request (request_at workload e.submitter e.number) refl is where
    by_request : (o : Option Request) → request_at workload e.submitter e.number ≡ o
        → option_map (asking workload.users (submitters workload) e.submitter) o ≡ Some (like user page) → page < length workload.pages
    by_request None at same = cc same
    by_request (Some r) at same =
        like-there workload.users (submitters workload) e.submitter r (length workload.pages)
        (asked-there e.submitter e.number r at) user page (cc same)

  -- a page with a like is there
  one-there : (e : Ran) (page : ℕ) → 1 ≤ likes_among workload page (e ∷ []) → page < length workload.pages
  one-there e page some = by_ask (asked workload e.submitter e.number) refl some where
    by_ask : (o : Option Ask) → asked workload e.submitter e.number ≡ o → 1 ≤ page_likes page (cons_option o [])
        → page < length workload.pages
    by_ask None at one = absurd (omega arith)
    by_ask (Some (like user liked)) at one = elim (cases_eq liked page) [
      | inl same ↦ subst (λ n. n < length workload.pages) same (liked-page e user liked at)
      | inr other ↦ absurd (let none : cond {A = ℕ} (liked == page) 1 0 ≡ 0 =
          ap (λ (b : Bool). cond {A = ℕ} b 1 0) (ne_eqb liked page other) in omega arith)
    ]
    by_ask (Some (look user looked)) at one = absurd (omega arith)
    by_ask (Some (refuse why)) at one = absurd (omega arith)

  pub liked-there : (ran : List Ran) (page : ℕ) → 1 ≤ likes_among workload page ran → page < length workload.pages
  liked-there [] page some = absurd (omega arith)
  liked-there (e ∷ ran) page some =
      let both = likes_among-append workload page (e ∷ []) ran in
      elim (cases_lt 0 (likes_among workload page (e ∷ []))) [
        | inl one ↦ one-there e page (omega arith)
        | inr none ↦ liked-there ran page (omega arith)
      ]

  -- no like is of a page that is not there
  pub none-liked : (runs : List (List Ran)) (page : ℕ) → length workload.pages ≤ page → likes workload page runs ≡ 0
  none-liked [] page past = refl
  none-liked (ran ∷ runs) page past =
      let rest = none-liked runs page past in
      let here : likes_among workload page ran ≡ 0 = elim (cases_lt 0 (likes_among workload page ran)) [
        | inl some ↦ absurd (let there = liked-there ran page (omega arith) in omega arith)
        | inr none ↦ omega arith
      ]
      in
      omega (arith, sum_by-cons (likes_among workload page) ran runs)

  -- the additions are of pages that are there, where they are as many likes as a run list has of each page
  pub adds-there : (additions : List Addition) (adds : List Added) (ran : List Ran) → additions ≡ map addition_of adds
      → ((page : ℕ) → likes_among workload page ran ≡ added_to page additions)
      → All (IsOfLikes workload ran) adds → All (λ a. a.page < length workload.pages) adds
  adds-there additions adds ran are many each k d within =
      let a : Added = get_or adds k d in
      let some : 1 ≤ a.n = (each k d within).some in
      let weight : Added → ℕ = λ x. cond (x.page == a.page) x.n 0 in
      let own : weight a ≡ a.n = cond-true (a.page == a.page) a.n 0 (eq-eqb a.page a.page refl) in
      let part : weight a ≤ sum_by weight adds = get_or-le-sum_by weight adds k d within in
      let all : likes_among workload a.page ran ≡ sum_by weight adds =
      many a.page ∙ ap (added_to a.page) are
      ∙ sum-of-map (λ (x : Addition). cond (x.page == a.page) x.likes 0) addition_of adds
      in
      liked-there ran a.page (omega arith)
