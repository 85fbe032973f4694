-- What requests ask, by their verdicts.
use Rattle.std.proofs.Common.{◌≡◌, ◌≢◌, ℕ, ◌<◌, true, List, [], ◌∷◌, ◌++◌, Some, refl, ap, ◌∙◌, subst}
use Rattle.std.proofs.lemmas.List.Elements.{filter_map-append}
use Rattle.std.specs.List.{cons_option}
use Rattle.std.specs.Prelude.{⊤}
use Rattle.like_requests.specs.Setup.{IsThere}
use Rattle.like_requests.specs.Verdict.{is_known, verdict_of}
use Rattle.like_requests.specs.declared.request.Op.{Op}
use Rattle.like_requests.specs.declared.request.Op.TheVariants.{Like, Look}
use Rattle.like_requests.specs.declared.request.PageRef.{PageRef}
use Rattle.like_requests.specs.declared.request.PageRef.TheVariants.{Known, Unknown}
use Rattle.like_requests.specs.declared.request.Request.{Request}
use Rattle.like_requests.specs.declared.verdict.Verdict.{Verdict}
use Rattle.like_requests.specs.declared.verdict.Verdict.TheVariants.{Accepted, UnknownUser, OtherHome, UnknownPage}
use Rattle.like_requests.proofs.Verdicts.{accepted-passes}
use Rattle.like_promises.specs.declared.log.Ran.{Ran}
use Rattle.like_promises.specs.Asked.{asked, asked_by, asks}
use Rattle.like_promises.specs.Store.{Ask, like, look, refuse}
use Rattle.like_promises.specs.Workload.{Workload}

-- what holds of the refusal, and else of a like of the page and a look at it, holds of what is asked
by-verdict : (P : Ask → Type 0) (v : Verdict) (op : Op) (user : ℕ) (p : PageRef)
    → (v ≡ Accepted → is_known p ≡ true)
    → (v ≢ Accepted → P (refuse v))
    → (v ≡ Accepted → (page : ℕ) → p ≡ Known page → P (like user page) × P (look user page))
    → P (asked_by v op user p)
by-verdict P Accepted Like user (Known page) known refused accepted = (accepted refl page refl).0
by-verdict P Accepted Look user (Known page) known refused accepted = (accepted refl page refl).1
by-verdict P Accepted Like user Unknown known refused accepted = absurd (cc (known refl))
by-verdict P Accepted Look user Unknown known refused accepted = absurd (cc (known refl))
by-verdict P UnknownUser op user p known refused accepted = refused (λ is. cc is)
by-verdict P OtherHome op user p known refused accepted = refused (λ is. cc is)
by-verdict P UnknownPage op user p known refused accepted = refused (λ is. cc is)

-- a page, and a user, that what is asked names is one of so many
abbrev pub HasPageBelow : ℕ → Ask → Type 0
HasPageBelow n (like user page) = page < n
HasPageBelow n (look user page) = page < n
HasPageBelow n (refuse why) = ⊤

abbrev HasUserBelow : ℕ → Ask → Type 0
HasUserBelow n (like user page) = user < n
HasUserBelow n (look user page) = user < n
HasUserBelow n (refuse why) = ⊤

-- what is refused has a reason
abbrev IsReasoned : Ask → Type 0
IsReasoned ask = (why : Verdict) → ask ≡ refuse why → why ≢ Accepted

module _ (users submitters submitter : ℕ) (r : Request) where
  -- the verdict on a submitter's request, of so many users and submitters
  abbrev pub verdict : Verdict
  verdict = verdict_of users submitters submitter r.user (is_known r.page)

  -- what it asks
  abbrev pub asking : Ask
  asking = asked_by verdict r.op r.user r.page

  -- what holds of a refusal, and of an accepted request's like and look, holds of it
  pub asking-by : (P : Ask → Type 0)
      → (verdict ≢ Accepted → P (refuse verdict))
      → (verdict ≡ Accepted → (page : ℕ) → r.page ≡ Known page → P (like r.user page) × P (look r.user page))
      → P asking
  asking-by P = by-verdict P verdict r.op r.user r.page
      (λ is. (accepted-passes users submitters submitter r.user (is_known r.page) is).2)

  -- a like or a look is of the request's page
  pub page-there : (n : ℕ) → IsThere n r.page → HasPageBelow n asking
  page-there n there = asking-by (HasPageBelow n) (λ refused. tt)
      (λ accepted page is. let below : page < n = subst (IsThere n) is there in (below, below))

  pub like-there : (n : ℕ) → IsThere n r.page → (user page : ℕ) → asking ≡ like user page → page < n
  like-there n there user page is = subst (HasPageBelow n) is (page-there n there)

  -- and of a user who is there
  pub liker-there : (user page : ℕ) → asking ≡ like user page → user < users
  liker-there user page is =
      subst (HasUserBelow users) is
      (asking-by (HasUserBelow users) (λ refused. tt)
      (λ accepted page known.
      let below = (accepted-passes users submitters submitter r.user (is_known r.page) accepted).0 in (below, below)))

  -- a refusal has a reason
  pub refused-why : IsReasoned asking
  refused-why = asking-by IsReasoned (λ refused why is same. refused (cc (is, same)))
      (λ accepted page known. (λ why is. cc is, λ why is. cc is))

-- what one entry more asks
pub asks-push : (workload : Workload) (ran : List Ran) (e : Ran) (a : Ask)
    → asked workload e.submitter e.number ≡ Some a
    → asks workload (ran ++ e ∷ []) ≡ asks workload ran ++ a ∷ []
asks-push workload ran e a is =
    filter_map-append (λ (x : Ran). asked workload x.submitter x.number) ran (e ∷ [])
    ∙ ap (λ o. asks workload ran ++ cons_option o []) is
