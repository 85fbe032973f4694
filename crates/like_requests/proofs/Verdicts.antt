-- The verdict on a request, by its three tests.
use Rattle.std.proofs.Common.{◌≡◌, ℕ, ◌<◌, ◌==◌, Bool, true, false, not, cond, nat_lt, refl}
use Rattle.std.proofs.lemmas.Bool.{eq-eqb, eqb-true, lt-ltb, ltb-true}
use Rattle.like_requests.specs.Verdict.{home, verdict_of}
use Rattle.like_requests.specs.declared.verdict.Verdict.TheVariants.{Accepted, UnknownUser, OtherHome, UnknownPage}

-- only where all say yes is the verdict that
all-passed : (a b c : Bool)
    → cond (not a) UnknownUser (cond (not b) OtherHome (cond (not c) UnknownPage Accepted)) ≡ Accepted
    → (a ≡ true) × (b ≡ true) × (c ≡ true)
all-passed true true true is = (refl, refl, refl)
all-passed true true false is = absurd (cc is)
all-passed true false c is = absurd (cc is)
all-passed false b c is = absurd (cc is)

module _ (users submitters submitter user : ℕ) (exists : Bool) where
  -- what is accepted passes the tests
  pub accepted-passes : verdict_of users submitters submitter user exists ≡ Accepted
      → (user < users) × (home submitters user ≡ submitter) × (exists ≡ true)
  accepted-passes is =
      let tests = all-passed (nat_lt user users) (home submitters user == submitter) exists is in
      (ltb-true user users tests.0, eqb-true (home submitters user) submitter tests.1, tests.2)

  -- what passes them is accepted
  pub passes-accepted : user < users → home submitters user ≡ submitter → exists ≡ true
      → verdict_of users submitters submitter user exists ≡ Accepted
  passes-accepted there at_home page_is =
      rw (lt-ltb user users there, eq-eqb (home submitters user) submitter at_home, page_is) refl
