-- What the plain steps of a post tell, and those of a run list, as a worker goes on.
use Rattle.std.proofs.Common.{◌≡◌, ℕ, Bool, true, false, not, cond, List, [], ◌∷◌, ◌++◌, map, Option, None, Some, refl, ap, sym, ◌∙◌, append-nil}
use Rattle.std.proofs.lemmas.List.{map-append}
use Rattle.std.proofs.lemmas.List.Elements.{All-head, All-tail, filter-append, filter_map-append}
use Rattle.std.specs.List.{All, cons_option, filter}
use Rattle.std.specs.Prelude.{option_and_then}
use Rattle.like_core.specs.declared.page_step.PageCall.TheVariants.{Add}
use Rattle.like_core.specs.declared.page_step.PageStep.{PageStep}
use Rattle.like_core.specs.PageSteps.{earliest_first, page_step}
use Rattle.like_core.specs.Post.{is_split_at}
use Rattle.like_promises.specs.Asked.{asked}
use Rattle.like_promises.specs.Store.{like}
use Rattle.like_promises.specs.Workload.{Workload, is_split_in}
use Rattle.like_promises.specs.declared.log.Ran.{Ran}
use Rattle.like_serial.specs.StepsTold.{StepTold, is_plain, plain_told, step_asked, step_ran, step_told, steps_ran}
use Rattle.like_roles.specs.worker.Serve.{counted, sliced, with_addition}
use Rattle.like_roles.specs.worker.WorkerView.{WorkerView, phase_at}

module _ (workload : Workload) where
  -- what the plain ones of two lists of steps tell
  plain_told-append : (xs ys : List PageStep)
      → plain_told workload (xs ++ ys) ≡ plain_told workload xs ++ plain_told workload ys
  plain_told-append xs ys =
      ap (map step_told) (filter-append (is_plain workload) xs ys)
      ∙ map-append step_told (filter (is_plain workload) xs) (filter (is_plain workload) ys)

  -- one step more, at a page that is not split
  pub plain_told-push : (did : List PageStep) (s : PageStep)
      → is_split_in workload s.phase s.page ≡ false
      → plain_told workload (did ++ s ∷ []) ≡ plain_told workload did ++ step_told s ∷ []
  plain_told-push did s plain =
      plain_told-append did (s ∷ [])
      ∙ ap (λ (b : Bool). plain_told workload did ++ map step_told (cond (not b) (s ∷ []) [])) plain

  -- more steps, at pages that are split
  pub plain_told-split : (did more : List PageStep)
      → All (λ s. is_split_in workload s.phase s.page ≡ true) more
      → plain_told workload (did ++ more) ≡ plain_told workload did
  plain_told-split did more split =
      plain_told-append did more
      ∙ (ap (λ xs. plain_told workload did ++ xs) (nothing more split) ∙ append-nil (plain_told workload did))
    where
      nothing : (steps : List PageStep)
          → All (λ s. is_split_in workload s.phase s.page ≡ true) steps
          → plain_told workload steps ≡ []
      nothing [] all = refl
      nothing (s ∷ steps) all =
          let P : PageStep → Type 0 = λ x. is_split_in workload x.phase x.page ≡ true in
          let rest : List PageStep = filter (is_plain workload) steps in
          ap (λ (b : Bool). map step_told (cond (not b) (s ∷ rest) rest)) (All-head P s steps all)
          ∙ nothing steps (All-tail P s steps all)

  -- one entry more, which took a step
  pub steps_ran-push : (ran : List Ran) (e : Ran) (s : StepTold)
      → step_ran workload e ≡ Some s
      → steps_ran workload (ran ++ e ∷ []) ≡ steps_ran workload ran ++ s ∷ []
  steps_ran-push ran e s is =
      filter_map-append (step_ran workload) ran (e ∷ [])
      ∙ ap (λ (o : Option StepTold). steps_ran workload ran ++ cons_option o []) is

  -- or none
  pub steps_ran-none : (ran : List Ran) (e : Ran)
      → step_ran workload e ≡ None
      → steps_ran workload (ran ++ e ∷ []) ≡ steps_ran workload ran
  steps_ran-none ran e none =
      filter_map-append (step_ran workload) ran (e ∷ [])
      ∙ (ap (λ (o : Option StepTold). steps_ran workload ran ++ cons_option o []) none
      ∙ append-nil (steps_ran workload ran))

  -- what a like tells that was added at once
  abbrev one_more : ℕ → ℕ → StepTold
  one_more phase page = record { phase = phase; page = page; call = Add 1; count = 0 }

  -- a like is counted
  pub counted-steps : (v : WorkerView) (e : Ran) (user page old number : ℕ)
      → plain_told workload (earliest_first v.post.did) ≡ steps_ran workload v.ran
      → e.phase ≡ phase_at v
      → asked workload e.submitter e.number ≡ Some (like user page)
      → is_split_in workload (phase_at v) page ≡ is_split_at v.post page
      → plain_told workload (earliest_first (counted v page old number).post.did) ≡ steps_ran workload (v.ran ++ e ∷ [])
  counted-steps v e user page old number same now ask alike = by_test (is_split_at v.post page) refl
    where
      one : StepTold
      one = one_more (phase_at v) page

      -- the step that the entry took
      took : (b : Bool) → is_split_at v.post page ≡ b → step_ran workload e ≡ cond b None (Some one)
      took b is =
          ap (option_and_then (step_asked workload e)) ask
          ∙ (ap (λ k. cond {A = Option StepTold} (is_split_in workload k page) None (Some (one_more k page))) now
          ∙ ap (λ s. cond {A = Option StepTold} s None (Some one)) (alike ∙ is))

      -- what the steps tell then
      tells : (b : Bool) → is_split_at v.post page ≡ b
          → plain_told workload (earliest_first (counted v page old number).post.did)
          ≡ plain_told workload (earliest_first (cond b (sliced v page) (with_addition v page old 1 number)).post.did)
      tells b is = ap (λ t. plain_told workload (earliest_first (cond t (sliced v page) (with_addition v page old 1 number)).post.did)) is

      by_test : (b : Bool) → is_split_at v.post page ≡ b
          → plain_told workload (earliest_first (counted v page old number).post.did) ≡ steps_ran workload (v.ran ++ e ∷ [])
      by_test true is = tells true is ∙ (same ∙ sym (steps_ran-none v.ran e (took true is)))
      by_test false is =
          tells false is
          ∙ (plain_told-push (earliest_first v.post.did) (page_step v.post.worker (phase_at v) page old (Add 1)) (alike ∙ is)
          ∙ (ap (λ xs. xs ++ one ∷ []) same ∙ sym (steps_ran-push v.ran e one (took false is))))
