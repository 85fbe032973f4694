-- What one order of all steps says of those of one seat, at each time before it was closed.
use Rattle.std.proofs.Common.{◌≡◌, ◌≢◌, ℕ, ◌+◌, ◌%◌, ◌≤◌, ◌<◌, ◌==◌, Bool, true, false, cond, List, [], ◌∷◌, ◌++◌, map, get_or, set, refl, ap, sym, ◌∙◌, subst, arith, inl, inr, eq-eqb}
use Rattle.std.specs.List.{All, AllByRecursion}
use Rattle.std.proofs.lemmas.Bool.{cases_eq}
use Rattle.std.proofs.lemmas.List.{get_or-set_other}
use Rattle.like_core.specs.declared.page_step.PageStep.{PageStep}
use Rattle.like_core.specs.declared.sight.Sight.{Sight}
use Rattle.like_core.specs.declared.view.Addition.{Addition}
use Rattle.like_core.specs.declared.view.PhaseMask.{PhaseMask}
use Rattle.like_core.specs.declared.worker_state.WorkerState.{WorkerState}
use Rattle.like_core.specs.declared.worker_state.WorkerState.TheVariants as state
use Rattle.like_core.specs.Additions.{added_to}
use Rattle.like_core.specs.PageSteps.{AddsSome, earliest_first, step_adding}
use Rattle.like_core.specs.Phase.{IsSplit, is_marked, split_by}
use Rattle.like_core.specs.PhaseMasks.{AreMasksOf, KeepsMasks}
use Rattle.like_core.specs.Post.{is_split_at}
use Rattle.like_core.specs.WorkerState.{IsRunning, RunsSplit, phase_of, seen}
use Rattle.like_core.proofs.PhaseMasks.{masks-before, split-known}
use Rattle.like_core.proofs.Steps.{then-earliest}
use Rattle.like_seat.specs.Steps.{masks_entered, saw_at}
use Rattle.like_seat.specs.StationView.{phase_at}
use Rattle.like_serial.proofs.Interleaved.{all_front, all_rest}
use Rattle.like_serial.proofs.Phases.{Rises}
use Rattle.like_live.specs.LiveView.{LiveView}
use Rattle.like_live.proofs.Calling.{page_there, slice-more}
use Rattle.like_live.proofs.Running.{unsplit}
use Rattle.like_live.proofs.Standing.{Stands}
use Rattle.like_live.proofs.Stepping.{Step, acknowledges, adds_like, finds, glances, holds, looks, next, reads, reported, reports, retires, returns, slices_like, takes}
use Rattle.like_live.specs.Moves.{step_for}

-- whether a page is split in a phase of a service, where these are the masks of all phases, by its seats' marks and limits
abbrev pub split_in : LiveView → (ℕ → ℕ) → ℕ → ℕ → Bool
split_in v masks phase page = split_by v.station.post.opening.limits.hot (is_marked v.station.post.opening.marks) masks phase page

-- each addition of the seat is of some likes; it read the right masks; phases never fall along its steps; and while it
-- has likes in its slice, none is later than its phase
pub record IsOrdered (masks : ℕ → ℕ) (v : LiveView) : Type 0 where
  pub some : AllByRecursion (λ s. AddsSome s.call) (earliest_first v.station.post.did)
  pub right : AreMasksOf masks v.station.post.masks
  pub rises : Rises (λ (s : PageStep). s.phase) (earliest_first v.station.post.did)
  pub none_later : (page : ℕ) → get_or v.station.slice page 0 ≢ 0
      → AllByRecursion (λ s. s.phase ≤ phase_at v.station) (earliest_first v.station.post.did)

-- the front of a list along which phases never fall, and that it comes before the rest
pub rises_front : {X : Type 0} (phase : X → ℕ) (xs ys : List X) → Rises phase (xs ++ ys) → Rises phase xs
rises_front phase [] ys r = tt
rises_front phase (x ∷ xs) ys r = (all_front (λ y. phase x ≤ phase y) xs ys r.0, rises_front phase xs ys r.1)

pub rises_to : {X : Type 0} (phase : X → ℕ) (xs : List X) (y : X) (ys : List X) → Rises phase (xs ++ y ∷ ys)
    → AllByRecursion (λ x. phase x ≤ phase y) xs
rises_to phase [] y ys r = tt
rises_to phase (x ∷ xs) y ys r =
    ((all_rest (λ z. phase x ≤ phase z) xs (y ∷ ys) r.0).0, rises_to phase xs y ys r.1)

-- masks that a step adds come before those that were read
entered_keeps : (b : Bool) (m : PhaseMask) (masks : List PhaseMask) → KeepsMasks masks (cond b (m ∷ masks) masks)
entered_keeps true m masks = (m ∷ [], refl)
entered_keeps false m masks = ([], refl)

saw_keeps : (b : Bool) (masks entered : List PhaseMask) → KeepsMasks masks entered → KeepsMasks masks (cond b masks entered)
saw_keeps true masks entered keeps = ([], refl)
saw_keeps false masks entered keeps = keeps

-- a look leaves the phase of a seat that has likes in its slice
pub looked_phase : (s : WorkerState) (sight : Sight) → RunsSplit s → phase_of (seen s sight) ≡ phase_of s
looked_phase (state.Runs k) sight split = refl
looked_phase (state.Answered k) sight split = absurd split
looked_phase state.Gone sight split = absurd split

-- what a merge adds, of a page with likes in the slice
pub first_add : (adds : List Addition) (page : ℕ) → added_to page adds ≢ 0
    → (a : Addition) × ((rest : List Addition) × (adds ≡ a ∷ rest))
first_add [] page some = absurd (some refl)
first_add (a ∷ rest) page some = (a, (rest, refl))

module _ (first : LiveView) (masks : ℕ → ℕ) where
  -- one step more of a phase
  one_back : (v w : LiveView) (s : PageStep) → earliest_first w.station.post.did ≡ earliest_first v.station.post.did ++ s ∷ []
      → w.station.post.masks ≡ v.station.post.masks → s.phase ≡ phase_at v.station → IsOrdered masks w → IsOrdered masks v
  one_back v w s did same phase o =
      let rises = subst (Rises (λ (t : PageStep). t.phase)) did o.rises in
      record {
        some = all_front (λ t. AddsSome t.call) (earliest_first v.station.post.did) (s ∷ [])
            (subst (AllByRecursion (λ (t : PageStep). AddsSome t.call)) did o.some);
        right = subst (AreMasksOf masks) same o.right;
        rises = rises_front (λ (t : PageStep). t.phase) (earliest_first v.station.post.did) (s ∷ []) rises;
        none_later = λ page has. subst (λ k. AllByRecursion (λ (t : PageStep). t.phase ≤ k) (earliest_first v.station.post.did)) phase
            (rises_to (λ (t : PageStep). t.phase) (earliest_first v.station.post.did) s [] rises);
      }

  -- steps more
  some_back : (v w : LiveView) (more : List PageStep) → earliest_first w.station.post.did ≡ earliest_first v.station.post.did ++ more
      → w.station.post.masks ≡ v.station.post.masks
      → ((page : ℕ) → get_or v.station.slice page 0 ≢ 0 → AllByRecursion (λ s. s.phase ≤ phase_at v.station) (earliest_first v.station.post.did))
      → IsOrdered masks w → IsOrdered masks v
  some_back v w more did same later o = record {
    some = all_front (λ t. AddsSome t.call) (earliest_first v.station.post.did) more
        (subst (AllByRecursion (λ (t : PageStep). AddsSome t.call)) did o.some);
    right = subst (AreMasksOf masks) same o.right;
    rises = rises_front (λ (t : PageStep). t.phase) (earliest_first v.station.post.did) more
        (subst (Rises (λ (t : PageStep). t.phase)) did o.rises);
    none_later = later;
  }

  pub ordered_back : (v : LiveView) (s : Step v) → Stands first v → IsOrdered masks (next v s) → IsOrdered masks v
  ordered_back v (looks sight mask number can) k o = record {
    some = o.some;
    right = masks-before masks v.station.post.masks (saw_at v.station.post sight mask number).masks
        (saw_keeps (phase_of (seen v.station.post.state sight) == phase_of v.station.post.state) v.station.post.masks _
        (entered_keeps (phase_of (seen v.station.post.state sight) % 2 == 1) _ v.station.post.masks))
        o.right;
    rises = o.rises;
    none_later = λ page has.
        subst (λ n. AllByRecursion (λ (t : PageStep). t.phase ≤ n) (earliest_first v.station.post.did))
        (looked_phase v.station.post.state sight (k.split page has).0) (o.none_later page has);
  }
  ordered_back v (finds found logged joined order shown logs) k o =
      some_back v _ _ (then-earliest v.station.post.did (map (step_for v.station.post.worker) found)) refl (λ page has. absurd (unsplit v.station.post.state joined (k.split page has).0)) o
  ordered_back v (acknowledges joined) k o = record {
    some = o.some;
    right = o.right;
    rises = o.rises;
    none_later = λ page has. absurd (unsplit v.station.post.state joined (k.split page has).0);
  }
  ordered_back v (reports adds logged split merges logs) k o =
      some_back v (reported v adds logged) (map (step_adding v.station.post.worker) adds) are refl later o
    where
      are : earliest_first (reported v adds logged).station.post.did
          ≡ earliest_first v.station.post.did ++ map (step_adding v.station.post.worker) adds
      are = then-earliest v.station.post.did (map (step_adding v.station.post.worker) adds)

      later : (page : ℕ) → get_or v.station.slice page 0 ≢ 0
          → AllByRecursion (λ s. s.phase ≤ phase_at v.station) (earliest_first v.station.post.did)
      later page has =
          let a = first_add adds page (λ none. has (sym (merges.sums page) ∙ none)) in
          let is = a.1.1 in
          let phase : a.0.phase ≡ phase_at v.station =
          subst (All (λ (x : Addition). x.phase ≡ phase_at v.station)) is merges.phase_is 0 a.0 (omega arith) in
          let rises = subst
          (λ (xs : List Addition). Rises (λ (t : PageStep). t.phase)
          (earliest_first v.station.post.did ++ map (step_adding v.station.post.worker) xs)) is
          (subst (Rises (λ (t : PageStep). t.phase)) are o.rises) in
          subst (λ n. AllByRecursion (λ (t : PageStep). t.phase ≤ n) (earliest_first v.station.post.did)) phase
          (rises_to (λ (t : PageStep). t.phase) (earliest_first v.station.post.did) (step_adding v.station.post.worker a.0)
          (map (step_adding v.station.post.worker) a.1.0) rises)
  ordered_back v (retires joined) k o = record {
    some = o.some;
    right = o.right;
    rises = o.rises;
    none_later = λ page has. absurd (unsplit v.station.post.state joined (k.split page has).0);
  }
  ordered_back v (returns phase mask number gone) k o = record {
    some = o.some;
    right = masks-before masks v.station.post.masks (masks_entered v.station.post.masks phase mask)
        (entered_keeps (phase % 2 == 1) _ v.station.post.masks) o.right;
    rises = o.rises;
    none_later = λ page has. absurd (subst RunsSplit gone (k.split page has).0);
  }
  ordered_back v takes k o =
      record { some = o.some; right = o.right; rises = o.rises; none_later = o.none_later }
  ordered_back v (slices_like user page is) k o = record {
    some = o.some;
    right = o.right;
    rises = o.rises;
    none_later = λ other has.
        o.none_later other (elim (cases_eq page other) [
          | inl same ↦
              λ none. absurd (omega (
                arith,
                none,
                ap (λ n. get_or (set v.station.slice page (get_or v.station.slice page 0 + 1)) n 0) (sym same),
                slice-more v.station.slice page page
                    (subst (λ n. page < n) (sym k.sized) (page_there v.station user page is.accepted)),
                ap {B = ℕ} (λ b. cond b 1 0) (eq-eqb page page refl),
              ))
          | inr apart ↦
              λ none. has
              (sym (get_or-set_other v.station.slice page other _ 0 (λ e. apart (sym e))) ∙ none)
        ]);
  }
  ordered_back v (adds_like user page old number is) k o = one_back v _ _ refl refl refl o
  ordered_back v (reads user page shown number is last) k o = one_back v _ _ refl refl refl o
  ordered_back v (glances user page count shown number is last) k o = one_back v _ _ refl refl refl o
  ordered_back v (holds user page tag is) k o =
      record { some = o.some; right = o.right; rises = o.rises; none_later = o.none_later }

  -- whether a seat slices a page in the phase that it runs is whether the page is split in that phase
  pub is_split_here : (v : LiveView) (page : ℕ) → Stands first v → IsOrdered masks v → IsRunning v.station.post.state
      → is_split_at v.station.post page ≡ split_in first masks (phase_at v.station) page
  is_split_here v page k o runs =
      sym (split-known v.station.post.opening.limits.hot (is_marked v.station.post.opening.marks) masks v.station.post.masks (phase_at v.station) page
      o.right (λ odd plain hot. k.masked (runs_odd v.station.post.state runs odd)))
      ∙ (λ m. split_by (k.limits m).hot (is_marked (k.marks m)) masks (phase_at v.station) page) where
        runs_odd : (s : WorkerState) → IsRunning s → IsSplit (phase_of s) → RunsSplit s
        runs_odd (state.Runs k) runs odd = odd
        runs_odd (state.Answered k) runs odd = absurd runs
        runs_odd state.Gone runs odd = absurd runs
