-- What a look leaves true of a station.
use Rattle.std.proofs.Common.{◌≡◌, ℕ, ◌+◌, ◌%◌, ◌==◌, ◌≤◌, ◌||◌, Bool, true, false, cond, List, ◌∷◌, ap, sym, ◌∙◌, subst, refl, eq-eqb, arith}
use Rattle.std.specs.List.{list_any}
use Rattle.std.proofs.lemmas.Bool.{cond-false, cond-true, ne_eqb}
use Rattle.like_core.specs.declared.sight.Sight.{Sight}
use Rattle.like_core.specs.declared.view.PhaseMask.{PhaseMask}
use Rattle.like_core.specs.declared.worker_state.WorkerState.{WorkerState}
use Rattle.like_core.specs.declared.worker_state.WorkerState.TheVariants as state
use Rattle.like_core.specs.WorkerState.{IsRunning, IsSightOf, RunsSplit, SeesEndingStill, phase_of, seen}
use Rattle.like_core.specs.PhaseMasks.{HasMask}
use Rattle.like_core.specs.Post.{is_split_at, looked_at, number_of}
use Rattle.like_core.specs.declared.view.WorkerSeatView.{WorkerSeatView}
use Rattle.like_seat.specs.declared.tables.Tables.{Tables}
use Rattle.like_seat.specs.Kept.{Enters, IsKept, MayEnter, view_of}
use Rattle.like_seat.specs.StationView.{HasPhaseMask, IsSliceInSplit}
use Rattle.like_seat.specs.Steps.{LooksAndEnters, masks_entered, masks_in, saw_at}
use Rattle.like_seat.proofs.Entering.{IsKept-entered, IsKept-looked, MayEnter-kept, empty-entered, idle-answered, ran, ran-looked}

-- who stays in a phase has read the masks that it had read
same-masks : (masks : List PhaseMask) (from to mask : ℕ) → to ≡ from → masks_in masks from to mask ≡ masks
same-masks masks from to mask same = cond-true (to == from) masks (masks_entered masks to mask) (eq-eqb to from same)

-- a look that leaves the state leaves the masks
saw-same : (post : WorkerSeatView) (sight : Sight) (mask number : ℕ)
    → seen post.state sight ≡ post.state
    → saw_at post sight mask number ≡ looked_at post sight number
saw-same post sight mask number same =
    let masks = same-masks post.masks (phase_of post.state) (phase_of (seen post.state sight)) mask
    (ap phase_of same) in
    λ m. record (looked_at post sight number) { masks = masks m }

-- who waits stays
pub waiting-stays : (s : WorkerState) (sight : Sight) → sight.waits ≡ true → seen s sight ≡ s
waiting-stays (state.Runs k) sight waits = refl
waiting-stays (state.Answered k) sight waits =
    ap (λ (b : Bool). cond b (state.Answered k) (state.Runs (k + 1))) waits
waiting-stays state.Gone sight waits = refl

-- and its masks stay
pub saw-waiting : (post : WorkerSeatView) (sight : Sight) (mask number : ℕ)
    → sight.waits ≡ true
    → saw_at post sight mask number ≡ looked_at post sight number
saw-waiting post sight mask number waits = saw-same post sight mask number (waiting-stays post.state sight waits)

-- who doesn't wait runs a phase
runs-after : (s : WorkerState) (sight : Sight) → IsSightOf s sight → sight.waits ≡ false → IsRunning (seen s sight)
runs-after (state.Runs k) sight sees goes = tt
runs-after (state.Answered k) sight sees goes =
    subst (λ (b : Bool). IsRunning (cond b (state.Answered k) (state.Runs (k + 1)))) (sym goes) tt
runs-after state.Gone sight sees goes = absurd sees

-- a look that enters the next phase
pub saw-next : (post : WorkerSeatView) (sight : Sight) (mask number k : ℕ) → post.state ≡ state.Answered k
    → sight.waits ≡ false
    → saw_at post sight mask number
    ≡ record (looked_at post sight number) { masks = masks_entered post.masks (k + 1) mask }
saw-next post sight mask number k is goes =
    let next : phase_of (seen post.state sight) ≡ k + 1 =
    ap (λ s. phase_of (seen s sight)) is
    ∙ ap (λ (b : Bool). phase_of (cond b (state.Answered k) (state.Runs (k + 1)))) goes in
    let from : phase_of post.state ≡ k = ap phase_of is in
    let other : (phase_of (seen post.state sight) == phase_of post.state) ≡ false =
    ne_eqb _ _ (λ same. absurd (omega arith)) in
    let masks : masks_in post.masks (phase_of post.state) (phase_of (seen post.state sight)) mask
    ≡ masks_entered post.masks (k + 1) mask =
    cond-false (phase_of (seen post.state sight) == phase_of post.state) post.masks
    (masks_entered post.masks (phase_of (seen post.state sight)) mask) other
    ∙ ap (λ (n : ℕ). masks_entered post.masks n mask) next in
    λ m. record (looked_at post sight number) { masks = masks m }

module _ {W C : Type 0} (board there : List ℕ) (post looked : WorkerSeatView) (t : Tables W C) (sight : Sight)
    (kept : IsKept post t) (here : there ≡ board) (sees : IsSightOf post.state sight)
    (ending : SeesEndingStill post.state post.last sight)
    (look : looked ≡ looked_at post sight (number_of looked)) where
  -- a station looks, and stays in its phase
  pub looks-stayed : seen post.state sight ≡ post.state
      → IsKept looked t × LooksAndEnters (view_of board post t) sight (view_of there looked t)
  looks-stayed same =
      let keeps = IsKept-looked post looked t sight (number_of looked) kept look same in (
        keeps,
        record {
          sight = sees;
          ending = ending;
          looks = (0, λ m. view_of (here m) ((look ∙ sym (saw-same post sight 0 (number_of looked) same)) m) t);
          runs = λ goes. subst (λ (p : WorkerSeatView). IsRunning p.state) (sym look)
              (runs-after post.state sight sees goes);
          station = keeps.station;
        },
      )

  module _ (k : ℕ) (is : post.state ≡ state.Answered k) (goes : sight.waits ≡ false) where
    -- it looks, and sees that the next phase was released
    next : looked ≡ ran post looked (k + 1)
    next = ran-looked post looked sight k (number_of looked) look is goes

    pub may-enter : MayEnter looked t.slice (k + 1)
    may-enter = MayEnter-kept post looked t (k + 1) kept (idle-answered post.state k is) next

    -- and enters it
    pub looks-entered : (place : List ℕ) (now : WorkerSeatView) (after : Tables W C)
        → phase_of (seen post.state sight) ≤ post.opening.limits.last_phase
        → place ≡ there → Enters looked (k + 1) now t after
        → IsKept now after × LooksAndEnters (view_of board post t) sight (view_of place now after)
    looks-entered place now after within same enters =
        let mask : ℕ = enters.0 in
        let e = enters.1 in
        let phase : phase_of (seen post.state sight) ≡ k + 1 =
        ap (λ s. phase_of (seen s sight)) is
        ∙ ap (λ (b : Bool). phase_of (cond b (state.Answered k) (state.Runs (k + 1)))) goes in
        let keeps = IsKept-entered post looked now t after (k + 1) mask kept (idle-answered post.state k is) next e
        (omega (arith, phase, within)) in
        let entered : WorkerSeatView → WorkerSeatView =
        λ q. record q { masks = masks_entered q.masks (k + 1) mask } in
        let number : ℕ = number_of looked in
        let same_number : number ≡ number_of now = sym (ap (λ (p : WorkerSeatView). number_of p) e.at_post) in
        let enter : now ≡ entered (looked_at post sight number) =
        ◌∙◌ {b = entered looked} e.at_post (ap entered look) in
        let is_now : now ≡ saw_at post sight mask (number_of now) =
        ◌∙◌ {b = entered (looked_at post sight number)} enter
        (sym (saw-next post sight mask number k is goes) ∙ ap (saw_at post sight mask) same_number) in
        let slice = empty-entered post looked now t after (k + 1) mask kept (idle-answered post.state k is) next e in (
          keeps,
          record {
            sight = sees;
            ending = ending;
            looks = (
              mask,
              λ m. record (view_of board post t) {
                board = (same ∙ here) m;
                post = is_now m;
                stash = (e.rest m).stash;
                slice = slice m;
                sliced = (e.rest m).sliced.likes;
                last = (e.rest m).last;
              },
            );
            runs = λ _. subst (λ (p : WorkerSeatView). IsRunning p.state) (sym is_now)
                (runs-after post.state sight sees goes);
            station = keeps.station;
          },
        )

-- a slice is in a split phase after a look, too
pub splits-after : (post : WorkerSeatView) (slice : List ℕ) (sight : Sight) (mask number : ℕ)
    → IsSliceInSplit post slice
    → IsSliceInSplit (saw_at post sight mask number) slice
splits-after post slice sight mask number kept page some = by_state post.state refl (kept page some).0
  where
    by_state : (s : WorkerState) → post.state ≡ s → RunsSplit s
        → RunsSplit (saw_at post sight mask number).state × (is_split_at (saw_at post sight mask number) page ≡ true)
    by_state (state.Runs k) is odd =
        let seen_is : seen post.state sight ≡ post.state = ap (λ s. seen s sight) is ∙ sym is in
        let saw_is : saw_at post sight mask number ≡ record (looked_at post sight number) { state = post.state } =
        saw-same post sight mask number seen_is
        ∙ (λ m. record (looked_at post sight number) { state = seen_is m }) in
        subst (λ (p : WorkerSeatView). RunsSplit p.state × (is_split_at p page ≡ true)) (sym saw_is) (kept page some)
    by_state (state.Answered k) is odd = absurd odd
    by_state state.Gone is odd = absurd odd

-- who runs a split phase after a look has read its mask, where it had read that of the one before
pub has-after : (post : WorkerSeatView) (sight : Sight) (mask number : ℕ) → HasPhaseMask post
    → HasPhaseMask (saw_at post sight mask number)
has-after post sight mask number has = by_state post.state refl
  where
    entered : (k : ℕ) → post.state ≡ state.Answered k → (waits : Bool) → sight.waits ≡ waits
        → HasPhaseMask (saw_at post sight mask number)
    entered k is true w =
        let s : seen post.state sight ≡ state.Answered k =
        ap (λ s. seen s sight) is ∙ ap (λ (b : Bool). cond b (state.Answered k) (state.Runs (k + 1))) w in
        λ runs. absurd (subst RunsSplit s runs)
    entered k is false w =
        let s : seen post.state sight ≡ state.Runs (k + 1) =
        ap (λ s. seen s sight) is ∙ ap (λ (b : Bool). cond b (state.Answered k) (state.Runs (k + 1))) w in
        let masks : (saw_at post sight mask number).masks ≡ masks_entered post.masks (k + 1) mask =
        ap (λ (p : WorkerSeatView). p.masks) (saw-next post sight mask number k is w) in
        subst (λ x. RunsSplit x → HasMask (phase_of x) (saw_at post sight mask number).masks) (sym s)
        (λ odd. subst (HasMask (k + 1))
        (sym (masks ∙ cond-true ((k + 1) % 2 == 1) (record { phase = k + 1; mask = mask } ∷ post.masks) post.masks
        (eq-eqb ((k + 1) % 2) 1 odd)))
        (ap (λ (b : Bool). b || list_any (λ (m : PhaseMask). m.phase == (k + 1)) post.masks)
        (eq-eqb (k + 1) (k + 1) refl)))

    by_state : (s : WorkerState) → post.state ≡ s → HasPhaseMask (saw_at post sight mask number)
    by_state (state.Runs k) is =
        let seen_is : seen post.state sight ≡ post.state = ap (λ s. seen s sight) is ∙ sym is in
        let saw_is : saw_at post sight mask number ≡ record (looked_at post sight number) { state = post.state } =
        saw-same post sight mask number seen_is
        ∙ (λ m. record (looked_at post sight number) { state = seen_is m }) in
        subst (λ (p : WorkerSeatView). HasPhaseMask p) (sym saw_is) has
    by_state (state.Answered k) is = entered k is sight.waits refl
    by_state state.Gone is =
        let s : seen post.state sight ≡ state.Gone = ap (λ s. seen s sight) is in
        λ runs. absurd (subst RunsSplit s runs)
