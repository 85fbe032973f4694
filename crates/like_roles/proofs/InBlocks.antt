-- How the blocks of a worker's order change, and what its state says of them.
use Rattle.std.proofs.Common.{◌≡◌, ℕ, zero, suc, ◌+◌, ◌%◌, ◌≤◌, ◌⊎◌, List, [], ◌∷◌, ◌++◌, map, refl, ap, sym, ◌∙◌, subst, inl, inr, arith}
use Rattle.std.proofs.lemmas.List.Elements.{All-head, All-map, All-tail}
use Rattle.std.specs.List.{All, AllByRecursion}
use Rattle.like_core.specs.declared.worker_state.WorkerState.{WorkerState}
use Rattle.like_core.specs.declared.worker_state.WorkerState.TheVariants as state
use Rattle.like_core.specs.Phase.{IsJoined}
use Rattle.like_core.specs.WorkerState.{RunsSome, phase_of}
use Rattle.like_promises.specs.declared.log.Took.{Took}
use Rattle.like_roles.specs.worker.Follows.{IsInOrder, HasNothingLater, Stands, entry_stashed, next_joined}
use Rattle.like_promises.specs.Order.{Entry, block, entry_of}
use Rattle.like_promises.specs.Workload.{Workload}
use Rattle.like_roles.specs.worker.WorkerView.{WorkerView, phase_at}
use Rattle.like_promises.proofs.Blocks.{order_below, block-phase, order-parts, order_below-phases}

-- a phase is even or odd
pub parity : (k : ℕ) → (k % 2 ≡ 0) ⊎ (k % 2 ≡ 1)
parity k = of_rest (k % 2) refl where
  of_rest : (r : ℕ) → k % 2 ≡ r → (k % 2 ≡ 0) ⊎ (k % 2 ≡ 1)
  of_rest zero e = inl e
  of_rest (suc zero) e = inr e
  of_rest (suc (suc r)) e = absurd (omega arith)

-- what was taken up to a phase was taken before the next
pub before-next : (xs : List Took) (n : ℕ) → All (λ t. t.phase ≤ n) xs → AllByRecursion (λ t. t.phase + 1 ≤ n + 1) xs
before-next [] n all = tt
before-next (t ∷ xs) n all = let first = All-head (λ s. s.phase ≤ n) t xs all in
    (omega arith, before-next xs n (All-tail (λ s. s.phase ≤ n) t xs all))

-- the phase that a worker runs is as its state says
pub runs-phase : (P : ℕ → Type 0) (s : WorkerState) → RunsSome P s → P (phase_of s)
runs-phase P (state.Runs k) r = r
runs-phase P (state.Answered k) r = absurd r
runs-phase P state.Gone r = absurd r

pub runs-weaker : (P Q : ℕ → Type 0) (s : WorkerState) → ((k : ℕ) → P k → Q k) → RunsSome P s → RunsSome Q s
runs-weaker P Q (state.Runs k) f r = f k r
runs-weaker P Q (state.Answered k) f r = absurd r
runs-weaker P Q state.Gone f r = absurd r

-- what its state says of a worker that runs a phase
pub within-of_running : (v : WorkerView) (P : ℕ → Type 0) (s : WorkerState)
    → RunsSome P s
    → Stands v s
    → HasNothingLater v.taken v.ran (phase_of s)
within-of_running v P (state.Runs k) r w = w
within-of_running v P (state.Answered k) r w = absurd r
within-of_running v P state.Gone r w = absurd r

pub running-of_within : (v : WorkerView) (P : ℕ → Type 0) (s : WorkerState)
    → RunsSome P s
    → HasNothingLater v.taken v.ran (phase_of s)
    → Stands v s
running-of_within v P (state.Runs k) r w = w
running-of_within v P (state.Answered k) r w = absurd r
running-of_within v P state.Gone r w = absurd r

-- two lists of entries up to a phase and then of the next one are the same in both parts
parts-same : (k : ℕ) (xs ys us vs : List Entry)
    → All (λ e. e.phase ≤ k) xs
    → All (λ e. e.phase ≡ k + 1) ys
    → All (λ e. e.phase ≤ k) us
    → All (λ e. e.phase ≡ k + 1) vs
    → xs ++ ys ≡ us ++ vs
    → (xs ≡ us) × (ys ≡ vs)
parts-same k [] ys [] vs low next low_too next_too same = (refl, same)
parts-same k [] ys (u ∷ us) vs low next low_too next_too same =
    let early = All-head (λ (e : Entry). e.phase ≤ k) u us low_too in
    let late = All-head (λ (e : Entry). e.phase ≡ k + 1) u (us ++ vs)
    (subst (All (λ (e : Entry). e.phase ≡ k + 1)) same next) in
    absurd (omega arith)
parts-same k (x ∷ xs) ys [] vs low next low_too next_too same =
    let early = All-head (λ (e : Entry). e.phase ≤ k) x xs low in
    let late = All-head (λ (e : Entry). e.phase ≡ k + 1) x (xs ++ ys)
    (subst (All (λ (e : Entry). e.phase ≡ k + 1)) (sym same) next_too) in
    absurd (omega arith)
parts-same k (x ∷ xs) ys (u ∷ us) vs low next low_too next_too same =
    let whole : x ∷ (xs ++ ys) ≡ u ∷ (us ++ vs) = same in
    let first : x ≡ u = cc in
    let others : xs ++ ys ≡ us ++ vs = cc in
    let rest = parts-same k xs ys us vs (All-tail (λ (e : Entry). e.phase ≤ k) x xs low) next
    (All-tail (λ (e : Entry). e.phase ≤ k) u us low_too) next_too others in
    ((λ i. first i ∷ rest.0 i), rest.1)

-- where a worker holds nothing in a joined phase, what it ran are the blocks up to its phase, and what it holds is the
-- next block
pub parts : (workload : Workload) (v : WorkerView)
    → IsInOrder workload v
    → HasNothingLater v.taken v.ran (phase_at v)
    → (IsJoined (phase_at v) → v.stash.looks ≡ [])
    → (map entry_of v.ran ≡ order_below workload v.taken (phase_at v + 1))
    × (map (entry_stashed (next_joined v)) v.stash.looks ≡ block workload v.taken (phase_at v + 1))
parts workload v in_order within empty =
    let k : ℕ = phase_at v in
    let stashed : List Entry = map (entry_stashed (k + 1)) v.stash.looks in
    let next : map (entry_stashed (next_joined v)) v.stash.looks ≡ stashed =
    elim (parity k) [
      | inl even ↦ ap (map (entry_stashed (next_joined v))) (empty even) ∙ ap (map (entry_stashed (k + 1))) (sym (empty even))
      | inr odd ↦ let same : next_joined v ≡ k + 1 = omega arith in ap (λ n. map (entry_stashed n) v.stash.looks) same
    ] in
    let both = parts-same k (map entry_of v.ran) stashed
    (order_below workload v.taken (k + 1)) (block workload v.taken (k + 1))
    (All-map (λ (e : Entry). e.phase ≤ k) entry_of v.ran within.1)
    (All-map (λ (e : Entry). e.phase ≡ k + 1) (entry_stashed (k + 1)) v.stash.looks (λ i d inside. refl))
    (λ i d inside. let low = order_below-phases workload v.taken (k + 1) i d inside in omega arith)
    (block-phase workload v.taken (k + 1))
    (ap (λ (xs : List Entry). map entry_of v.ran ++ xs) (sym next) ∙ in_order
    ∙ order-parts workload v.taken k (before-next v.taken k within.0)) in
    (both.0, next ∙ both.1)
