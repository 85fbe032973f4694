-- Run order, phase by phase: it is the blocks of what was asked, one after the other.
use Rattle.std.proofs.Common.{◌≡◌, ℕ, zero, suc, ◌+◌, ◌≤◌, Bool, true, false, cond, ◌==◌, List, [], ◌∷◌, ◌++◌, filter, map, ap, ap₂, sym, ◌∙◌, refl, arith}
use Rattle.like_promises.specs.declared.log.Took.{Took}
use Rattle.like_promises.specs.Order.{Entry, block, order, phases_of}
use Rattle.like_promises.specs.Workload.{Workload}
use Rattle.like_promises.proofs.Blocks.{order-enough, order_below, order_below-suc}
use Rattle.like_serial.proofs.Interleaved.{all_of, all_of-own, with_key}
use Rattle.like_serial.proofs.Logs.{all_filter, all_map, block_phase}
use Rattle.like_serial.proofs.Phases.{Rises, above, all_above, sorted, sorted-same}

-- run order is the blocks of the phases below a number
below_is : (workload : Workload) (taken : List Took) (n : ℕ)
    → order_below workload taken n ≡ all_of (block workload taken) n
below_is workload taken zero = refl
below_is workload taken (suc n) =
    order_below-suc workload taken n ∙ ap (λ zs. zs ++ block workload taken n) (below_is workload taken n)

-- its entries of a phase are that phase's block
pub block_of : (workload : Workload) (taken : List Took) (phase : ℕ)
    → filter (λ e. e.phase == phase) (order workload taken) ≡ block workload taken phase
block_of workload taken phase =
    let n = phases_of taken + 1 + suc phase in
    let key : Entry → ℕ = λ e. e.phase in
    ap (with_key key phase) (sym (order-enough workload taken n (omega arith)) ∙ below_is workload taken n)
    ∙ all_of-own key (block workload taken) n phase (block_phase workload taken) (omega arith)

-- what rises still rises in part, and under another name
pub rises_filter : {X : Type 0} (phase : X → ℕ) (t : X → Bool) (xs : List X)
    → Rises phase xs
    → Rises phase (filter t xs)
rises_filter phase t [] rises = tt
rises_filter {X} phase t (x ∷ xs) rises = by (rises_filter phase t xs rises.1) (t x) where
  by : Rises phase (filter t xs) → (b : Bool) → Rises phase (cond b (x ∷ filter t xs) (filter t xs))
  by more true = (all_filter (λ y. phase x ≤ phase y) t xs rises.0, more)
  by more false = more

pub rises_map : {X Y : Type 0} (phase : Y → ℕ) (f : X → Y) (xs : List X)
    → Rises (λ x. phase (f x)) xs
    → Rises phase (map f xs)
rises_map phase f [] rises = tt
rises_map phase f (x ∷ xs) rises = (all_map (λ y. phase (f x) ≤ phase y) f xs rises.0, rises_map phase f xs rises.1)

-- a list that rises and has these blocks is run order
blocks_are : (xs : List Entry) (blocks : ℕ → List Entry) (n : ℕ)
    → ((k : ℕ) → filter (λ e. e.phase == k) xs ≡ blocks k)
    → sorted (λ e. e.phase) xs n ≡ all_of blocks n
blocks_are xs blocks zero each = refl
blocks_are xs blocks (suc n) each = ap₂ (λ a b. a ++ b) (blocks_are xs blocks n each) (each n)

pub in_order : (workload : Workload) (taken : List Took) (xs : List Entry)
    → Rises (λ e. e.phase) xs
    → ((k : ℕ) → filter (λ e. e.phase == k) xs ≡ block workload taken k)
    → xs ≡ order workload taken
in_order workload taken xs rises each =
    let key : Entry → ℕ = λ e. e.phase in
    let more = phases_of taken + 1 in
    let n = above key xs + more in
    sym (sorted-same key xs n rises (all_above key more xs))
    ∙ blocks_are xs (block workload taken) n (λ k. each k)
    ∙ sym (below_is workload taken n)
    ∙ order-enough workload taken n (omega arith)
