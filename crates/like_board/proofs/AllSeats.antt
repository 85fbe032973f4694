-- A new board that one thread owns has a seat for each worker.
use Rattle.std.proofs.Common.{◌≡◌, ℕ, zero, suc, ◌+◌, ◌<◌, ◌≤◌, inl, inr, List, [], ◌∷◌, ◌++◌, length, refl, subst, ap, sym, ◌∙◌, arith}
use Rattle.std.specs.Prelude.{⊤}
use Rattle.std.proofs.lemmas.Bool.{cases_lt}
use Rattle.std.proofs.lemmas.List.{length-append}
use mathlib.Core.Option.{some}
use lib.ListN.{get_elem?}
use Rattle.own_table.specs.Standing.{state}
use Rattle.like_core.specs.declared.opening.Opening.{Opening}
use Rattle.like_core.specs.declared.view.CoordSeatView.{CoordSeatView}
use Rattle.like_core.specs.declared.view.View.TheVariants.{Coord, Worker}
use Rattle.like_core.specs.views.Views.{fresh_coord}
use Rattle.like_core.specs.views.Shows.{ShowsSome}
use Rattle.like_core.specs.Post.{fresh}
use Rattle.like_board.specs.declared.key.Key.{Key}
use Rattle.like_board.specs.NewViews.{new_workers}
use Rattle.like_board.specs.Rule.{first_view, first_word, opening_of}
use Rattle.like_board.proofs.Allowed.{making}

-- there are as many
pub workers_long : (z : Opening) (n : ℕ) → length (new_workers z n) ≡ n
unfolding new_workers
workers_long z zero = refl
workers_long z (suc n) =
    let before = workers_long z n in
    let both = length-append (new_workers z n) (Worker (fresh z n) ∷ []) in
    omega (arith, before, both)

at_end : {A : Type 0} (l : List A) (x : A) → get_elem? (l ++ x ∷ []) (length l) ≡ some x
at_end [] x = refl
at_end (y ∷ l) x = at_end l x

within : {A : Type 0} (l m : List A) (i : ℕ) → i < length l → get_elem? (l ++ m) i ≡ get_elem? l i
within [] m i below = absurd (omega arith)
within (y ∷ l) m zero below = refl
within (y ∷ l) m (suc i) below = within l m i (omega arith)

-- each knows nothing yet
pub worker_is : (z : Opening) (n i : ℕ) → i < n → get_elem? (new_workers z n) i ≡ some (Worker (fresh z i))
unfolding new_workers
worker_is z zero i below = absurd (omega arith)
worker_is z (suc n) i below =
    let long = workers_long z n in
    elim (cases_lt i n) [
      | inl before ↦
          within (new_workers z n) (Worker (fresh z n) ∷ []) i (omega (arith, long, before)) ∙ worker_is z n i before
      | inr last ↦
          let same : i ≡ n = omega (arith, last, below) in
          ap (get_elem? (new_workers z n ++ Worker (fresh z n) ∷ [])) (same ∙ sym long)
          ∙ at_end (new_workers z n) (Worker (fresh z n)) ∙ ap (λ k. some (Worker (fresh z k))) (sym same)
    ]

-- the coordinator's view, once so many seats are made
abbrev coord_after : Opening → ℕ → CoordSeatView
coord_after z n = record (fresh_coord z (first_word z)) { made = n }

-- what is shown with the coordinator's seat alone is shown with so many workers' seats
pub shows_made : (key : Key) (words : List ℕ) (n : ℕ)
    → n ≤ (opening_of key).workers
    → ShowsSome (opening_of key) words (first_view key ∷ [])
    → ShowsSome (opening_of key) words (Coord (coord_after (opening_of key) n) ∷ new_workers (opening_of key) n)
unfolding new_workers
shows_made key words zero few shows = shows
shows_made key words (suc n) few shows =
    let z = opening_of key in
    let before = shows_made key words n (omega (arith, few)) shows in
    let next : n + 1 ≡ suc n = omega arith in
    subst (λ k. ShowsSome z words (Coord (coord_after z k) ∷ (new_workers z n ++ Worker (fresh z n) ∷ []))) next
    (making {S = ⊤} key 0 (Coord (coord_after z n)) refl (omega (arith, few))
    (state words (Coord (coord_after z n) ∷ new_workers z n)) before refl)
