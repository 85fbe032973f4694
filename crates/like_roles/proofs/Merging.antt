-- How a worker merges its slice page by page, and notes the additions.
use Rattle.std.proofs.Common.{◌≡◌, ℕ, ◌++◌, Bool, true, false, cond, List, [], ◌∷◌, length, map, refl, ap, sym, ◌∙◌, append-nil, append_assoc}
use Rattle.std.proofs.lemmas.List.{map-append}
use Rattle.like_core.specs.declared.view.Addition.{Addition}
use Rattle.like_tables.specs.declared.held.Held.{Held}
use Rattle.like_seat.specs.Merge as merge
use Rattle.like_roles.specs.worker.Merges.{Merges}
use Rattle.like_seat.specs.StationView.{StationView, phase_at}
use Rattle.like_core.specs.PageSteps.{step_adding}
use Rattle.like_core.specs.Post.{pages_of}
use Rattle.like_seat.proofs.WholeMerge.{merge_of}
use Rattle.like_promises.specs.declared.log.Added.{Added}
use Rattle.like_roles.specs.declared.worker.ledger.Ledger.{Ledger}
use Rattle.like_roles.specs.worker.Ledger.{HasNoted, view_of}
use Rattle.like_roles.specs.worker.Serve.{noted_at, noted_if}
use Rattle.like_roles.specs.worker.Turns.{IsMerged}

-- no addition leaves what was noted
noted-none : (notes : Bool) (at : ℕ) (xs : List Added) → xs ++ noted_if notes at [] ≡ xs
noted-none true at xs = append-nil xs
noted-none false at xs = append-nil xs

-- additions that are noted after others are noted with them
noted-append : (notes : Bool) (at : ℕ) (xs : List Added) (adds more : List Addition)
    → (xs ++ noted_if notes at adds) ++ noted_if notes at more ≡ xs ++ noted_if notes at (adds ++ more)
noted-append notes at xs adds more =
    append_assoc xs (noted_if notes at adds) (noted_if notes at more)
    ∙ ap (λ (ys : List Added). xs ++ ys) (by_test notes)
  where
    by_test : (b : Bool)
        → cond b (map (noted_at at) adds) [] ++ cond b (map (noted_at at) more) []
        ≡ cond b (map (noted_at at) (adds ++ more)) []
    by_test true = sym (map-append (noted_at at) adds more)
    by_test false = refl

-- the additions were noted, where additions are, and all else is as it was
pub record HaveNoted (d0 d : Ledger) (adds : List Addition) : Type 0 where
  pub noted : d.adds.items ≡ d0.adds.items ++ noted_if d0.notes (length d0.ran.items) adds
  pub rest : d ≡ record d0 { adds = d.adds }

pub HaveNoted-none : (d : Ledger) → HaveNoted d d []
HaveNoted-none d = record { noted = sym (noted-none d.notes (length d.ran.items) d.adds.items); rest = refl }

-- one more was
pub HaveNoted-more : (s : StationView Held) (d0 d e : Ledger) (adds : List Addition) (phase page old n : ℕ)
    → HaveNoted d0 d adds
    → HasNoted d e phase page old n
    → phase ≡ phase_at s
    → n ≡ (merge_of s page old).likes
    → HaveNoted d0 e (adds ++ merge_of s page old ∷ [])
HaveNoted-more s d0 d e adds phase page old n have has phase_is n_is = record {
  noted =
      has.noted
      ∙ (λ k. have.noted k
      ++ noted_if (have.rest k).notes (length (have.rest k).ran.items)
      (record { phase = phase_is k; page = page; old = old; likes = n_is k } ∷ []))
      ∙ noted-append d0.notes (length d0.ran.items) d0.adds.items adds (merge_of s page old ∷ []);
  rest = has.rest ∙ (λ k. record (have.rest k) { adds = e.adds });
}

-- the worker has merged its slice
pub IsMerged-noted : (s t : StationView Held) (d e : Ledger) (adds : List Addition)
    → Merges (phase_at s) s.slice (pages_of s.post) adds
    → t ≡ merge.merged s adds t.post.logged
    → merge.LogsSteps (map (step_adding s.post.worker) adds) s.post.logged t.post.logged
    → HaveNoted d e adds
    → IsMerged (view_of s d) (view_of t e)
IsMerged-noted s t d e adds merges is logs have = (
  adds,
  (
    merges,
    (λ k. view_of (is k) (have.rest k))
        ∙ (λ k. record (view_of (merge.merged s adds t.post.logged) d) { adds = have.noted k }),
    logs,
  ),
)
