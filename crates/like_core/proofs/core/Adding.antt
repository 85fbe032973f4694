-- An addition to a page's count as events of the core: a like, or likes of a slice and their merge.
use Rattle.std.proofs.Common.{◌≡◌, ℕ, zero, suc, ◌+◌, ◌<◌, Bool, true, false, cond, List, [], ◌∷◌, ◌++◌, length, get_or, replicate, subst, ap, sym, ◌∙◌, refl, eq-eqb, arith, fold}
use Rattle.std.proofs.lemmas.Bool.{cond-false}
use Rattle.like_core.specs.declared.worker_state.WorkerState.TheVariants.{Runs}
use Rattle.like_core.specs.declared.event.Event.{Event}
use Rattle.like_core.specs.declared.event.Event.TheVariants.{Like, Merge}
use Rattle.like_core.specs.declared.shown.Shown.TheVariants.{Sliced, Old}
use Rattle.like_core.specs.declared.opening.Opening.{Opening}
use Rattle.like_limits.specs.Limits.{total_bound}
use Rattle.like_core.specs.Functions.{sum_below, update, times}
use Rattle.like_core.specs.core.Numbers.{total}
use Rattle.like_core.specs.core.Table.{Permits, IsShown}
use Rattle.like_core.specs.core.State.{Label, CoreState, without, is_split_now, after, numbers}
use Rattle.like_core.specs.core.Reachable.{PermitsAll}
use Rattle.like_core.proofs.Updates.{update-same, update-other, update_cases}
use Rattle.like_core.proofs.Times.{times-cons_same}
use Rattle.like_core.proofs.core.GivenLikes.{given_to, given_to-cons, given_to-nil, total-given_to, after-like}
use Rattle.like_core.proofs.core.Labels.{label}

-- a sum of nothing
sum_below_none : (f : ℕ → ℕ) (n : ℕ) → ((i : ℕ) → f i ≡ 0) → sum_below f n ≡ 0
sum_below_none f zero none = refl
sum_below_none f (suc n) none = let before = sum_below_none f n none in let here = none n in omega arith

-- without unmerged likes a page's total is its count
total_merged : (z : Opening) (s : CoreState) (page : ℕ)
    → ((i : ℕ) → s.unmerged i ≡ [])
    → total (numbers z s) page ≡ get_or z.counts page 0 + length (s.applied page)
total_merged z s page merged =
    let none = sum_below_none (λ i. times page (s.unmerged i)) z.workers (λ i. ap (times page) (merged i)) in
    omega arith

times-replicate : (page n : ℕ) → times page (replicate n page) ≡ n
times-replicate page zero = refl
times-replicate page (suc n) =
    let rest = times-replicate page n in let more = times-cons_same page (replicate n page) in omega arith

without-replicate : (page n : ℕ) → without page (replicate n page) ≡ []
without-replicate page zero = refl
without-replicate page (suc n) = rw (eq-eqb page page refl) (without-replicate page n)

-- so many likes of a split page are permitted one after the other, and give their worker so many
likes_of : (z : Opening) (s : CoreState) (i page n : ℕ)
    → i < z.workers
    → page < length z.counts
    → s.state i ≡ Runs s.phase
    → is_split_now z s page ≡ true
    → total (numbers z s) page + n < total_bound
    → PermitsAll z s (replicate n (Like i page))
    × (fold (after z) s (replicate n (Like i page)) ≡ given_to s i (replicate n page))
likes_of z s i page zero there on runs sliced room = (tt, sym (given_to-nil s i))
likes_of z s i page (suc n) there on runs sliced room =
    let one : CoreState = given_to s i (page ∷ []) in
    let first : after z s (Like i page) ≡ one = after-like z s i page sliced in
    let more = total-given_to z s i (page ∷ []) page there in
    let single = times-cons_same page [] in
    let none : times page [] ≡ 0 = refl in
    let rest = likes_of z one i page n there on runs sliced (omega arith) in
    let may : Permits (numbers z s) (Like i page) =
    record { there = (there, on); suits = runs; leaves_last = tt; room = omega arith }
    in (
      (may, subst (λ (u : CoreState). PermitsAll z u (replicate n (Like i page))) (sym first) rest.0),
      ap (λ (u : CoreState). fold (after z) u (replicate n (Like i page))) first ∙
          (rest.1 ∙ given_to-cons s i page (replicate n page)),
    )

-- the state after more likes were applied to a page, where these are still unmerged
abbrev pub with_applied : CoreState → (ℕ → List ℕ) → ℕ → List Label → CoreState
with_applied s rest page more = record s { unmerged = rest; applied = update s.applied page (s.applied page ++ more) }

-- an addition of n by worker i to a page, as some events and a last one
pub record Adding (z : Opening) (s : CoreState) (i page n : ℕ) (events : List Event) (event : Event) : Type 0 where
  pub before : PermitsAll z s events
  pub permits : Permits (numbers z (fold (after z) s events)) event
  pub tells : IsShown (numbers z (fold (after z) s events)) event (Old (get_or z.counts page 0 + length (s.applied page)))
  pub rest : ℕ → List ℕ
  pub merged : (j : ℕ) → rest j ≡ []
  pub leads : after z (fold (after z) s events) event ≡ with_applied s rest page (replicate n (label i s.phase))

-- a like of a page that is not split
adds_plain : (z : Opening) (s : CoreState) (i page : ℕ)
    → ((j : ℕ) → s.unmerged j ≡ [])
    → i < z.workers
    → page < length z.counts
    → s.state i ≡ Runs s.phase
    → is_split_now z s page ≡ false
    → get_or z.counts page 0 + length (s.applied page) + 1 < total_bound
    → Adding z s i page 1 [] (Like i page)
adds_plain z s i page merged there on runs plain small =
    let all = total_merged z s page merged in
    record {
      before = tt;
      permits = record { there = (there, on); suits = runs; leaves_last = tt; room = omega arith };
      tells = sym (cond-false (is_split_now z s page) Sliced
          (Old (get_or z.counts page 0 + length (s.applied page))) plain);
      rest = s.unmerged;
      merged = merged;
      leads = cond-false (is_split_now z s page) _ _ plain;
    }

-- likes of a split page and their merge
adds_sliced : (z : Opening) (s : CoreState) (i page n : ℕ)
    → ((j : ℕ) → s.unmerged j ≡ [])
    → i < z.workers
    → page < length z.counts
    → s.state i ≡ Runs s.phase
    → is_split_now z s page ≡ true
    → s.ending ≡ true
    → get_or z.counts page 0 + length (s.applied page) + n < total_bound
    → Adding z s i page n (replicate n (Like i page)) (Merge i page)
adds_sliced z s i page n merged there on runs sliced ending small =
    let all = total_merged z s page merged in
    let likes = likes_of z s i page n there on runs sliced (omega arith) in
    let u : CoreState = given_to s i (replicate n page) in
    let own : u.unmerged i ≡ replicate n page =
    update-same s.unmerged i (s.unmerged i ++ replicate n page) ∙ ap (λ (l : List ℕ). l ++ replicate n page) (merged i)
    in
    let rest : ℕ → List ℕ = update u.unmerged i (without page (u.unmerged i)) in
    let P : CoreState → Type 0 =
    λ x.
    Permits (numbers z x) (Merge i page)
    × IsShown (numbers z x) (Merge i page) (Old (get_or z.counts page 0 + length (s.applied page)))
    × (after z x (Merge i page) ≡ with_applied s rest page (replicate n (label i s.phase)))
    in
    let merges : P u = (
      record { there = (there, on); suits = (runs, sliced, ending); leaves_last = tt; room = tt },
      refl,
      ap (λ (k : ℕ). with_applied s rest page (replicate k (label i s.phase)))
          (ap (times page) own ∙ times-replicate page n),
    )
    in
    let then_merges = subst P (sym likes.1) merges in
    let Q : ℕ → List ℕ → Type 0 = λ j l. l ≡ [] in
    record {
      before = likes.0;
      permits = then_merges.0;
      tells = then_merges.1;
      rest = rest;
      merged =
          update_cases Q u.unmerged i (without page (u.unmerged i))
          (ap (without page) own ∙ without-replicate page n)
          (λ j other. update-other s.unmerged i (s.unmerged i ++ replicate n page) j other ∙ merged j);
      leads = then_merges.2;
    }

-- an addition is the like where the page is not split, and else the likes and their merge
pub adds_either : (z : Opening) (s : CoreState) (i page n : ℕ) (sliced : Bool)
    → is_split_now z s page ≡ sliced
    → (sliced ≡ false → n ≡ 1)
    → (sliced ≡ true → s.ending ≡ true)
    → ((j : ℕ) → s.unmerged j ≡ [])
    → i < z.workers
    → page < length z.counts
    → s.state i ≡ Runs s.phase
    → get_or z.counts page 0 + length (s.applied page) + n < total_bound
    → Adding z s i page n (cond sliced (replicate n (Like i page)) []) (cond sliced (Merge i page) (Like i page))
adds_either z s i page n true is one ending merged there on runs small =
    adds_sliced z s i page n merged there on runs is (ending refl) small
adds_either z s i page n false is one ending merged there on runs small =
    let single = one refl in
    subst (λ (k : ℕ). Adding z s i page k [] (Like i page)) (sym single)
    (adds_plain z s i page merged there on runs is (omega arith))
