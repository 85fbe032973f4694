-- The word of a service serves: no count carries into its neighbour.
use Rattle.std.proofs.Common.{◌≡◌, ℕ, ◌+◌, ◌-◌, ◌*◌, ◌/◌, ◌%◌, ◌^◌, ◌<◌, ◌≤◌, Bool, true, false, subst, ap, sym, ◌∙◌, refl, eq-eqb, arith}
use Rattle.std.proofs.lemmas.Bool.{eqb-true}
use Rattle.like_core.specs.declared.form.Form.{Form}
use Rattle.like_core.specs.declared.form.Form.TheVariants.{Counts}
use Rattle.like_core.specs.declared.worker_state.WorkerState.{WorkerState}
use Rattle.like_core.specs.declared.worker_state.WorkerState.TheVariants.{Runs, Answered, Gone}
use Rattle.like_core.specs.declared.opening.Opening.{Opening}
use Rattle.like_core.specs.Functions.{update, how_many}
use Rattle.like_core.specs.OpeningLimits.{most_phase, most_seats}
use Rattle.like_core.specs.WorkerState.{looked}
use Rattle.like_core.specs.core.State.{CoreState}
use Rattle.like_core.specs.core.Exclusive.{IsInPhase}
use Rattle.like_core.specs.word.Forms.{has_answered, is_gone, counts, kind_in}
use Rattle.like_core.specs.views.Shows.{IsOpening}
use Rattle.like_core.specs.views.Serves.{AllGoneCounts, AllInCounts, AnswersOne, RetiresOne, ReturnsOne, Serves, answered_now, gone_now}
use Rattle.like_core.proofs.Updates.{update-same, update-other}
use Rattle.like_core.proofs.word.HowMany.{how_many-same, how_many-none, how_many-more, how_many-both, how_many-all, all-how_many}
use Rattle.like_core.proofs.word.States.{weight-lt, not_both, looked-has_answered, looked-is_gone, test_same, in_not_next, in_test, test_in, gone_test, kind_released}

pub answers_one : AnswersOne
answers_one z s i phase there runs =
    let st : WorkerState = Answered s.phase in (
      how_many-more (λ j. has_answered s.phase (s.state j)) (λ j. has_answered s.phase (update s.state i st j))
          z.workers i there
          (ap (has_answered s.phase) runs)
          (ap (has_answered s.phase) (update-same s.state i st) ∙ eq-eqb s.phase s.phase refl)
          (λ j other. ap (has_answered s.phase) (update-other s.state i st j other)),
      how_many-same (λ j. is_gone (update s.state i st j)) (λ j. is_gone (s.state j)) z.workers
          (λ j _. test_same is_gone s i st (ap is_gone (sym runs)) j),
    )

pub retires_one : RetiresOne
retires_one z s i phase there runs = (
  how_many-more (λ j. is_gone (s.state j)) (λ j. is_gone (update s.state i Gone j)) z.workers i there
      (ap is_gone runs)
      (ap is_gone (update-same s.state i Gone))
      (λ j other. ap is_gone (update-other s.state i Gone j other)),
  how_many-same (λ j. has_answered s.phase (update s.state i Gone j)) (λ j. has_answered s.phase (s.state j)) z.workers
      (λ j _. test_same (has_answered s.phase) s i Gone (ap (has_answered s.phase) (sym runs)) j),
)

pub returns_one : ReturnsOne
returns_one z s i there gone =
    let st : WorkerState = Runs s.phase in (
      sym (how_many-more (λ j. is_gone (update s.state i st j)) (λ j. is_gone (s.state j)) z.workers i there
          (ap is_gone (update-same s.state i st))
          (ap is_gone gone)
          (λ j other. sym (ap is_gone (update-other s.state i st j other)))),
      how_many-same (λ j. has_answered s.phase (update s.state i st j)) (λ j. has_answered s.phase (s.state j)) z.workers
          (λ j _. test_same (has_answered s.phase) s i st (ap (has_answered s.phase) (sym gone)) j),
    )

pub all_in_counts : AllInCounts
all_in_counts z s =
    let a : ℕ → Bool = λ i. has_answered s.phase (s.state i) in
    let g : ℕ → Bool = λ i. is_gone (s.state i) in
    let apart : (i : ℕ) → a i ≡ true → g i ≡ false = λ i. not_both s.phase (s.state i) in (
      how_many-both a g apart z.workers,
      (
        λ is i there. in_test s.phase (s.state i) (all-how_many a g apart z.workers is i there),
        λ all. how_many-all a g apart z.workers (λ i there. test_in s.phase (s.state i) (all i there)),
      ),
    )

-- all are gone where nobody has answered, and all are gone or have answered
pub all_gone_counts : AllGoneCounts
all_gone_counts z s =
    let g : ℕ → Bool = λ i. is_gone (s.state i) in
    let no_one : ℕ → Bool = λ _. false in
    let apart : (i : ℕ) → no_one i ≡ true → g i ≡ false = λ i is. absurd (cc) in
    let none : how_many no_one z.workers ≡ 0 = how_many-none no_one z.workers (λ _ _. refl) in (
      λ is i there. gone_test (s.state i) (all-how_many no_one g apart z.workers (omega arith) i there),
      λ all.
          let whole = how_many-all no_one g apart z.workers (λ i there. ap is_gone (all i there)) in
          omega arith,
    )

pub counts_serves : (z : Opening) (s : CoreState)
    → IsOpening z
    → z.limits.form ≡ Counts
    → IsInPhase z s
    → Serves counts z s
counts_serves z s opening form p =
    let a : ℕ = answered_now z s in
    let g : ℕ = gone_now z s in
    let kind : ℕ = kind_in s.phase s.ending in
    let w : ℕ = kind + 4 * a + 2 ^ 9 * g + 2 ^ 16 * s.phase in
    let seats : z.limits.seats ≤ 64 = subst (λ (k : Form). z.limits.seats ≤ most_seats k) form opening.limits.seats in
    let last : z.limits.last_phase ≤ 2 ^ 48 - 2 =
    subst (λ (k : Form). z.limits.last_phase ≤ most_phase k) form opening.limits.fits in
    let within = p.within in
    let few_workers = opening.few_workers in
    let all = all_in_counts z s in
    let few : a + g ≤ 64 = (let most = all.0 in omega arith) in
    let weight = weight-lt s.ending in
    let low : kind < 4 = omega arith in
    let kind_is : w % 4 ≡ kind = omega arith in
    let answered_is : w / 4 % 2 ^ 7 ≡ a = omega arith in
    let gone_is : w / 2 ^ 9 % 2 ^ 7 ≡ g = omega arith in
    let phase_is : w / 2 ^ 16 ≡ s.phase = omega arith in
    let sum_is : w / 4 % 2 ^ 7 + w / 2 ^ 9 % 2 ^ 7 ≡ a + g = omega arith in
    let gone = all_gone_counts z s in
    record {
      below = omega arith;
      kind = kind_is;
      phase = phase_is;
      all_in = (
        λ is. all.1.0 (sym sum_is ∙ eqb-true _ _ is),
        λ are. eq-eqb _ _ (sum_is ∙ all.1.1 are),
      );
      all_gone = (
        λ is. gone.0 (sym gone_is ∙ eqb-true _ _ is),
        λ are. eq-eqb _ _ (gone_is ∙ gone.1 are),
      );
      looks = λ i.
          let st : WorkerState = looked s.phase (s.state i) in
          let same_a = how_many-same (λ j. has_answered s.phase (update s.state i st j))
          (λ j. has_answered s.phase (s.state j)) z.workers
          (λ j _. test_same (has_answered s.phase) s i st (looked-has_answered s.phase (s.state i)) j) in
          let same_g = how_many-same (λ j. is_gone (update s.state i st j)) (λ j. is_gone (s.state j)) z.workers
          (λ j _. test_same is_gone s i st (looked-is_gone s.phase (s.state i)) j) in
          omega arith;
      answers = λ i phase there runs.
          let one = answers_one z s i phase there runs in
          let more = one.0 in
          let same = one.1 in
          omega arith;
      retires = λ i phase there runs.
          let one = retires_one z s i phase there runs in
          let more = one.0 in
          let same = one.1 in
          omega arith;
      returns = λ i there gone.
          let one = returns_one z s i there gone in
          let less = one.0 in
          let same = one.1 in
          omega arith;
      announces = λ running. (let none = ap (kind_in s.phase) running in omega arith);
      releases = λ ending all_are.
          let none = how_many-none (λ i. has_answered (s.phase + 1) (s.state i)) z.workers
          (λ i there. in_not_next s.phase (s.state i) (all_are i there)) in
          let now = kind_released s.phase w s.ending kind_is ending in
          omega arith;
    }
