-- The word of a program serves.
use Rattle.std.proofs.Common.{◌≡◌, ℕ, ◌+◌, ◌*◌, ◌/◌, ◌%◌, ◌^◌, ◌<◌, ◌≤◌, ◌==◌, ◌||◌, Bool, subst, ap, sym, ◌∙◌, refl, eq-eqb, arith}
use Rattle.std.proofs.lemmas.Nat.{pow-add}
use Rattle.std.proofs.lemmas.Nat.Bits.{bit_at_cat_low}
use lib.Pow.{pow_mono}
use Rattle.like_core.specs.declared.form.Form.{Form}
use Rattle.like_core.specs.declared.form.Form.TheVariants.{Bits}
use Rattle.like_core.specs.declared.worker_state.WorkerState.{WorkerState}
use Rattle.like_core.specs.declared.worker_state.WorkerState.TheVariants.{Runs, Answered, Gone}
use Rattle.like_core.specs.declared.opening.Opening.{Opening}
use Rattle.like_core.specs.Functions.{update, has_bit, mask}
use Rattle.like_core.specs.OpeningLimits.{most_phase, most_seats}
use Rattle.like_core.specs.WorkerState.{looked}
use Rattle.like_core.specs.core.State.{CoreState}
use Rattle.like_core.specs.core.Exclusive.{IsInPhase}
use Rattle.like_core.specs.word.Word.{Fields, packed, answer_bit, retirement_bit}
use Rattle.like_core.specs.word.Forms.{has_answered, is_gone, bits, kind_in}
use Rattle.like_core.specs.word.ShownWord.{word_in}
use Rattle.like_core.specs.views.Shows.{IsOpening}
use Rattle.like_core.specs.views.Serves.{Serves, moved}
use Rattle.like_core.proofs.Updates.{update-same, update-other}
use Rattle.like_core.proofs.Below.{below-each, each-below, or_unset}
use Rattle.like_core.proofs.word.Masks.{mask-lt, mask_same, mask_none, mask-has_bit, mask_more}
use Rattle.like_core.proofs.word.States.{weight-lt, looked-has_answered, looked-is_gone, test_same, in_not_next, in_test, test_in, gone_test, kind_released}

-- a mask of at most 16 bits
narrow_mask : (test : ℕ → Bool) (n : ℕ) → n ≤ 16 → mask test n < 2 ^ 16
narrow_mask test n few =
    let below = mask-lt test n in
    let wide : 2 ^ n ≤ 2 ^ 16 = pow_mono few in
    omega arith

-- the bits of `answered` begin at bit 8
answered_bit : (f : Fields) (i : ℕ)
    → f.kind < 4
    → f.workers < 64
    → f.answered < 2 ^ 16
    → i < 16
    → has_bit (packed f / 2 ^ 8) i ≡ has_bit f.answered i
answered_bit f i kind workers answered within =
    let high : ℕ = f.retired + 2 ^ 16 * f.number in
    let parts : packed f / 2 ^ 8 ≡ high * 2 ^ 16 + f.answered = omega arith in
    ap (λ w. has_bit w i) parts ∙ ap (λ b. b == 1) (bit_at_cat_low high 16 f.answered i within)

-- those of `retired` at bit 24
retired_bit : (f : Fields) (i : ℕ)
    → f.kind < 4
    → f.workers < 64
    → f.answered < 2 ^ 16
    → f.retired < 2 ^ 16
    → i < 16
    → has_bit (packed f / 2 ^ 24) i ≡ has_bit f.retired i
retired_bit f i kind workers answered retired within =
    let parts : packed f / 2 ^ 24 ≡ f.number * 2 ^ 16 + f.retired = omega arith in
    ap (λ w. has_bit w i) parts ∙ ap (λ b. b == 1) (bit_at_cat_low f.number 16 f.retired i within)

pub bits_serves : (z : Opening) (s : CoreState)
    → IsOpening z
    → z.limits.form ≡ Bits
    → IsInPhase z s
    → Serves bits z s
bits_serves z s opening form p =
    let a : ℕ → Bool = λ i. has_answered s.phase (s.state i) in
    let g : ℕ → Bool = λ i. is_gone (s.state i) in
    let f : Fields = record {
      kind = kind_in s.phase s.ending;
      workers = z.workers;
      answered = mask a z.workers;
      retired = mask g z.workers;
      number = s.phase;
    }
    in
    let w : ℕ = packed f in
    let seats : z.limits.seats ≤ 16 = subst (λ (k : Form). z.limits.seats ≤ most_seats k) form opening.limits.seats in
    let last : z.limits.last_phase ≤ 16777214 =
    subst (λ (k : Form). z.limits.last_phase ≤ most_phase k) form opening.limits.fits in
    let within = p.within in
    let few_workers = opening.few_workers in
    let few : z.workers ≤ 16 = omega arith in
    let weight = weight-lt s.ending in
    let kind : f.kind < 4 = omega arith in
    let answered : f.answered < 2 ^ 16 = narrow_mask a z.workers few in
    let retired : f.retired < 2 ^ 16 = narrow_mask g z.workers few in
    let answered_is : (i : ℕ) → i < z.workers → has_bit (w / 2 ^ 8) i ≡ a i =
    λ i there. answered_bit f i kind (omega arith) answered (omega arith) ∙ mask-has_bit a z.workers i there in
    let gone_is : (i : ℕ) → i < z.workers → has_bit (w / 2 ^ 24) i ≡ g i =
    λ i there. retired_bit f i kind (omega arith) answered retired (omega arith) ∙ mask-has_bit g z.workers i there in
    let both : (i : ℕ) → i < z.workers → (has_bit (w / 2 ^ 8) i || has_bit (w / 2 ^ 24) i) ≡ (a i || g i) =
    λ i there m. answered_is i there m || gone_is i there m
    in
    let kind_is : w % 4 ≡ f.kind = omega arith in
    record {
      below = omega arith;
      kind = kind_is;
      phase = omega arith;
      all_in = (
        λ is i there. in_test s.phase (s.state i) (sym (both i there) ∙ below-each _ z.workers is i there),
        λ all. each-below _ z.workers (λ i there. both i there ∙ test_in s.phase (s.state i) (all i there)),
      );
      all_gone = (
        λ is i there. gone_test (s.state i) (sym (gone_is i there) ∙ below-each _ z.workers is i there),
        λ all. each-below _ z.workers (λ i there. gone_is i there ∙ ap is_gone (all i there)),
      );
      looks = λ i.
          let st : WorkerState = looked s.phase (s.state i) in
          let same_a = mask_same (λ j. has_answered s.phase (update s.state i st j)) a z.workers
          (λ j _. test_same (has_answered s.phase) s i st (looked-has_answered s.phase (s.state i)) j) in
          let same_g = mask_same (λ j. is_gone (update s.state i st j)) g z.workers
          (λ j _. test_same is_gone s i st (looked-is_gone s.phase (s.state i)) j) in
          omega arith;
      answers = λ i phase there runs.
          let st : WorkerState = Answered s.phase in
          let more = mask_more a (λ j. has_answered s.phase (update s.state i st j)) z.workers i there
          (ap (has_answered s.phase) runs)
          (ap (has_answered s.phase) (update-same s.state i st) ∙ eq-eqb s.phase s.phase refl)
          (λ j other. ap (has_answered s.phase) (update-other s.state i st j other)) in
          let same = mask_same (λ j. is_gone (update s.state i st j)) g z.workers
          (λ j _. test_same is_gone s i st (ap is_gone (sym runs)) j) in
          let shifted : 2 ^ (8 + i) ≡ 2 ^ 8 * 2 ^ i = pow-add 2 8 i in
          let added : word_in bits z (moved s i st) ≡ w + answer_bit i = omega arith in
          added ∙ sym (or_unset w 8 i (answered_is i there ∙ ap (has_answered s.phase) runs));
      retires = λ i phase there runs.
          let more = mask_more g (λ j. is_gone (update s.state i Gone j)) z.workers i there
          (ap is_gone runs)
          (ap is_gone (update-same s.state i Gone))
          (λ j other. ap is_gone (update-other s.state i Gone j other)) in
          let same = mask_same (λ j. has_answered s.phase (update s.state i Gone j)) a z.workers
          (λ j _. test_same (has_answered s.phase) s i Gone (ap (has_answered s.phase) (sym runs)) j) in
          let shifted : 2 ^ (24 + i) ≡ 2 ^ 24 * 2 ^ i = pow-add 2 24 i in
          let added : word_in bits z (moved s i Gone) ≡ w + retirement_bit i = omega arith in
          added ∙ sym (or_unset w 24 i (gone_is i there ∙ ap is_gone runs));
      returns = λ i there gone.
          let st : WorkerState = Runs s.phase in
          let more = mask_more (λ j. is_gone (update s.state i st j)) g z.workers i there
          (ap is_gone (update-same s.state i st))
          (ap is_gone gone)
          (λ j other. sym (ap is_gone (update-other s.state i st j other))) in
          let same = mask_same (λ j. has_answered s.phase (update s.state i st j)) a z.workers
          (λ j _. test_same (has_answered s.phase) s i st (ap (has_answered s.phase) (sym gone)) j) in
          let shifted : 2 ^ (24 + i) ≡ 2 ^ 24 * 2 ^ i = pow-add 2 24 i in
          omega arith;
      announces = λ running. (let none = ap (kind_in s.phase) running in omega arith);
      releases = λ ending all.
          let none = mask_none (λ i. has_answered (s.phase + 1) (s.state i)) z.workers
          (λ i there. in_not_next s.phase (s.state i) (all i there)) in
          let now = kind_released s.phase w s.ending kind_is ending in
          let workers : w / 4 % 2 ^ 6 ≡ z.workers = omega arith in
          let gone : w / 2 ^ 24 % 2 ^ 16 ≡ f.retired = omega arith in
          let number : w / 2 ^ 40 ≡ s.phase = omega arith in
          omega arith;
    }
