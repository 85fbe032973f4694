use Rattle.std.proofs.Common.{◌≡◌, ℕ, ◌+◌, ◌<◌, ◌==◌, nat_lt, ◌&&◌, ◌||◌, Bool, true, false, inl, inr, refl, ap, sym, ◌∙◌, arith, eq-eqb}
use Rattle.std.proofs.lemmas.Bool.{cases_eq, cases_lt, le-ltb, lt-ltb, ne_eqb}
use Rattle.like_core.specs.Functions.{has_bit}
use Rattle.like_choice.specs.Steps.{stays}
use Rattle.like_choice.proofs.slots.kept.kept.Goals as goal
use Rattle.like_choice.proofs.slots.kept.kept.Goals.{then-stays_in, else-stays_in}

-- a test that fails adds nothing
or_false : (b : Bool) → (b || false) ≡ b
or_false true = refl
or_false false = refl

-- of the numbers below one more, P holds of those of which it held before, and of the last
with_last : (P : ℕ → Bool) (i k : ℕ) → P i ≡ true → ((nat_lt k i && P k) || (k == i)) ≡ (nat_lt k (i + 1) && P k)
with_last P i k holds = elim (cases_lt k i) [
  | inl less ↦
      let later : k < i + 1 = omega arith in
      (λ m. (lt-ltb k i less m && P k) || ne_eqb k i (λ e. absurd (omega arith)) m)
      ∙ (or_false (P k) ∙ (λ m. sym (lt-ltb k (i + 1) later) m && P k))
  | inr past ↦ elim (cases_eq k i) [
    | inl same ↦
        let later : k < i + 1 = omega arith in
        (λ m. (le-ltb k i past m && P k) || eq-eqb k i same m)
        ∙ (sym (ap P same ∙ holds) ∙ (λ m. sym (lt-ltb k (i + 1) later) m && P k))
    | inr other ↦
        (λ m. (le-ltb k i past m && P k) || ne_eqb k i other m)
        ∙ (λ m. sym (le-ltb k (i + 1) (omega arith)) m && P k)
  ]
]

-- and of no other, where it does not hold of the last
without_last : (P : ℕ → Bool) (i k : ℕ) → P i ≡ false → (nat_lt k i && P k) ≡ (nat_lt k (i + 1) && P k)
without_last P i k fails = elim (cases_lt k i) [
  | inl less ↦
      let later : k < i + 1 = omega arith in
      (λ m. lt-ltb k i less m && P k) ∙ (λ m. sym (lt-ltb k (i + 1) later) m && P k)
  | inr past ↦ elim (cases_eq k i) [
    | inl same ↦
        let later : k < i + 1 = omega arith in
        (λ m. le-ltb k i past m && P k)
        ∙ (sym (ap P same ∙ fails) ∙ (λ m. sym (lt-ltb k (i + 1) later) m && P k))
    | inr other ↦
        (λ m. le-ltb k i past m && P k) ∙ (λ m. sym (le-ltb k (i + 1) (omega arith)) m && P k)
  ]
]

pub loop-slot-preserved : goal.loop-slot-preserved
loop-slot-preserved c = λ slot.
    let l = c.loop-slot in
    let P : ℕ → Bool = stays c.args.slots.now c.args.bits c.args.marks c.args.proposed.now in
    elim c.if-stays_in.branch [
      | then-stays_in w ↦
          ap (λ mask. has_bit mask slot) w.kept-is
          ∙ (w.with_bit-kept.ensures slot
          ∙ (ap (λ b. b || (slot == l.slot)) (l.invariant slot)
          ∙ with_last P l.slot slot (sym c.stays_in.ensures ∙ w.if-stays_in.true)))
      | else-stays_in w ↦
          ap (λ mask. has_bit mask slot) w.kept-is
          ∙ (l.invariant slot ∙ without_last P l.slot slot (sym c.stays_in.ensures ∙ w.if-stays_in.false))
    ]
