-- What is left of a phase, by its kind.
use Rattle.std.proofs.Common.{◌≡◌, ℕ, ◌+◌, ◌*◌, ◌-◌, ◌%◌, ◌==◌, ◌≤◌, Bool, true, false, inl, inr, ◌⊎◌, sum_by, ap, ◌∙◌, eq-eqb, arith}
use Rattle.std.proofs.Math.Nat.{mul-le-mul_left, mul-le-mul_right}
use Rattle.std.proofs.lemmas.Bool.{ne_eqb, cases_Bool, cases_lt, eqb-true, eqb-false}
use Rattle.like_core.specs.Phase.{IsJoined, IsSplit}
use Rattle.like_ending.specs.Progress.{AllAreGone, AllAreIn, CrewProgress, one_until_gone}
use Rattle.like_ending.specs.InPhase.{IsCrewInPhase}
use Rattle.like_ending.specs.Measures.{changes_ahead, one_until_all_in, rest, rest_of}
use Rattle.like_ending.proofs.States.{in_none, none_gone, none_in}
use Rattle.like_ending.proofs.Sums.{none_in_sum, sum_none}

-- each phase is joined or split
pub cases_phase : (phase : ℕ) → IsJoined phase ⊎ IsSplit phase
cases_phase phase = elim (cases_Bool (phase % 2 == 1)) [
  | inl odd ↦ inr (eqb-true (phase % 2) 1 odd)
  | inr even ↦ inl (let other = eqb-false (phase % 2) 1 even in omega arith)
]

joined_is : (phase : ℕ) → IsJoined phase → (phase % 2 == 1) ≡ false
joined_is phase even = ne_eqb (phase % 2) 1 (λ odd. absurd (omega arith))

split_is : (phase : ℕ) → IsSplit phase → (phase % 2 == 1) ≡ true
split_is phase odd = eq-eqb (phase % 2) 1 odd

-- what is left of a phase of this kind
rest_is : (c : CrewProgress) (split ending : Bool)
    → (c.phase % 2 == 1) ≡ split
    → c.ending ≡ ending
    → rest c ≡ rest_of split ending c.turns c.left (one_until_all_in c)
rest_is c split ending kind now =
    ap (λ b. rest_of b c.ending c.turns c.left (one_until_all_in c)) kind
    ∙ ap (λ b. rest_of split b c.turns c.left (one_until_all_in c)) now

pub joined_running : (c : CrewProgress)
    → IsJoined c.phase
    → c.ending ≡ false
    → rest c ≡ (c.turns + 1 - c.left) * (c.turns + 3)
joined_running c even run = rest_is c false false (joined_is c.phase even) run

pub joined_ending : (c : CrewProgress)
    → IsJoined c.phase
    → c.ending ≡ true
    → rest c ≡ (c.turns + 1) * (c.turns + 2 + one_until_all_in c)
joined_ending c even now = rest_is c false true (joined_is c.phase even) now

pub split_running : (c : CrewProgress)
    → IsSplit c.phase
    → c.ending ≡ false
    → rest c ≡ (c.turns + 1) * (c.left + 1)
split_running c odd run = rest_is c true false (split_is c.phase odd) run

pub split_ending : (c : CrewProgress)
    → IsSplit c.phase
    → c.ending ≡ true
    → rest c ≡ (c.turns + 1) * one_until_all_in c
split_ending c odd now = rest_is c true true (split_is c.phase odd) now

-- how many changes of state the workers have ahead
abbrev pub out_of : CrewProgress → ℕ
out_of c = sum_by (λ w. changes_ahead c.phase w.state) c.workers

-- how many workers are not gone
abbrev pub there_of : CrewProgress → ℕ
there_of c = sum_by (λ w. one_until_gone w.state) c.workers

-- all are in where none has yet to answer, and the other way round
pub all_in_none : (c : CrewProgress) → AllAreIn c → out_of c ≡ 0
all_in_none c all =
    sum_none (λ w. changes_ahead c.phase w.state) c.workers (λ k w at. in_none c.phase _ (all k w at))

pub none_all_in : (c : CrewProgress) → IsCrewInPhase c → out_of c ≡ 0 → AllAreIn c
none_all_in c p none =
    λ k w at. none_in c.phase c.ending _ (p.suits k w at)
    (none_in_sum (λ x. changes_ahead c.phase x.state) c.workers none k w at)

-- all are gone where none is there
pub none_all_gone : (c : CrewProgress) → there_of c ≡ 0 → AllAreGone c
none_all_gone c none = λ k w at. none_gone _ (none_in_sum (λ x. one_until_gone x.state) c.workers none k w at)

-- and the other way round
pub all_gone_none : (c : CrewProgress) → AllAreGone c → there_of c ≡ 0
all_gone_none c gone = sum_none (λ w. one_until_gone w.state) c.workers (λ k w at. ap one_until_gone (gone k w at))

-- so some are there where not all are gone
pub some_there : (c : CrewProgress) → ¬ AllAreGone c → 1 ≤ there_of c
some_there c some = elim (cases_lt 0 (there_of c)) [
  | inl more ↦ more
  | inr none ↦ absurd (some (none_all_gone c (omega arith)))
]

-- a phase has no more left than this
pub rest_most : (c : CrewProgress) → c.left ≤ c.turns → rest c ≤ (c.turns + 1) * (c.turns + 3)
rest_most c left = elim (cases_phase c.phase) [
  | inl even ↦ elim (cases_Bool c.ending) [
    | inl now ↦
        let is = joined_ending c even now in
        let most : (c.turns + 1) * (c.turns + 2 + one_until_all_in c) ≤ (c.turns + 1) * (c.turns + 3) =
        mul-le-mul_left (c.turns + 1) (omega arith)
        in
        omega (arith, is, most)
    | inr run ↦
        let is = joined_running c even run in
        let most : (c.turns + 1 - c.left) * (c.turns + 3) ≤ (c.turns + 1) * (c.turns + 3) =
        mul-le-mul_right (c.turns + 3) (omega arith)
        in
        omega (arith, is, most)
  ]
  | inr odd ↦ elim (cases_Bool c.ending) [
    | inl now ↦
        let is = split_ending c odd now in
        let most : (c.turns + 1) * one_until_all_in c ≤ (c.turns + 1) * (c.turns + 3) =
        mul-le-mul_left (c.turns + 1) (omega arith)
        in
        omega (arith, is, most)
    | inr run ↦
        let is = split_running c odd run in
        let most : (c.turns + 1) * (c.left + 1) ≤ (c.turns + 1) * (c.turns + 3) =
        mul-le-mul_left (c.turns + 1) (omega arith)
        in
        omega (arith, is, most)
  ]
]
