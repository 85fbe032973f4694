-- Rounds lower the measure.
use Rattle.std.proofs.Common.{◌≡◌, ℕ, ◌+◌, ◌*◌, ◌-◌, ◌%◌, ◌<◌, ◌≤◌, inl, inr, true, false, List, sum_by, subst, ap, sym, ◌∙◌, refl, arith}
use Rattle.std.proofs.lemmas.Bool.{cases_lt}
use Rattle.like_core.specs.Phase.{IsJoined, IsSplit, last_phase}
use Rattle.like_ending.specs.Progress.{AllAreGone, CrewProgress, WorkerProgress, remaining, remaining_in}
use Rattle.like_ending.specs.FreshCoordTurns.{FreshCoordTurns, ends, counts, stays, announces, releases, waits}
use Rattle.like_ending.specs.InPhase.{IsCrewInPhase}
use Rattle.like_ending.specs.Measures.{measure, one_until_all_in}
use Rattle.like_ending.proofs.Served.{Served}
use Rattle.like_ending.proofs.Rests.{all_in_none, cases_phase, joined_ending, joined_running, none_all_in, out_of, some_there, split_ending, split_running}
use Rattle.like_ending.proofs.Falls.{answers_joined, answers_split, counts_joined, counts_split, releases_joined, releases_split, stays_joined}

-- the next phase, with all its turns left
abbrev released : CrewProgress → CrewProgress
released c = record c { phase = c.phase + 1; ending = false; left = c.turns }

-- the crew with these workers
abbrev pub with_workers : CrewProgress → List WorkerProgress → CrewProgress
with_workers c ws = record c { workers = ws }

-- what a round lowers, where the coordinator led to this crew and the workers came to these
Lowers : CrewProgress → List WorkerProgress → CrewProgress → Type 0
Lowers c ws led = Served led ws → measure (with_workers led ws) + (c.turns + 1) ≤ measure c

-- the measures compared, with other names for what is left of the phase before and after
by_rests : (c : CrewProgress) (ws : List WorkerProgress) {x y m n : ℕ}
    → x ≡ m
    → y ≡ n
    → (2 * c.turns + 4) * sum_by remaining ws + m + (c.turns + 1) ≤ (2 * c.turns + 4) * remaining_in c + n
    → (2 * c.turns + 4) * sum_by remaining ws + x + (c.turns + 1) ≤ (2 * c.turns + 4) * remaining_in c + y
by_rests c ws after before most = omega (arith, after, before, most)

counted : (c : CrewProgress) (ws : List WorkerProgress)
    → IsCrewInPhase c
    → ¬ AllAreGone c
    → c.ending ≡ false
    → 0 < c.left
    → Lowers c ws (record c { left = c.left - 1 })
unfolding Lowers
counted c ws p some run more s =
    let led : CrewProgress = record c { left = c.left - 1 } in
    elim (cases_phase c.phase) [
      | inl even ↦
          let there = some_there c some in
          let less = s.running even run in
          by_rests c ws
          (joined_running (with_workers led ws) even run)
          (joined_running c even run)
          (counts_joined c.turns c.left (remaining_in c) (sum_by remaining ws) more p.left (omega arith))
      | inr odd ↦
          by_rests c ws
          (split_running (with_workers led ws) odd run)
          (split_running c odd run)
          (counts_split c.turns c.left (remaining_in c) (sum_by remaining ws) more s.less)
    ]

stayed : (c : CrewProgress) (ws : List WorkerProgress)
    → ¬ AllAreGone c
    → c.ending ≡ false
    → c.phase ≡ last_phase
    → Lowers c ws c
unfolding Lowers
stayed c ws some run last s =
    let even : IsJoined c.phase = ap (λ n. n % 2) last in
    let there = some_there c some in
    let less = s.running even run in
    by_rests c ws
    (joined_running (with_workers c ws) even run)
    (joined_running c even run)
    (stays_joined c.turns ((c.turns + 1 - c.left) * (c.turns + 3)) (remaining_in c) (sum_by remaining ws) (omega arith))

announced : (c : CrewProgress) (ws : List WorkerProgress)
    → c.ending ≡ false
    → c.left ≡ 0
    → Lowers c ws (record c { ending = true })
unfolding Lowers
announced c ws run none s =
    let led : CrewProgress = record c { ending = true } in
    let d : CrewProgress = with_workers led ws in
    elim (cases_phase c.phase) [
      | inl even ↦
          let less = s.joined even refl in
          let before : (c.turns + 1 - c.left) * (c.turns + 3) ≡ (c.turns + 1) * (c.turns + 3) =
          ap (λ n. n * (c.turns + 3)) (let is : c.turns + 1 - c.left ≡ c.turns + 1 = omega arith in is)
          in
          by_rests c ws
          (joined_ending d even refl)
          (joined_running c even run ∙ before)
          (answers_joined c.turns (one_until_all_in d) (remaining_in c) (sum_by remaining ws)
          (omega arith) (omega arith))
      | inr odd ↦
          let all = s.split odd refl in
          let out : one_until_all_in d ≡ 0 = omega arith in
          let after : (c.turns + 1) * one_until_all_in d ≡ 0 = ap (λ n. (c.turns + 1) * n) out ∙ (omega arith) in
          let before : (c.turns + 1) * (c.left + 1) ≡ c.turns + 1 =
          ap (λ n. (c.turns + 1) * (n + 1)) none ∙ (omega arith)
          in
          by_rests c ws
          (split_ending d odd refl ∙ after)
          (split_running c odd run ∙ before)
          (answers_split c.turns (remaining_in c) (sum_by remaining ws) s.less)
    ]

waited : (c : CrewProgress) (ws : List WorkerProgress)
    → c.ending ≡ true
    → one_until_all_in c ≡ 1
    → Lowers c ws c
unfolding Lowers
waited c ws now one s =
    let d : CrewProgress = with_workers c ws in
    elim (cases_phase c.phase) [
      | inl even ↦
          let less = s.joined even now in
          let before : (c.turns + 1) * (c.turns + 2 + one_until_all_in c) ≡ (c.turns + 1) * (c.turns + 3) =
          ap (λ n. (c.turns + 1) * n) (let is : c.turns + 2 + one_until_all_in c ≡ c.turns + 3 = omega arith in is)
          in
          by_rests c ws
          (joined_ending d even now)
          (joined_ending c even now ∙ before)
          (answers_joined c.turns (one_until_all_in d) (remaining_in c) (sum_by remaining ws)
          (omega arith) (omega arith))
      | inr odd ↦
          let all = s.split odd now in
          let out : one_until_all_in d ≡ 0 = omega arith in
          let after : (c.turns + 1) * one_until_all_in d ≡ 0 = ap (λ n. (c.turns + 1) * n) out ∙ (omega arith) in
          let before : (c.turns + 1) * one_until_all_in c ≡ c.turns + 1 =
          ap (λ n. (c.turns + 1) * n) one ∙ (omega arith)
          in
          by_rests c ws
          (split_ending d odd now ∙ after)
          (split_ending c odd now ∙ before)
          (answers_split c.turns (remaining_in c) (sum_by remaining ws) s.less)
    ]

released_all : (c : CrewProgress) (ws : List WorkerProgress)
    → ¬ AllAreGone c
    → c.ending ≡ true
    → one_until_all_in c ≡ 0
    → Lowers c ws (released c)
unfolding Lowers
released_all c ws some now none s =
    let d : CrewProgress = with_workers (released c) ws in
    elim (cases_phase c.phase) [
      | inl even ↦
          let odd : IsSplit (c.phase + 1) = omega arith in
          let before : (c.turns + 1) * (c.turns + 2 + one_until_all_in c) ≡ (c.turns + 1) * (c.turns + 2) =
          ap (λ n. (c.turns + 1) * n) (let is : c.turns + 2 + one_until_all_in c ≡ c.turns + 2 = omega arith in is)
          in
          by_rests c ws
          (split_running d odd refl)
          (joined_ending c even now ∙ before)
          (releases_joined c.turns (remaining_in c) (sum_by remaining ws) s.less)
      | inr odd ↦
          let even : IsJoined (c.phase + 1) = omega arith in
          let there = some_there c some in
          let less = s.running even refl in
          let after : (c.turns + 1 - c.turns) * (c.turns + 3) ≡ c.turns + 3 =
          ap (λ n. n * (c.turns + 3)) (let is : c.turns + 1 - c.turns ≡ 1 = omega arith in is) ∙ (omega arith)
          in
          let before : (c.turns + 1) * one_until_all_in c ≡ 0 = ap (λ n. (c.turns + 1) * n) none ∙ (omega arith) in
          by_rests c ws
          (joined_running d even refl ∙ after)
          (split_ending c odd now ∙ before)
          (releases_split c.turns (remaining_in c) (sum_by remaining ws) (omega arith))
    ]

-- a turn of the coordinator that doesn't find all workers gone, and turns of the workers, lower the measure
pub lowers : (c led : CrewProgress) (ws : List WorkerProgress)
    → IsCrewInPhase c
    → ¬ AllAreGone c
    → FreshCoordTurns c led
    → Served led ws
    → measure (with_workers led ws) + (c.turns + 1) ≤ measure c
unfolding Lowers
lowers c led ws p some (ends gone e) = absurd (some gone)
lowers c led ws p some (counts there run more e) = subst (Lowers c ws) (sym e) (counted c ws p some run more)
lowers c led ws p some (stays there run none last e) = subst (Lowers c ws) (sym e) (stayed c ws some run last)
lowers c led ws p some (announces there run none last e) = subst (Lowers c ws) (sym e) (announced c ws run none)
lowers c led ws p some (releases there now all e) =
    let in_all = all_in_none c all in
    subst (Lowers c ws) (sym e) (released_all c ws some now (omega arith))
lowers c led ws p some (waits there now out e) =
    let one : one_until_all_in c ≡ 1 =
    elim (cases_lt 0 (out_of c)) [ inl more ↦ omega arith | inr none ↦ absurd (out (none_all_in c p (omega arith))) ]
    in
    subst (Lowers c ws) (sym e) (waited c ws now one)
