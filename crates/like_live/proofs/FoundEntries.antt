-- What a call finds has its first entries after its look.
use Rattle.std.proofs.Common.{◌≡◌, ◌⊎◌, suc, ◌+◌, ◌≤◌, inl, inr, List, [], ◌∷◌, ◌++◌, drop, length, map, reverse, refl, ap, sym, ◌∙◌, arith}
use Rattle.std.proofs.Math.Seq.{drop-append_seam, drop-length}
use Rattle.std.proofs.lemmas.List.{drop-append-le, drop-drop, length-append, length-drop, length-map, length-reverse, reverse-append}
use Rattle.like_core.specs.declared.log.Logged.{Logged}
use Rattle.like_core.specs.declared.log.LogEntry.TheVariants.{Did}
use Rattle.like_core.specs.declared.page_step.PageStep.{PageStep}
use Rattle.like_core.specs.PageSteps.{then_steps}
use Rattle.like_live.specs.declared.answer.TurnAnswer.{TurnAnswer}
use Rattle.like_live.specs.declared.asked.Found.{Found}
use Rattle.like_live.specs.LiveView.{LiveView}
use Rattle.like_live.specs.Moves as moves
use Rattle.like_live.specs.Moves.{FindsAll, Moves, Works, looked, step_for}
use Rattle.like_live.specs.Deeds.{deed_found, deeds_found, found_by, made_since}

-- a call's turn made enough entries for what it found
abbrev pub FoundEnough : LiveView → LiveView → Type 0
FoundEnough v now =
    (found_by v now ≡ [])
    ⊎ (suc (length v.station.post.logged) + length (found_by v now) ≤ length now.station.post.logged)

then-length : (before steps : List PageStep) → length (then_steps before steps) ≡ length before + length steps
then-length before [] = omega arith
then-length before (s ∷ steps) = let rest = then-length (s ∷ before) steps in omega (arith, rest)

finds_enough : (v now : LiveView) → FindsAll v now
    → length v.station.post.logged + length (found_by v now) ≡ length now.station.post.logged
finds_enough v now all =
    let steps = map (step_for v.station.post.worker) all.found in
    omega (
      arith,
      ap length all.logs.logged,
      length-append all.logs.since v.station.post.logged,
      sym (length-map all.logs.since (λ (e : Logged). e.entry)) ∙ ap length all.logs.made
          ∙ length-map (then_steps [] steps) (λ (s : PageStep). Did s),
      then-length [] steps,
      length-map all.found (step_for v.station.post.worker),
      ap length (ap (λ (w : LiveView). drop (length v.found) w.found) all.rest ∙ drop-append_seam v.found all.found),
    )

finds_none : (v now : LiveView) → now.found ≡ v.found → FoundEnough v now
finds_none v now same = inl (ap (drop (length v.found)) same ∙ drop-length v.found)

pub enough : (v now : LiveView) (answer : TurnAnswer) → Moves v answer now → FoundEnough v now
enough v now answer (moves.is_gone gone a is) = finds_none v now (ap (λ (w : LiveView). w.found) is)
enough v now answer (moves.waits sight mask can w a is) = finds_none v now (ap (λ (w : LiveView). w.found) is)
enough v now answer (moves.works sight mask number can w does) = by_works does where
  by_works : Works (looked v sight mask number) sight.ending answer now → FoundEnough v now
  by_works (moves.runs_joined joined e a found) =
      let all = finds_enough (looked v sight mask number) now found in inr (omega (arith, all))
  by_works (moves.acknowledges then joined e a found is) =
      let all = finds_enough (looked v sight mask number) then found in
      inr (omega (
        arith,
        all,
        ap (λ (w : LiveView). length w.station.post.logged) is,
        ap (λ (w : LiveView). length (found_by v w)) is,
      ))
  by_works (moves.runs_split runs e a is) = finds_none v now (ap (λ (w : LiveView). w.found) is)
  by_works (moves.reports s runs e a merges is) = finds_none v now (ap (λ (w : LiveView). w.found) is)

-- found looks have the first entries
found_early : (entries more : List Logged) (found : List Found) → length found ≤ length entries
    → deeds_found (entries ++ more) found ≡ deeds_found entries found
found_early entries more [] few = refl
found_early [] more (f ∷ found) few = absurd (omega (arith, few))
found_early (e ∷ entries) more (f ∷ found) few =
    ap (λ ds. deed_found e.number f ∷ ds) (found_early entries more found (omega (arith, few)))

-- so they are the same where more entries were made since
pub found_still : (v now after : LiveView) (more : List Logged) → FoundEnough v now
    → after.station.post.logged ≡ more ++ now.station.post.logged
    → deeds_found (drop 1 (made_since v after)) (found_by v now) ≡ deeds_found (drop 1 (made_since v now)) (found_by v now)
found_still v now after more (inl none) logs =
    ap (deeds_found (drop 1 (made_since v after))) none ∙ sym (ap (deeds_found (drop 1 (made_since v now))) none)
found_still v now after more (inr some) logs =
    let n = length v.station.post.logged in
    let made = reverse now.station.post.logged in
    let long = length-reverse now.station.post.logged in
    ap (λ es. deeds_found es (found_by v now))
    (drop-drop 1 n (reverse after.station.post.logged)
    ∙ ap (drop (n + 1)) (ap reverse logs ∙ reverse-append more now.station.post.logged)
    ∙ drop-append-le (n + 1) made (reverse more) (omega (arith, some, long)))
    ∙ found_early (drop (n + 1) made) (reverse more) (found_by v now)
    (omega (arith, some, long, length-drop (n + 1) made))
    ∙ sym (ap (λ es. deeds_found es (found_by v now)) (drop-drop 1 n made))
