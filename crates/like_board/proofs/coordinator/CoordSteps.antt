-- Each step of the coordinator is the event, and keeps what the board shows.
use Rattle.std.proofs.Common.{◌≡◌, ℕ, ◌+◌, ◌%◌, ◌^◌, ◌<◌, ◌≤◌, ◌==◌, ◌||◌, not, Bool, true, false, cond, inl, inr, List, length, get_or, set, Option, Some, None, IsSome, IfSome, IsSomeAnd, subst, ap, sym, ◌∙◌, refl, eq-eqb, arith}
use Rattle.std.specs.Option.{unwrap_or}
use Rattle.std.proofs.lemmas.Bool.{and_parts, cases_eq, cond-true, cond-false, ne_eqb}
use Rattle.std.proofs.lemmas.Nat.{pow_pos}
use mathlib.Core.Option.{some}
use lib.ListN.{get_elem?}
use Rattle.like_core.specs.declared.sight.Sight.{Sight}
use Rattle.like_core.specs.declared.sight.CoordSight.{CoordSight}
use Rattle.like_core.specs.declared.event.Event.TheVariants.{CoordLook, Announce, Release}
use Rattle.like_core.specs.declared.shown.Shown.TheVariants.{Coord as CoordShown, Done}
use Rattle.like_core.specs.declared.opening.Opening.{Opening}
use Rattle.like_core.specs.declared.view.PhaseMask.{PhaseMask}
use Rattle.like_core.specs.declared.view.WorkerSeatView.{WorkerSeatView}
use Rattle.like_core.specs.declared.view.CoordSeatView.{CoordSeatView}
use Rattle.like_core.specs.declared.view.View.{View}
use Rattle.like_core.specs.declared.view.View.TheVariants.{Coord}
use Rattle.like_core.specs.Phase.{IsJoined, IsSplit}
use Rattle.like_core.specs.Functions.{update}
use Rattle.like_core.specs.WorkerState.{IsIn}
use Rattle.like_core.specs.word.Forms.{form_of}
use Rattle.like_core.specs.core.Numbers.{AllIn, AllGone, CoordSees}
use Rattle.like_core.specs.core.Table.{Permits}
use Rattle.like_core.specs.core.State.{CoreState, numbers}
use Rattle.like_core.specs.word.ShownWord.{shown_word}
use Rattle.like_core.specs.views.Views.{looked_coord, announced_coord, released_coord, mask_released, saw_all_gone, SawAllIn, MayAnnounce, MayRelease}
use Rattle.like_core.specs.views.Shows.{Shows, ShowsSome, FitsWorker, FitsCoord, IsStep, mask_in}
use Rattle.like_core.proofs.Updates.{update-same, update-other}
use Rattle.like_core.proofs.core.Moved.{moved_in_phase, moves_by}
use Rattle.like_core.proofs.word.Serving.{coord_sees, serves}
use Rattle.like_core.proofs.views.KeptOrder.{same_coord}
use Rattle.like_board.specs.Plays.{Surveyed, coord_sight_at}
use Rattle.like_board.proofs.worker.Moves.{if_some}
use Rattle.like_board.proofs.Steps.{steps_by}
use Rattle.like_board.proofs.coordinator.Fitting.{same_seats}
use Rattle.like_board.proofs.coordinator.Leads.{phased, of_coord, choice_same, choice_forgot, leads_word}
use Rattle.like_board.proofs.worker.WorkerSteps.{running_is}

-- a sum that is a word does not wrap
added_word : (n more word : ℕ) → word ≡ n + more → word < 2 ^ 64 → (n + more) % 2 ^ 64 ≡ word
added_word n more word is below = omega arith

-- who may come back where a sight shows that all stay in does so at no ending
ends_return : (ending lets : Bool) → (ending || not lets) ≡ true → lets ≡ true → ending ≡ true
ends_return true lets stay returns = refl
ends_return false true stay returns = absurd (cc)
ends_return false false stay returns = returns

-- a look of the coordinator is the event
pub surveys : (z : Opening) (words : List ℕ) (views : List View) (place : ℕ) (c : CoordSeatView)
    → ShowsSome z words views
    → get_elem? views place ≡ some (Coord c)
    → Surveyed z (get_or words 0 0) c
    × ShowsSome z (set words 0 (get_or words 0 0))
    (set views place (Coord (looked_coord c (get_or words 0 0) (coord_sight_at z (get_or words 0 0)))))
surveys z words views place c some_state at =
    let s = some_state.state in
    let sh = some_state.shows in
    let p = moved_in_phase z s some_state.reachable in
    let f = form_of z.limits.form in
    let old : FitsCoord z s c = sh.seats.each place (Coord c) at in
    let found : ℕ = get_or words 0 0 in
    let sight : CoordSight = coord_sight_at z found in
    let sees : CoordSees (numbers z s) sight =
    subst (λ (w : ℕ). CoordSees (numbers z s) (coord_sight_at z w)) (sym sh.board.phase)
    (coord_sees f z s (serves z s sh.opening some_state.reachable))
    in
    let d : CoordSeatView = looked_coord c found sight in
    let fits : FitsCoord z s d =
    record {
      seats = same_seats z s c d refl old.seats;
      phase = record {
        present = old.phase.present;
        ending = old.phase.ending;
        last = (sees.number, sees.ending);
        stays = λ _ _. (sees, sh.board.phase);
        all_in = λ is.
            let lets : Bool = (form_of c.opening.limits.form).lets_return in
            let both = and_parts sight.all_in (sight.ending || not lets) is in (
              sees.all_in.0 both.0,
              λ returns.
                  sym sees.ending ∙ ends_return sight.ending lets both.1
                  (ap (λ (y : Opening). (form_of y.limits.form).lets_return) old.seats.opening ∙ returns),
            );
        gone = old.phase.gone;
      };
      choice = record { counted = old.choice.counted; published = tt; masks = old.choice.masks };
    }
    in
    let after_it : Shows z s (set words 0 found) (set views place (Coord d)) =
    leads_word z s words views place c d s.phase s.ending s.hot found sh at refl refl refl
    (omega arith) sh.board.phase sh.board.mask sh.board.chosen
    (choice_forgot z words views c d refl (of_coord z s words views place c sh at).0) fits (λ v f. f)
    in
    let step =
    steps_by z words views place 0 found (Coord c) (Coord d) CoordLook (CoordShown sight) s some_state at
    (record {
      before = tt;
      permits = record { there = tt; suits = tt; leaves_last = tt; room = tt };
      tells = (sight, refl, sees);
    })
    refl after_it (omega arith) (λ _. refl) (same_coord c d refl) (λ _. refl)
    in (
      record {
        number = sees.number ∙ sym old.phase.present;
        within = subst (λ n. n ≤ z.limits.last_phase) (sym old.phase.present) p.within;
        ending = sees.ending ∙ sym old.phase.ending;
        all_in = λ is. sees.all_in.1 (old.phase.all_in is).0;
        gone = λ split all. old.phase.gone (subst IsSplit old.phase.present split) (sees.all_gone.0 all);
        step = step.0;
      },
      step.1,
    )

-- what holds of the value of an option, in two ways
some_and : {A : Type 0} (o : Option A) (P Q R : A → Type 0)
    → IsSomeAnd o P
    → IfSome o Q
    → IfSome o R
    → (a : A) × (o ≡ Some a) × P a × Q a × R a
some_and None P Q R p q r = absurd p
some_and (Some a) P Q R p q r = (a, refl, p, q, r)

-- an announcement is the event
pub announces : (z : Opening) (words : List ℕ) (views : List View) (place : ℕ) (c : CoordSeatView)
    → ShowsSome z words views
    → get_elem? views place ≡ some (Coord c)
    → MayAnnounce c
    → IsStep z Announce Done (Coord c) (Coord (announced_coord c))
    × ShowsSome z (set words 0 ((get_or words 0 0 + 1) % 2 ^ 64)) (set views place (Coord (announced_coord c)))
announces z words views place c some_state at may =
    let s = some_state.state in
    let sh = some_state.shows in
    let old : FitsCoord z s c = sh.seats.each place (Coord c) at in
    let last = some_and c.last
    (λ (sight : CoordSight). sight.ending ≡ false)
    (λ (sight : CoordSight). (sight.number ≡ s.phase) × (sight.ending ≡ s.ending))
    (λ (sight : CoordSight). sight.ending ≡ true → sight.all_in ≡ true
    → CoordSees (numbers z s) sight × (c.word ≡ shown_word z s))
    may.0 old.phase.last old.phase.stays
    in
    let running : s.ending ≡ false = sym last.3.1 ∙ last.2 in
    let last_is = ap (λ (y : Opening). y.limits.last_phase) old.seats.opening in
    let not_last = may.1 in
    let phase = old.phase.present in
    let below : s.phase < z.limits.last_phase = omega arith in
    let permits : Permits (numbers z s) Announce =
    record { there = tt; suits = running; leaves_last = below; room = tt } in
    let t : CoreState = phased s s.phase true s.hot in
    let reachable = moves_by z s Announce some_state.reachable permits in
    let serving = serves z s sh.opening some_state.reachable in
    let word : ℕ = (get_or words 0 0 + 1) % 2 ^ 64 in
    let d : CoordSeatView = announced_coord c in
    let workers : (v : WorkerSeatView) → FitsWorker z s v → FitsWorker z t v =
    λ v f. record {
      opening = f.opening;
      there = f.there;
      state = f.state;
      number = f.number;
      ending = λ _ _. refl;
      masks = f.masks;
      slots = f.slots;
    }
    in
    let fits : FitsCoord z t d =
    record {
      seats = record {
        opening = old.seats.opening;
        made = old.seats.made;
        unmade = old.seats.unmade;
        joined = λ at_place v found. workers v (old.seats.joined at_place v found);
      };
      phase = record {
        present = old.phase.present;
        ending = refl;
        last = tt;
        stays = tt;
        all_in = λ is. ((old.phase.all_in is).0, λ _. refl);
        gone = old.phase.gone;
      };
      choice = record {
        counted = λ i r inside.
            let before = old.choice.counted i r inside in (before.0, λ now. ((before.1 now).0, refl));
        published = old.choice.published;
        masks = old.choice.masks;
      };
    }
    in
    let after_it : Shows z t (set words 0 word) (set views place (Coord d)) =
    leads_word z s words views place c d s.phase true s.hot word sh at refl refl refl (omega arith)
    (ap (λ n. (n + 1) % 2 ^ 64) sh.board.phase ∙
    added_word (shown_word z s) 1 (shown_word z t) (serving.announces running) (serves z t sh.opening reachable).below)
    (λ fixed. elim fixed [
      | inl odd ↦ sh.board.mask (inl odd)
      | inr first ↦ let clash = first.1 in absurd (cc)
    ])
    (λ fixed. elim fixed [
      | inl odd ↦ sh.board.chosen (inl odd)
      | inr first ↦ let clash = first.1 in absurd (cc)
    ])
    (choice_same z words views c d refl (of_coord z s words views place c sh at).0)
    fits
    workers
    in
    steps_by z words views place 0 word (Coord c) (Coord d) Announce Done t some_state at
    (record { before = tt; permits = permits; tells = refl }) refl after_it (omega arith) (λ _. refl)
    (same_coord c d refl) (λ _. refl)

-- what the coordinator knows where it saw all in: the sight is still what a look would show, and the word the one seen
pub record AllAreIn (z : Opening) (s : CoreState) (c : CoordSeatView) : Type 0 where
  pub ending : s.ending ≡ true
  pub all_in : AllIn (numbers z s)
  pub word : c.word ≡ shown_word z s
  pub gone : AllGone (numbers z s) → saw_all_gone c.last ≡ true

-- it knows that
pub saw_all_in : (z : Opening) (s : CoreState) (c : CoordSeatView) → FitsCoord z s c → SawAllIn c → AllAreIn z s c
saw_all_in z s c f saw =
    let last = some_and c.last
    (λ (sight : CoordSight). (sight.ending ≡ true) × (sight.all_in ≡ true))
    (λ (sight : CoordSight). (sight.number ≡ s.phase) × (sight.ending ≡ s.ending))
    (λ (sight : CoordSight). sight.ending ≡ true → sight.all_in ≡ true
    → CoordSees (numbers z s) sight × (c.word ≡ shown_word z s))
    saw f.phase.last f.phase.stays
    in
    let now = last.4 last.2.0 last.2.1 in
    record {
      ending = sym last.3.1 ∙ last.2.0;
      all_in = now.0.all_in.0 last.2.1;
      word = now.1;
      gone = λ all. ap saw_all_gone last.1 ∙ now.0.all_gone.1 all;
    }

-- the mask with which a phase is released has only bits of pages that exist; it is 0 for a joined phase, and for a
-- split one the mask that was published, which the words tell
record IsReleased (z : Opening) (c : CoordSeatView) (word : ℕ) : Type 0 where
  pub there : mask_released c < 2 ^ length z.counts
  pub none : IsSplit c.phase → mask_released c ≡ 0
  pub word_is : IsJoined c.phase → word ≡ mask_released c

is_released : (z : Opening) (c : CoordSeatView) (word : ℕ)
    → (IsJoined c.phase → IsSome c.published)
    → IfSome c.published (λ mask. mask < 2 ^ length z.counts)
    → IfSome c.published (λ mask. word ≡ mask)
    → IsReleased z c word
is_released z c word some_mask below is = elim (cases_eq (c.phase % 2) 0) [
  | inl even ↦
      let mask = published_mask c.published (some_mask even) below is in
      let same : mask_released c ≡ unwrap_or c.published 0 =
      cond-true (c.phase % 2 == 0) (unwrap_or c.published 0) 0 (eq-eqb (c.phase % 2) 0 even) in
      record {
        there = subst (λ (m : ℕ). m < 2 ^ length z.counts) (sym same) mask.0;
        none = λ odd. absurd (omega arith);
        word_is = λ _. mask.1 ∙ sym same;
      }
  | inr odd ↦
      let same : mask_released c ≡ 0 =
      cond-false (c.phase % 2 == 0) (unwrap_or c.published 0) 0 (ne_eqb (c.phase % 2) 0 odd) in
      record {
        there = subst (λ (m : ℕ). m < 2 ^ length z.counts) (sym same) (pow_pos (length z.counts));
        none = λ _. same;
        word_is = λ even. absurd (odd even);
      }
]
  where
    published_mask : (p : Option ℕ) → IsSome p → IfSome p (λ mask. mask < 2 ^ length z.counts)
        → IfSome p (λ mask. word ≡ mask) → (unwrap_or p 0 < 2 ^ length z.counts) × (word ≡ unwrap_or p 0)
    published_mask None there low same = absurd (cc)
    published_mask (Some mask) there low same = (low, same)

-- the word that a release stores, if this one was seen
abbrev pub released_word : Opening → ℕ → ℕ
released_word z seen = (form_of z.limits.form).released seen

-- a release is the event, where what is stored is made of the word that the last look saw
pub releases : (z : Opening) (words : List ℕ) (views : List View) (place : ℕ) (c : CoordSeatView) (seen : ℕ)
    → ShowsSome z words views
    → get_elem? views place ≡ some (Coord c)
    → MayRelease c
    → seen ≡ c.word
    → IsStep z (Release (mask_released c)) Done (Coord c) (Coord (released_coord c))
    × ShowsSome z (set words 0 (released_word z seen)) (set views place (Coord (released_coord c)))
releases z words views place c seen some_state at may seen_is =
    let s = some_state.state in
    let sh = some_state.shows in
    let old : FitsCoord z s c = sh.seats.each place (Coord c) at in
    let now : AllAreIn z s c = saw_all_in z s c old may.0 in
    let mask : ℕ = mask_released c in
    let known = of_coord z s words views place c sh at in
    let is : IsReleased z c (mask_in z words) = is_released z c _ may.1 old.choice.published known.0.published in
    let permits : Permits (numbers z s) (Release mask) =
    record {
      there = is.there;
      suits = (now.ending, now.all_in, λ odd. is.none (subst IsSplit (sym old.phase.present) odd));
      leaves_last = tt;
      room = tt;
    }
    in
    let hot : ℕ → ℕ = update s.hot (s.phase + 1) mask in
    let t : CoreState = phased s (s.phase + 1) false hot in
    let serving = serves z s sh.opening some_state.reachable in
    let d : CoordSeatView = released_coord c in
    let workers : (v : WorkerSeatView) → FitsWorker z s v → FitsWorker z t v =
    λ v f. record {
      opening = f.opening;
      there = f.there;
      state = f.state;
      number = if_some v.last (λ (sight : Sight). sight.number ≤ s.phase)
          (λ (sight : Sight). sight.number ≤ s.phase + 1) (λ sight below. omega arith) f.number;
      ending = λ runs _.
          let is = running_is (λ _. Unit {0}) v.state runs in
          absurd (subst (IsIn s.phase) (f.state ∙ is.1) (now.all_in v.worker f.there));
      masks = λ i m inside.
          let own : PhaseMask = get_or v.masks i m in
          let before = f.masks i m inside in
          let earlier = before.0 in (
            omega arith,
            before.1 ∙ sym (update-other s.hot (s.phase + 1) mask own.phase (λ next. absurd (omega arith))),
          );
      slots = f.slots;
    }
    in
    let fits : FitsCoord z t d =
    record {
      seats = record {
        opening = old.seats.opening;
        made = old.seats.made;
        unmade = old.seats.unmade;
        joined = λ at_place v found. workers v (old.seats.joined at_place v found);
      };
      phase = record {
        present = ap (λ n. n + 1) old.phase.present;
        ending = refl;
        last = tt;
        stays = tt;
        all_in = λ is. absurd (cc);
        gone = λ _ all. now.gone all;
      };
      choice = record {
        counted = λ i r inside.
            let before = (old.choice.counted i r inside).0 in
            (omega arith, λ later. absurd (omega arith));
        published = old.choice.published;
        masks = λ phase m. cond (phase == old.phase.present m + 1) mask (old.choice.masks phase m);
      };
    }
    in
    let after_it : Shows z t (set words 0 (released_word z seen)) (set views place (Coord d)) =
    leads_word z s words views place c d (s.phase + 1) false hot
    (released_word z seen) sh at refl refl refl (omega arith)
    (ap (released_word z) (seen_is ∙ now.word) ∙ sym (serving.releases now.ending now.all_in))
    (λ fixed. elim fixed [
      | inl odd ↦
          let phase = old.phase.present in
          let even : IsJoined c.phase = omega arith in
          is.word_is even ∙ sym (update-same s.hot (s.phase + 1) mask)
      | inr first ↦ let none = first.0 in absurd (omega arith)
    ])
    (λ fixed. elim fixed [
      | inl odd ↦
          let phase = old.phase.present in
          let even : IsJoined c.phase = omega arith in
          known.0.chosen (may.1 even)
      | inr first ↦ let none = first.0 in absurd (omega arith)
    ])
    (choice_same z words views c d refl known.0)
    fits
    workers
    in
    steps_by z words views place 0 (released_word z seen) (Coord c) (Coord d) (Release mask) Done t some_state at
    (record { before = tt; permits = permits; tells = refl }) refl after_it (omega arith) (λ _. refl)
    (same_coord c d refl) (λ _. refl)
