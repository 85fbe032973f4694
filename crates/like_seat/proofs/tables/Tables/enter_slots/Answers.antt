use Rattle.std.proofs.Common.{◌≡◌, ℕ, ◌%◌, ◌==◌, ◌∷◌, List, slice_index, refl, sym, ap, subst, ◌∙◌, eq-eqb, arith}
use Rattle.std.proofs.lemmas.Bool.{cond-true}
use Rattle.like_core.specs.declared.view.PhaseMask.{PhaseMask}
use Rattle.like_core.specs.Phase.{IsSplit}
use Rattle.like_core.specs.Slots.{mask_of_slots}
use Rattle.like_core.specs.WorkerState.{phase_of}
use Rattle.like_core.specs.declared.worker_state.WorkerState.TheVariants.{Runs}
use Rattle.like_limits.specs.Limits.{hot_pages}
use Rattle.like_seat.specs.Kept.{AreSlotsApart}
use Rattle.like_seat.specs.Steps.{masks_entered}
use Rattle.like_seat.proofs.Entering.{filled-service}
use Rattle.like_seat.proofs.tables.Tables.enter_slots.Goals as goal

pub returns : goal.returns
returns g c =
    let p = g.P.Post.view c.args.post.now in
    let phase : ℕ = c.args.phase in
    let slots : ℕ → ℕ = slice_index c.slots-used.new.pages in
    let mask : ℕ = mask_of_slots slots c.slots-used.result hot_pages in
    let odd : IsSplit phase = omega arith in
    let read : PhaseMask = record { phase = phase; mask = mask } in
    let masks : ◌≡◌ {A = List PhaseMask} (record { phase = phase_of p.state; mask = mask } ∷ p.masks)
    (masks_entered p.masks phase mask) =
    ap (λ (k : ℕ). record { phase = k; mask = mask } ∷ p.masks) (ap phase_of c.requires.may.runs)
    ∙ sym (cond-true (phase % 2 == 1) (read ∷ p.masks) p.masks (eq-eqb (phase % 2) 1 odd)) in
    record {
      board = c.slots-used.ensures.board;
      enters = (
        mask,
        record {
          at_post = c.slots-used.ensures.view ∙ (λ i. record p { masks = masks i; slots = sym c.requires.may.unread i });
          rest = refl {a = record c.args.self.now { state = Runs phase; slice = c.split_slots.new.slice }};
          split = λ _. filled-service p slots c.slots-used.result c.args.self.now.slice c.split_slots.new.slice
              c.requires.service c.requires.may.limits c.requires.may.few_pages c.slots-used.ensures.choice
              c.split_slots.ensures;
          joined = λ even. absurd (omega (arith, odd, even));
        },
      );
    }

pub split_slots-requires-clause-unsplit : goal.split_slots-requires-clause-unsplit
split_slots-requires-clause-unsplit g c =
    let unsplit = c.requires.may.unsplit in
    record { slice = unsplit.slice; factor = refl; none = unsplit.none }

pub split_slots-requires-clause-apart : goal.split_slots-requires-clause-apart
split_slots-requires-clause-apart g c =
    let slots : ℕ → ℕ = slice_index c.slots-used.new.pages in
    subst (λ (f : ℕ). AreSlotsApart f slots c.slots-used.result) (sym c.requires.may.unsplit.factor)
    c.slots-used.ensures.choice.apart

pub split_slots-requires-clause-numbers : goal.split_slots-requires-clause-numbers
split_slots-requires-clause-numbers g c = λ i small used.
    c.requires.may.numbers (slice_index c.slots-used.new.pages i) (c.slots-used.ensures.choice.there i small used)
