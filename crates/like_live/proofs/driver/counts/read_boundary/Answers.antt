use Rattle.std.proofs.Common.{◌≡◌, ◌+◌, ◌%◌, ◌≤◌, length, true, false, Some, ap, sym, ◌∙◌, subst, refl}
use Rattle.std.proofs.lemmas.Bool.{eq-eqb, eqb-true, not-false, not-true}
use Rattle.like_core.specs.declared.opening.Opening.{Opening}
use Rattle.like_core.specs.declared.view.View.TheVariants.{Coord}
use Rattle.like_core.specs.views.Shows.{IsKnown}
use Rattle.like_seat.specs.Lead.{LeadView}
use Rattle.like_live.specs.Driver.{IsBoundary, not_now, taken}
use Rattle.like_live.proofs.Turning.{look-keeps, reads-only, saw_all_in}
use Rattle.like_live.proofs.driver.counts.read_boundary.Goals as goal
use Rattle.like_live.proofs.driver.counts.read_boundary.Goals.{then-not-sight-via-then-not-sight, then-not-sight-via-else-not-sight+then-not-sight-2, then-not-sight-via-else-not-sight+else-not-sight-2+then-not-is_joined}

pub returns-then-not-sight : goal.returns-then-not-sight
returns-then-not-sight c =
    let seen = c.look-sight.new.self in
    let not_at : ¬ IsBoundary seen c.look-sight.result = λ b. elim c.then-not-sight.branch [
      | then-not-sight-via-then-not-sight w ↦ let clash : true ≡ false =
          sym b.ending ∙ not-true _ w.if-not-sight.true in cc
      | then-not-sight-via-else-not-sight+then-not-sight-2 w ↦ let clash : true ≡ false =
          sym b.all_in ∙ not-true _ w.if-not-sight-2.true in cc
      | then-not-sight-via-else-not-sight+else-not-sight-2+then-not-is_joined w ↦
          let clash : true ≡ false =
          sym (eq-eqb (seen.seat.phase % 2) 0 b.joined) ∙ sym w.is_joined.ensures ∙ w.if-not-is_joined.true in cc
    ] in
    record {
      sight = c.look-sight.result;
      seen = seen;
      sees = c.look-sight.ensures;
      case = not_now not_at refl refl refl;
      known = c.look-sight.ensures.known;
    }

pub returns : goal.returns
returns c =
    let seen = c.look-sight.new.self in
    let reads = c.read_counts.ensures.reads in
    let at : IsBoundary seen c.look-sight.result = record {
      joined = eqb-true (seen.seat.phase % 2) 0 (sym c.is_joined.ensures ∙ c.if-not-is_joined.false);
      ending = not-false _ c.if-not-sight.false;
      all_in = not-false _ c.if-not-sight-2.false;
    } in
    let phase : c.phase.result ≡ seen.seat.phase =
    c.phase.ensures ∙ ap (λ (l : LeadView). l.seat.phase) reads
    ∙ (reads-only seen.seat c.args.from c.read_counts.new.counts).phase in
    let opening = (look-keeps c.args.lead.now seen c.look-sight.result c.look-sight.ensures).same.opening in
    record {
      sight = c.look-sight.result;
      seen = seen;
      sees = c.look-sight.ensures;
      case = taken at (ap Some phase) c.read_counts.ensures.len reads;
      known = subst (λ (z : Opening). IsKnown z (Coord c.read_counts.new.self.seat)) opening
          (c.read_counts.ensures.known
          (subst (λ (z : Opening). IsKnown z (Coord seen.seat)) (sym opening) c.look-sight.ensures.known));
    }

pub look-sight-requires : goal.look-sight-requires
look-sight-requires c = c.requires.here

pub read_counts-requires-clause-here : goal.read_counts-requires-clause-here
read_counts-requires-clause-here c = (look-keeps _ _ _ c.look-sight.ensures).same.board ∙ c.requires.here

pub read_counts-requires-clause-saw : goal.read_counts-requires-clause-saw
read_counts-requires-clause-saw c =
    saw_all_in _ _ _ c.look-sight.ensures (not-false _ c.if-not-sight.false) (not-false _ c.if-not-sight-2.false)

pub read_counts-requires-clause-joined : goal.read_counts-requires-clause-joined
read_counts-requires-clause-joined c =
    eqb-true (c.look-sight.new.self.seat.phase % 2) 0 (sym c.is_joined.ensures ∙ c.if-not-is_joined.false)

pub read_counts-requires-clause-pages : goal.read_counts-requires-clause-pages
read_counts-requires-clause-pages c =
    subst (λ (z : Opening). c.args.from + length c.args.counts.now ≤ length z.counts)
    (sym (look-keeps _ _ _ c.look-sight.ensures).same.opening) c.requires.places
