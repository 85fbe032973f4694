use Rattle.std.proofs.Common.{Bool, false, ◌<◌, refl, ap, sym, subst, ◌∙◌}
use Rattle.std.proofs.lemmas.Bool.{not-false}
use Rattle.like_core.specs.declared.limits.Limits.{Limits}
use Rattle.like_core.specs.declared.opening.Opening.{Opening}
use Rattle.like_live.specs.Driver.{Decides, ReleasesNext, announces, driver_of, ended, releases, running}
use Rattle.like_live.proofs.Turning.{due-goes-on, look-keeps, saw_all_in, saw_running, splits-still}
use Rattle.like_live.proofs.driver.turns.act.Goals as goal

pub release-requires-clause-limits : goal.release-requires-clause-limits
release-requires-clause-limits g c =
    ap (λ (z : Opening). z.limits) (look-keeps _ _ _ c.look-sight.ensures).same.opening ∙ c.requires.limits

pub release-requires-clause-splits : goal.release-requires-clause-splits
release-requires-clause-splits g c =
    splits-still _ _ _ (look-keeps _ _ _ c.look-sight.ensures).same c.requires.splits

pub look-sight-requires : goal.look-sight-requires
look-sight-requires g c = c.requires.here

pub release-requires-clause-here : goal.release-requires-clause-here
release-requires-clause-here g c = (look-keeps _ _ _ c.look-sight.ensures).same.board ∙ c.requires.here

pub release-requires-clause-saw : goal.release-requires-clause-saw
release-requires-clause-saw g c =
    saw_all_in _ _ _ c.look-sight.ensures c.if-sight.true (not-false _ c.if-not-sight.false)

pub prepare_end-requires : goal.prepare_end-requires
prepare_end-requires g c = record { running = saw_running _ _ _ c.look-sight.ensures c.if-sight.false }

pub announce-requires-clause-here : goal.announce-requires-clause-here
announce-requires-clause-here g c = (look-keeps _ _ _ c.look-sight.ensures).same.board ∙ c.requires.here

pub announce-requires-clause-running : goal.announce-requires-clause-running
announce-requires-clause-running g c =
    let limits = ap (λ (z : Opening). z.limits) (look-keeps _ _ _ c.look-sight.ensures).same.opening ∙ c.requires.limits in (
      saw_running _ _ _ c.look-sight.ensures c.if-sight.false,
      subst (λ (l : Limits). c.look-sight.new.self.seat.phase < l.last_phase) (sym limits)
          (due-goes-on _ _ _ _ _ c.if-prepare_end.true c.prepare_end.ensures),
    )

pub returns-then-sight : goal.returns-then-sight
returns-then-sight g c = record {
  sight = c.look-sight.result;
  seen = c.look-sight.new.self;
  sees = c.look-sight.ensures;
  case = releases c.if-sight.true (not-false _ c.if-not-sight.false) refl
      (subst (λ (b : Bool). ReleasesNext (driver_of c.look-sight.new.self c.args.splits.now false false)
      (driver_of c.release.new.lead c.release.new.splits b false)) (sym c.clear.ensures) c.release.ensures);
}

pub returns-then-prepare_end : goal.returns-then-prepare_end
returns-then-prepare_end g c =
    let before = driver_of c.look-sight.new.self c.args.splits.now c.args.hint.now false in
    let now = driver_of c.look-sight.new.self c.prepare_end.new.splits c.prepare_end.new.hint false in
    record {
      sight = c.look-sight.result;
      seen = c.look-sight.new.self;
      sees = c.look-sight.ensures;
      case = announces now c.if-sight.false
          (subst (λ (b : Bool). Decides before c.look-sight.result c.args.end b now) c.if-prepare_end.true c.prepare_end.ensures) refl
          (λ m. driver_of (c.announce.ensures m) c.prepare_end.new.splits c.prepare_end.new.hint false);
    }

pub returns : goal.returns
returns g c =
    let before = driver_of c.look-sight.new.self c.args.splits.now c.args.hint.now false in
    let now = driver_of c.look-sight.new.self c.prepare_end.new.splits c.prepare_end.new.hint false in
    record {
      sight = c.look-sight.result;
      seen = c.look-sight.new.self;
      sees = c.look-sight.ensures;
      case = running c.if-sight.false c.if-sight-2.false
          (subst (λ (b : Bool). Decides before c.look-sight.result c.args.end b now) c.if-prepare_end.false c.prepare_end.ensures) refl;
    }

pub returns-then-sight-2 : goal.returns-then-sight-2
returns-then-sight-2 g c =
    let before = driver_of c.look-sight.new.self c.args.splits.now c.args.hint.now false in
    let now = driver_of c.look-sight.new.self c.prepare_end.new.splits c.prepare_end.new.hint false in
    record {
      sight = c.look-sight.result;
      seen = c.look-sight.new.self;
      sees = c.look-sight.ensures;
      case = ended c.if-sight.false c.if-sight-2.true
          (subst (λ (b : Bool). Decides before c.look-sight.result c.args.end b now) c.if-prepare_end.false c.prepare_end.ensures) refl;
    }
