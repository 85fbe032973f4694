use Rattle.std.proofs.Common.{subst, sym, arith}
use Rattle.std.proofs.lemmas.List.{length_push}
use Rattle.like_tables.specs.StashView.{IsStash}
use Rattle.like_seat.proofs.Keeping.{Kept-stashing}
use Rattle.like_seat.proofs.tables.Tables.stash.Goals as goal

pub returns-clause-kept : goal.returns-clause-kept
returns-clause-kept g c post kept =
    let stash = c.args.self.now.stash in
    let was = kept.station.waiting in
    Kept-stashing post c.args.self.now c.push.new.self kept
    (subst IsStash (sym c.push.ensures) (record {
      some = was.some;
      few = was.few;
      within = omega (arith, length_push stash.looks c.args.look, c.requires);
    }))
