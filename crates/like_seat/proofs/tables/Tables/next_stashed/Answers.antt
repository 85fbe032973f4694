use Rattle.std.proofs.Common.{subst, sym, arith}
use Rattle.std.proofs.lemmas.List.{length-drop}
use Rattle.like_tables.specs.StashView.{IsStash}
use Rattle.like_seat.proofs.Keeping.{Kept-stashing}
use Rattle.like_seat.proofs.tables.Tables.next_stashed.Goals as goal

pub returns-clause-kept : goal.returns-clause-kept
returns-clause-kept g c post kept =
    let was = kept.station.waiting in
    Kept-stashing post c.args.self.now c.pop_front.new.self kept
    (subst IsStash (sym c.pop_front.ensures.rest) (record {
      some = was.some;
      few = was.few;
      within = omega (arith, was.within, length-drop 1 c.args.self.now.stash.looks);
    }))
