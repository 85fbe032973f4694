use Rattle.std.proofs.Common.{bit_or, ap}
use Rattle.own_table.proofs.Lists.{found_fits, found_is}
use Rattle.own_table.proofs.own_table.OwnTable.fetch_or.Goals as goal

pub step-requires : goal.step-requires
step-requires g c =
    let t = c.args.self.now in
    let is = found_is t.standing.words t.words.items c.args.word _ t.same c.requires.there c.index-found.ensures in
    record {
      here = c.requires.here;
      fits = found_fits t.standing.words t.words.items c.args.word _ t.same c.requires.there c.index-found.ensures
          c.type_inv.found.fits;
      change = λ n. bit_or n c.args.k;
      becomes = ap (λ n. bit_or n c.args.k) is;
      allowed = c.requires.allowed;
    }
