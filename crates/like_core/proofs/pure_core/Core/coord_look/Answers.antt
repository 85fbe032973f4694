use Rattle.std.proofs.Common.{refl}
use Rattle.like_core.proofs.pure_core.Core.coord_look.Goals as goal

pub returns : goal.returns
returns c = record {
  number = refl;
  ending = refl;
  all_in = c.all_in.ensures;
  all_gone = c.all_gone.ensures;
}
