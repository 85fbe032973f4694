use Rattle.own_table.proofs.Lists.{element}
use Rattle.own_table.proofs.own_table.OwnTable.seat.Goals as goal

pub seat-requires : goal.seat-requires
seat-requires g c = element c.args.self.now.standing.views c.args.id c.requires
