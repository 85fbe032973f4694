use Rattle.std.proofs.Common.{◌+◌, ◌≤◌, length, ap, subst, arith}
use Rattle.like_tables.specs.Ranks.{AreLastsFrom}
use Rattle.like_tables.specs.UserTable.{IsUserTable, UserTable}
use Rattle.like_live.specs.Lasts.{AreLastsAt, users_of}
use Rattle.like_live.specs.LiveView.{LiveView, live_of}
use Rattle.like_live.proofs.Lasting.{lasts-at}
use Rattle.like_live.proofs.live_seat.LiveSeat.lasts.Goals as goal

pub returns-clause-lasts : goal.returns-clause-lasts
returns-clause-lasts g c =
    let v = live_of c.self.inside.station c.self.inside.found in
    let row = c.write_lasts.new.row in
    let table = subst IsUserTable c.users.ensures c.write_lasts.ensures.table in
    let lasts = subst (λ (t : UserTable). AreLastsFrom t c.args.from row) c.users.ensures c.write_lasts.ensures.lasts in
    let room : c.args.from + length row ≤ users_of v =
    omega (arith, c.requires, c.write_lasts.ensures.len, ap users_of c.self.view_is) in
    subst (λ (w : LiveView). AreLastsAt w c.args.from row) c.self.view_is
    (lasts-at v c.args.from row table c.self.invariant.live.home room lasts)
