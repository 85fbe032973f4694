use Rattle.like_core.proofs.views.KeptOrder.{new_seat_keeps_order}
use Rattle.like_core.proofs.laws.new_seat_keeps_order.Goals as goal

pub returns : goal.returns
returns c = new_seat_keeps_order
