use Rattle.farm_core.proofs.SeatLemmas.{each_view_is_a_seat}
use Rattle.farm_core.proofs.laws.each_view_is_a_seat.Goals as goal

pub returns : goal.returns
returns c = each_view_is_a_seat
