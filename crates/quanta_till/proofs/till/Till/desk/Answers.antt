use Rattle.std.proofs.Common.{rules}
use Rattle.quanta_till.proofs.TillLemmas.{splits}
use Rattle.quanta_till.proofs.till.Till.desk.Goals as goal

pub split_seat-seat-requires : goal.split_seat-seat-requires
split_seat-seat-requires c = (search rules, search rules, splits _ _ _)
