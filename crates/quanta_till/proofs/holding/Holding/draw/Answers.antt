use Rattle.std.proofs.Common.{rules, arith}
use Rattle.quanta_till.proofs.TillLemmas.{draws}
use Rattle.quanta_till.proofs.holding.Holding.draw.Goals as goal

pub fetch_sub-requires : goal.fetch_sub-requires
fetch_sub-requires c = (search rules, search rules, draws _ _ _ _ _ (omega (arith, c.ranges.n)))
