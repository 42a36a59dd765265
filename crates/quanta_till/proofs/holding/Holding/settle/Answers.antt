use Rattle.std.proofs.Common.{rules, arith}
use Rattle.quanta_till.proofs.TillLemmas.{hands_back}
use Rattle.quanta_till.proofs.holding.Holding.settle.Goals as goal

pub fetch_add-requires : goal.fetch_add-requires
fetch_add-requires c = (search rules, search rules, hands_back _ _ _ _ _ (omega (arith, c.self.invariant)))
