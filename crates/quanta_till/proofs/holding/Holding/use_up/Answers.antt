use Rattle.std.proofs.Common.{rules}
use Rattle.quanta_till.proofs.TillLemmas.{uses}
use Rattle.quanta_till.proofs.holding.Holding.use_up.Goals as goal

pub fetch_add-requires : goal.fetch_add-requires
fetch_add-requires c = (search rules, search rules, uses _ _ _ _ _ (search rules))
