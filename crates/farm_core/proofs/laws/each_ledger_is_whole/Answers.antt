use Rattle.farm_core.proofs.LawLemmas.{each_ledger_is_whole}
use Rattle.farm_core.proofs.laws.each_ledger_is_whole.Goals as goal

pub returns : goal.returns
returns c = each_ledger_is_whole
