use Rattle.farm_core.proofs.LawLemmas.{each_lone_tenant_is_isolated}
use Rattle.farm_core.proofs.laws.each_lone_tenant_is_isolated.Goals as goal

pub returns : goal.returns
returns c = each_lone_tenant_is_isolated
