use Rattle.farm_core.proofs.AloneLemmas.{each_lone_tenant_is_alone}
use Rattle.farm_core.proofs.laws.each_lone_tenant_is_alone.Goals as goal

pub returns : goal.returns
returns c = each_lone_tenant_is_alone
