use Rattle.farm_config.proofs.ConfigLemmas.{fault_none}
use Rattle.farm_config.proofs.laws.faults_are_what_is_no_configuration.Goals as goal

pub returns : goal.returns
returns c = fault_none
