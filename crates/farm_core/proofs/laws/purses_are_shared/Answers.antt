use Rattle.farm_core.proofs.SharingLemmas.{purses_are_shared}
use Rattle.farm_core.proofs.laws.purses_are_shared.Goals as goal

pub returns : goal.returns
returns c = purses_are_shared
