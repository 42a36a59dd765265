use Rattle.std.proofs.Common.{sym, subst}
use Rattle.farm_replay.specs.ScriptFarm.{IsScriptFarm}
use Rattle.farm_replay.proofs.ScriptFarmLemmas.{farm_opened}
use Rattle.farm_replay.proofs.script_farm.ScriptFarm.new.Goals as goal

pub returns-clause-script_farm : goal.returns-clause-script_farm
returns-clause-script_farm g c =
    subst (λ turns. IsScriptFarm g.J.Strategy.meaning c.in_ok-farm.farm turns) (sym c.new-2.ensures.items)
    (farm_opened g.J.Strategy.meaning c.args.config.now c.in_ok-farm.farm c.in_ok-farm.ensures)
