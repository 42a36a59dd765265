use Rattle.farm_core.proofs.CommandLemmas.{cancel_accepted}
use Rattle.farm_core.proofs.farm.Farm.cancel.Goals as goal

pub returns-clause-accepted : goal.returns-clause-accepted
returns-clause-accepted g c line accepts =
    cancel_accepted c.args.self.now c.commit.new.self c.args.tenant c.args.seq c.decide_cancel-effect.result c.commit.result line c.decide_cancel-effect.ensures c.commit.ensures.follows c.commit.ensures.memory accepts
