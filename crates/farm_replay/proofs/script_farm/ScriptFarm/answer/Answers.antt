use Rattle.std.proofs.Common.{◌<◌, length, sym, subst}
use Rattle.farm_core.specs.Command.{event_of}
use Rattle.farm_session.specs.Ask.{search_in}
use Rattle.farm_core.specs.Config.{ConfigData}
use Rattle.farm_replay.proofs.ScriptFarmLemmas.{commanded, farm_commanded, unmade}
use Rattle.farm_replay.proofs.script_farm.ScriptFarm.answer.Goals as goal

pub returns-in-Some-clause-told : goal.returns-in-Some-clause-told
returns-in-Some-clause-told g c =
    rw c.in-Call.is (commanded c.args.self.now.farm c.command.new.self c.args.tenant c.in-Call.call (event_of c.in-Some.command) c.command.result
    (subst (λ (k : ConfigData). c.args.tenant < length k.tenants) (sym c.requires.config) c.requires.known) c.in-Some.ensures.exact
    c.command.ensures.follows c.command.ensures.accepted)

pub returns-in-Some-clause-script_farm : goal.returns-in-Some-clause-script_farm
returns-in-Some-clause-script_farm g c =
    farm_commanded g.J.Strategy.meaning c.args.self.now.farm c.command.new.self c.args.tenant c.in-Call.call (event_of c.in-Some.command) c.command.result c.in-Some.ensures.exact
    c.args.self.now.held.items c.command.ensures.follows c.requires.script_farm

pub returns-in-None-clause-told : goal.returns-in-None-clause-told
returns-in-None-clause-told g c =
    rw c.in-Call.is (unmade c.args.self.now.farm c.args.tenant c.in-Call.call
    (subst (λ (k : ConfigData). c.args.tenant < length k.tenants) (sym c.requires.config) c.requires.known) c.in-None.ensures.exact)

pub command-requires-clause-fresh : goal.command-requires-clause-fresh
command-requires-clause-fresh g c κs within = c.in-Some.ensures.fresh g.J.Strategy.meaning g.J.Strategy.lease c.requires.fresh

pub returns-in-Some-clause-leased : goal.returns-in-Some-clause-leased
returns-in-Some-clause-leased g c = rw c.in-Call.is (search_in c.command_of.result, c.command_of.ensures.leased)
