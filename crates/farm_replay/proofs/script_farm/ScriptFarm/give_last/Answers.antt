use Rattle.farm_replay.proofs.ScriptFarmLemmas.{found_last, found_floor, given_none, held_turn, unrun_known}
use Rattle.farm_replay.proofs.ClosingLemmas.{given_parts}
use Rattle.farm_replay.proofs.script_farm.ScriptFarm.give_last.Goals as goal

pub give-requires-clause-known : goal.give-requires-clause-known
give-requires-clause-known g c κs within =
    (found_last g.J.Strategy.meaning c.args.self.now.farm c.args.self.now.held.items c.pop.new.self.items c.in-Some.turn c.in-Some.ensures.items c.requires).known

pub give-requires-clause-turn : goal.give-requires-clause-turn
give-requires-clause-turn g c κs within =
    let found = found_last g.J.Strategy.meaning c.args.self.now.farm c.args.self.now.held.items c.pop.new.self.items c.in-Some.turn c.in-Some.ensures.items c.requires in
    held_turn c.args.self.now.farm c.in-Some.turn.tenant c.in-Some.turn.seq c.in-Some.turn.slice c.in-Some.turn.ran (g.J.Strategy.meaning c.in-Some.turn.search) found.held found.ran

pub returns-in-Ok-clause-script_farm : goal.returns-in-Ok-clause-script_farm
returns-in-Ok-clause-script_farm g c =
    let found = found_last g.J.Strategy.meaning c.args.self.now.farm c.args.self.now.held.items c.pop.new.self.items c.in-Some.turn c.in-Some.ensures.items c.requires in
    found_floor g.J.Strategy.meaning c.args.self.now.farm c.give.new.self c.in-Some.turn.tenant c.in-Some.turn.seq c.in-Some.turn.ran c.in-Ok.reply
    c.args.self.now.held.items c.pop.new.self.items c.in-Some.turn found c.in-Ok.ensures.given.follows c.requires

pub returns-in-Ok-clause-unrun : goal.returns-in-Ok-clause-unrun
returns-in-Ok-clause-unrun g c =
    let found = found_last g.J.Strategy.meaning c.args.self.now.farm c.args.self.now.held.items c.pop.new.self.items c.in-Some.turn c.in-Some.ensures.items c.requires in
    given_none c.args.self.now.farm c.give.new.self c.in-Some.turn.tenant c.in-Some.turn.seq c.in-Some.turn.ran c.in-Ok.reply found.ran c.in-Ok.ensures.given.follows

pub returns-in-Ok-clause-parts : goal.returns-in-Ok-clause-parts
returns-in-Ok-clause-parts g c =
    let found = found_last g.J.Strategy.meaning c.args.self.now.farm c.args.self.now.held.items c.pop.new.self.items c.in-Some.turn c.in-Some.ensures.items c.requires in
    given_parts c.args.self.now.farm c.give.new.self c.in-Some.turn.tenant c.in-Some.turn.seq c.in-Some.turn.slice c.in-Some.turn.ran (g.J.Strategy.meaning c.in-Some.turn.search) c.in-Ok.reply
    found.known found.held found.ran c.in-Ok.ensures.given.follows

pub returns-in-Err-clause-script_farm : goal.returns-in-Err-clause-script_farm
returns-in-Err-clause-script_farm g c =
    let found = found_last g.J.Strategy.meaning c.args.self.now.farm c.args.self.now.held.items c.pop.new.self.items c.in-Some.turn c.in-Some.ensures.items c.requires in
    absurd (unrun_known g.J.Strategy.meaning c.args.self.now.farm c.args.self.now.held.items c.pop.new.self.items c.in-Some.turn found c.in-Err.ensures.strange)
