use Rattle.std.proofs.Common.{arith, sym, ◌∙◌}
use Rattle.farm_replay.proofs.ClosingLemmas.{back_parts}
use Rattle.farm_replay.proofs.ScriptFarmLemmas.{none_left, none_out}
use Rattle.farm_replay.proofs.script_farm.ScriptFarm.give_all.Goals as goal

pub returns-clause-back : goal.returns-clause-back
returns-clause-back g c =
    none_out g.J.Strategy.meaning c.loop-given.self.farm c.loop-given.self.held.items (none_left c.loop-given.self.held.items (omega (arith, c.loop-given.invariant.1))) c.loop-given.invariant.0

pub returns-clause-parts : goal.returns-clause-parts
returns-clause-parts g c p =
    let w = c.loop-given.self.farm in
    let none = none_out g.J.Strategy.meaning w c.loop-given.self.held.items (none_left c.loop-given.self.held.items (omega (arith, c.loop-given.invariant.1))) c.loop-given.invariant.0 in
    sym (back_parts w c.loop-given.invariant.0.replayed none p) ∙ c.loop-given.invariant.3 p
