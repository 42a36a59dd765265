use Rattle.std.proofs.Common.{◌++◌, ◌∷◌, [], ap, subst, sym, ◌∙◌}
use Rattle.farm_replay.specs.ScriptFarm.{IsScriptFarm}
use Rattle.farm_replay.proofs.ScriptFarmLemmas.{farm_taken, sent_line, told_out}
use Rattle.farm_replay.proofs.script_farm.ScriptFarm.hold.Goals as goal

pub returns-in_default-snapshot-clause-refused : goal.returns-in_default-snapshot-clause-refused
returns-in_default-snapshot-clause-refused g c =
    absurd (told_out c.args.self.now.farm c.take.new.self c.args.tenant c.args.seq c.args.slice (g.J.Strategy.meaning c.in_ok-turn.turn.search) c.in_ok-turn.ensures.taken
    (cc (c.snapshot.ensures, c.in_default-snapshot.is)))

pub returns-in_default-snapshot-clause-script_farm : goal.returns-in_default-snapshot-clause-script_farm
returns-in_default-snapshot-clause-script_farm g c =
    absurd (told_out c.args.self.now.farm c.take.new.self c.args.tenant c.args.seq c.args.slice (g.J.Strategy.meaning c.in_ok-turn.turn.search) c.in_ok-turn.ensures.taken
    (cc (c.snapshot.ensures, c.in_default-snapshot.is)))

pub returns-clause-held : goal.returns-clause-held
returns-clause-held g c =
    sent_line c.args.self.now.farm c.take.new.self c.args.tenant c.args.seq c.args.slice (g.J.Strategy.meaning c.in_ok-turn.turn.search) c.in-Some.line c.in_ok-turn.ensures.taken
    c.in-Some.ensures

pub returns-clause-script_farm : goal.returns-clause-script_farm
returns-clause-script_farm g c =
    let turn = c.in_ok-turn.ensures in
    let pushed = farm_taken g.J.Strategy.meaning c.args.self.now.farm c.take.new.self c.args.tenant c.args.seq c.args.slice
    c.in_ok-turn.turn turn.taken turn.tenant turn.seq turn.slice turn.ran c.requires.known c.args.self.now.held.items c.requires.script_farm in
    subst (λ turns. IsScriptFarm g.J.Strategy.meaning c.take.new.self turns) (ap (λ turns. turns ++ c.in_ok-turn.turn ∷ []) (sym c.reserve.ensures.items) ∙ sym c.push_reserved.ensures.items) pushed
