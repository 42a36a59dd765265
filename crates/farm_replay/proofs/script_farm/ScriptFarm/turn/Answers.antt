use Rattle.std.proofs.Common.{subst, sym}
use Rattle.farm_session.specs.declared.ask.Ask.TheVariants as ask
use Rattle.farm_session.specs.declared.ask.TurnAsk.TheVariants as turn
use Rattle.farm_replay.specs.ScriptFarm.{IsTold}
use Rattle.farm_replay.proofs.ScriptFarmLemmas.{turned_untaken, turned_whole}
use Rattle.farm_replay.proofs.script_farm.ScriptFarm.turn.Goals as goal

pub returns-in-Ok-clause-told : goal.returns-in-Ok-clause-told
returns-in-Ok-clause-told g c =
    turned_whole c.args.self.now.farm c.hold.new.self.farm c.give.new.self.farm c.args.tenant c.args.seq c.args.slice c.in-Ok.field-0 c.give.result c.in-Ok.ensures.held c.give.ensures.told

pub returns-in-Err-clause-told : goal.returns-in-Err-clause-told
returns-in-Err-clause-told g c =
    subst (λ a. IsTold c.args.self.now.farm c.args.tenant (ask.Turn (turn.Whole c.args.seq c.args.slice)) a c.hold.new.self.farm) (sym c.untaken.ensures)
    (turned_untaken c.args.self.now.farm c.hold.new.self.farm c.args.tenant c.args.seq c.args.slice c.in-Err.why c.requires.known c.in-Err.ensures.refused)
