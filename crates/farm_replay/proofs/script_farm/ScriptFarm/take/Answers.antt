use Rattle.std.proofs.Common.{subst, sym}
use Rattle.farm_session.specs.declared.ask.Ask.TheVariants as ask
use Rattle.farm_session.specs.declared.ask.TurnAsk.TheVariants as turn
use Rattle.farm_replay.specs.ScriptFarm.{IsTold}
use Rattle.farm_replay.proofs.ScriptFarmLemmas.{told_taken, told_untaken}
use Rattle.farm_replay.proofs.script_farm.ScriptFarm.take.Goals as goal

pub returns-in-Ok-clause-told : goal.returns-in-Ok-clause-told
returns-in-Ok-clause-told g c =
    told_taken c.args.self.now.farm c.hold.new.self.farm c.args.tenant c.args.seq c.args.slice c.in-Ok.line c.in-Ok.ensures.held

pub returns-in-Err-clause-told : goal.returns-in-Err-clause-told
returns-in-Err-clause-told g c =
    subst (λ a. IsTold c.args.self.now.farm c.args.tenant (ask.Turn (turn.Take c.args.seq c.args.slice)) a c.hold.new.self.farm) (sym c.untaken.ensures)
    (told_untaken c.args.self.now.farm c.hold.new.self.farm c.args.tenant c.args.seq c.args.slice c.in-Err.why c.requires.known c.in-Err.ensures.refused)
