use Rattle.farm_pool.proofs.ServedLemmas.{gave_back, strayed}
use Rattle.farm_pool.proofs.locked_farm.back_to.Goals as goal

pub returns-in-Ok : goal.returns-in-Ok
returns-in-Ok g c =
    gave_back g.J.Strategy.meaning c.args.farm.now c.give.new.self c.args.turn c.in-Ok.reply c.journal.ensures.replayed c.in-Ok.ensures.given

pub returns-in-Err : goal.returns-in-Err
returns-in-Err g c =
    strayed g.J.Strategy.meaning c.args.farm.now c.give.new.self c.args.turn c.in-Err.field-0.0 c.requires.known c.journal.ensures.replayed c.in-Err.ensures.strange c.in-Err.ensures.kept
