use Rattle.farm_pool.proofs.ServedLemmas.{sent_out, idled, unsent}
use Rattle.farm_pool.proofs.locked_farm.next_of.Goals as goal

pub returns-in-Ok : goal.returns-in-Ok
returns-in-Ok g c =
    sent_out g.J.Strategy.meaning c.args.farm.now c.take_next.new.self c.args.slice c.in-Ok.turn c.journal.ensures.replayed c.in-Ok.ensures.taken c.in-Ok.ensures.slice c.in-Ok.ensures.ran

pub returns-in-Err-None : goal.returns-in-Err-None
returns-in-Err-None g c =
    idled g.J.Strategy.meaning c.args.farm.now c.take_next.new.self c.args.slice c.journal.ensures.replayed (c.in-Err-None.ensures.idle c.in-Err-None.field-0-is) c.in-Err-None.ensures.kept

pub returns-in-Err-NoMemory : goal.returns-in-Err-NoMemory
returns-in-Err-NoMemory g c =
    let ready = c.in-Err-NoMemory.ensures.ready c.in-Err-NoMemory.field-0-is in
    unsent g.J.Strategy.meaning c.args.farm.now c.take_next.new.self c.args.slice ready.0 ready.1 c.journal.ensures.replayed ready.2 c.in-Err-NoMemory.ensures.kept
