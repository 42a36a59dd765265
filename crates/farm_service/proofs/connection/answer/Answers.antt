use Rattle.farm_core.specs.Command.{event_of}
use Rattle.farm_service.proofs.AskedLemmas.{said_called, said_unmade}
use Rattle.farm_service.proofs.connection.answer.Goals as goal

pub returns-in-Some-clause-said : goal.returns-in-Some-clause-said
returns-in-Some-clause-said g c =
    said_called (g.D.Shared.tells c.args.service.now.shared.now c.args.token.now c.args.tenant) c.args.token.now c.call.new.token c.args.asked (event_of c.in-Some.command) c.call.result
    c.in-Some.ensures.exact c.call.ensures.told

pub returns-in-None-clause-said : goal.returns-in-None-clause-said
returns-in-None-clause-said g c =
    said_unmade (g.D.Shared.tells c.args.service.now.shared.now c.args.token.now c.args.tenant) c.args.token.now c.args.token.now c.args.asked c.in-None.ensures.exact

pub call-requires-clause-fresh : goal.call-requires-clause-fresh
call-requires-clause-fresh g c = c.in-Some.ensures.fresh g.D.Shared.means g.D.Shared.leases c.requires.fresh
