use Rattle.std.proofs.Common.{ap}
use Rattle.farm_core.specs.Command.{event_of}
use Rattle.farm_core.proofs.ReplyLemmas.{command_needs}
use Rattle.farm_pool.specs.Calls.{call_image}
use Rattle.farm_pool.specs.declared.locked_farm.FarmAnswer.TheVariants as given
use Rattle.farm_pool.proofs.ServedLemmas.{asked_may, asked_replied, does_on}
use Rattle.farm_pool.proofs.locked_farm.serve_on.Goals as goal

pub returns-in-Asked : goal.returns-in-Asked
returns-in-Asked g c =
    let did = c.command-reply.ensures in
    let event = event_of c.in-Asked.command in
    does_on g.J.Strategy.meaning c.args.farm.now c.command-reply.new.self c.args.call (given.Replied c.command-reply.result)
    (
    asked_replied g.J.Strategy.meaning c.args.farm.now c.command-reply.new.self c.args.call c.in-Asked.tenant event c.command-reply.result
    (ap (call_image g.J.Strategy.meaning) c.in-Asked.is) (asked_may g.J.Strategy.meaning c.args.farm.now.config c.args.call c.in-Asked.tenant c.in-Asked.command c.in-Asked.is c.requires).known c.journal.ensures.replayed did.follows
    (command_needs c.args.farm.now c.command-reply.new.self c.in-Asked.tenant event c.command-reply.result did.follows did.accepted)
    )
    c.journal-in-Asked.ensures.reached
