use Rattle.std.proofs.Common.{refl}
use Rattle.farm_core.proofs.ReplyLemmas.{command_needs}
use Rattle.farm_pool.specs.Query.{event_about, command_about}
use Rattle.farm_pool.specs.declared.locked_farm.FarmCall.TheVariants as asked
use Rattle.farm_pool.specs.declared.locked_farm.FarmAnswer.TheVariants as given
use Rattle.farm_pool.proofs.ServedLemmas.{asked_replied, does_on}
use Rattle.farm_pool.proofs.QueryLemmas.{asks, cancels_nothing}
use Rattle.farm_pool.proofs.query.query_on.Goals as goal

pub returns : goal.returns
returns g c =
    let old = c.args.farm.now in
    let new = c.reply_to-reply.new.farm in
    let t = c.args.query.now.tenant in
    let about = c.args.query.now.about in
    let event = event_about about in
    let reply = c.reply_to-reply.result in
    does_on g.J.Strategy.meaning old new (asked.Asked t (command_about about)) (given.Replied reply)
    (asked_replied g.J.Strategy.meaning old new (asked.Asked t (command_about about)) t event reply (asks g.J.Strategy.meaning t about) c.requires c.journal.ensures.replayed c.reply_to-reply.ensures
    (command_needs old new t event reply c.reply_to-reply.ensures (λ seq line is. absurd (cancels_nothing about seq is))))
    c.journal-2.ensures.reached
