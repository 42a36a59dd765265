use Rattle.std.proofs.Common.{◌∙◌, sym}
use Rattle.farm_service.proofs.PoolLemmas.{pool_answered}
use Rattle.farm_service.proofs.shared.PoolAtShared.ask_all.Goals as goal

pub returns-clause-told : goal.returns-clause-told
returns-clause-told g c =
    pool_answered c.args.queries.now c.ask_all.new.replies.items c.args.token.now c.ask_all.new.pass (c.ask_all.ensures.own.0 ∙ sym c.requires.own.0) c.ask_all.ensures.called
