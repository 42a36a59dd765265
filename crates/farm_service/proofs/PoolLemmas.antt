-- Queries that a pool answers in one turn.
use Rattle.std.proofs.Common.{◌≡◌, List, [], ◌∷◌, map, ap, sym, ◌∙◌}
use Rattle.farm_core.specs.declared.entry.Entry.{Entry}
use Rattle.farm_core.specs.declared.reply.Reply.{Reply}
use Rattle.farm_core.specs.Config.{ConfigData}
use Rattle.turn_lock.specs.Plays.{Called, AreCalled}
use Rattle.turn_lock.specs.Values.{PassValue}
use Rattle.farm_pool.specs.declared.image.AnswerImage.TheVariants as told
use Rattle.farm_pool.specs.declared.image.CallImage.TheVariants as said
use Rattle.farm_pool.specs.declared.query.Query.{Query}
use Rattle.farm_pool.specs.Query.{query_image}
use Rattle.farm_pool.specs.Served.{Served}
use Rattle.farm_service.specs.Asked.{AreAnswered}

abbrev Pass : Type 0
Pass = PassValue ConfigData Entry

-- each query was a call of the pass
pub pool_answered : (queries : List Query) (replies : List Reply) (pass new : Pass) → new.table ≡ pass.table
    → AreCalled Served pass.view (map query_image queries) (map (λ reply. told.Replied reply) replies) new.view
    → AreAnswered (λ (old : Pass) t e r (then : Pass). Called Served old.view (said.Asked t e) (told.Replied r) then.view) pass queries replies new
pool_answered [] [] pass new same called = λ i. record { table = same i; view = called i }
pool_answered [] (reply ∷ replies) pass new same called = absurd called
pool_answered (query ∷ queries) [] pass new same called = absurd called
pool_answered (query ∷ queries) (reply ∷ replies) pass new same called =
    let mid : Pass = record { table = pass.table; view = called.0 } in
    (mid, called.1, pool_answered queries replies mid new same called.2)
