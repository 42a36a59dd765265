use Rattle.std.proofs.Common.{◌<◌, ◌≤◌, arith, ⊎_elim}
use Rattle.std.proofs.lemmas.Bool.{cases_lt}
use Rattle.tree_search.proofs.amounts.take_off.Goals as goal

-- beyond the lanes there is nothing
pub returns : goal.returns
returns c r among =
    ⊎_elim
    (λ (inside : r < c.args.lanes). omega (arith, c.loop-kind.invariant.done r (omega (arith, inside))))
    (λ (past : c.args.lanes ≤ r). omega (arith, c.loop-kind.invariant.rest r (omega (arith, past, c.requires.lanes)), c.requires.none r past among, c.requires.beyond r past among))
    (cases_lt r c.args.lanes)
