use Rattle.std.proofs.Common.{◌<◌, ◌≤◌, arith, ⊎_elim}
use Rattle.std.proofs.lemmas.Bool.{cases_lt}
use Rattle.serial_sgs.proofs.RowLemmas.{stock_past}
use Rattle.serial_sgs.proofs.rows.stocks_of.Goals as goal

pub returns : goal.returns
returns c r within =
    ⊎_elim
    (λ (l : r < c.loop-resource.resource). c.loop-resource.invariant.done r l)
    (λ (over : c.loop-resource.resource ≤ r). omega (arith, c.loop-resource.invariant.rest r over, stock_past c.args.project.now r (omega (arith, c.loop-resource-test.false))))
    (cases_lt r c.loop-resource.resource)
