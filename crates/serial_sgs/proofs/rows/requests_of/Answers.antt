use Rattle.std.proofs.Common.{◌<◌, ◌≤◌, arith, ⊎_elim}
use Rattle.std.proofs.lemmas.Bool.{cases_lt}
use Rattle.serial_sgs.proofs.RowLemmas.{request_past}
use Rattle.serial_sgs.proofs.rows.requests_of.Goals as goal

pub returns : goal.returns
returns c r within =
    ⊎_elim
    (λ (l : r < c.loop-resource.resource). c.loop-resource.invariant.done r l)
    (λ (over : c.loop-resource.resource ≤ r). omega (arith, c.loop-resource.invariant.rest r over, request_past c.args.project.now c.args.activity c.args.mode r c.requires.project c.requires.activity c.requires.mode (omega (arith, c.loop-resource-test.false))))
    (cases_lt r c.loop-resource.resource)
