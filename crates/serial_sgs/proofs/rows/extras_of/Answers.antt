use Rattle.std.proofs.Common.{◌<◌, ◌≤◌, arith, ⊎_elim}
use Rattle.std.proofs.lemmas.Bool.{cases_lt}
use Rattle.mrcpsp.proofs.ProjectLemmas.{least-le}
use Rattle.measures.proofs.ValueLemmas.{least_past}
use Rattle.serial_sgs.proofs.RowLemmas.{consumption_past}
use Rattle.serial_sgs.proofs.rows.extras_of.Goals as goal

pub prove-unreachable-requires : goal.prove-unreachable-requires
prove-unreachable-requires c =
    omega (arith, least-le c.args.project.now c.args.activity c.args.mode c.loop-resource.resource c.requires.mode, c.least-less.ensures.exact, c.consumption-more.ensures.exact)

pub returns : goal.returns
returns c r within =
    let p = c.args.project.now in
    ⊎_elim
    (λ (l : r < c.loop-resource.resource). c.loop-resource.invariant.done r l)
    (λ (over : c.loop-resource.resource ≤ r). omega (arith, c.loop-resource.invariant.rest r over, least_past p c.args.activity r c.requires.project c.requires.activity (omega (arith, c.loop-resource-test.false)), consumption_past p c.args.activity c.args.mode r c.requires.project c.requires.activity c.requires.mode (omega (arith, c.loop-resource-test.false))))
    (cases_lt r c.loop-resource.resource)
