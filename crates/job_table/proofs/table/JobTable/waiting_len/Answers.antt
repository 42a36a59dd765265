use Rattle.std.proofs.Common.{length, ap, arith}
use Rattle.job_table.specs.Table.{TableData}
use Rattle.job_table.proofs.KeptLemmas.{most_kept}
use Rattle.job_table.proofs.table.JobTable.waiting_len.Goals as goal

pub returns-clause-most : goal.returns-clause-most
returns-clause-most g c =
    omega (arith, most_kept _ c.self.invariant.held.kept, ap (λ (d : TableData). length d.rows) c.self.view_is, c.self.invariant.linked.len)
