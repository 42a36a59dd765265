use Rattle.job_table.proofs.WholeLemmas.{empty_table}
use Rattle.job_table.proofs.table.JobTable.new.Goals as goal

pub invariant_of-result : goal.invariant_of-result
invariant_of-result g c =
    empty_table c.new.result.entries c.new-2.result.entries c.new.ensures.empty c.new-2.ensures.empty
