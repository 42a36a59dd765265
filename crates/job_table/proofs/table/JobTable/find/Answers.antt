use Rattle.std.proofs.Common.{sym}
use Rattle.job_table.proofs.WholeLemmas.{seen}
use Rattle.job_table.proofs.table.JobTable.find.Goals as goal

pub returns-in-Some : goal.returns-in-Some
returns-in-Some g c = sym (seen c.args.tenant c.args.seq c.self.invariant c.self.view_is c.in-Some.ensures.value)

pub returns-in-None : goal.returns-in-None
returns-in-None g c = sym (seen c.args.tenant c.args.seq c.self.invariant c.self.view_is c.in-None.ensures.value)
