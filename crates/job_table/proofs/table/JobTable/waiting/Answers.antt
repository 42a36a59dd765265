use Rattle.std.proofs.Common.{sym, ◌∙◌, arith}
use Rattle.job_table.proofs.WholeLemmas.{next_at, past_none, once_waiting}
use Rattle.job_table.proofs.table.JobTable.waiting.Goals as goal

pub returns-in_default-clause-key : goal.returns-in_default-clause-key
returns-in_default-clause-key g c = sym (past_none c.args.self.now.waiting c.loop-k.k c.args.i (omega arith) (sym c.loop-k.invariant ∙ c.in_default.is))

pub loop-k-preserved : goal.loop-k-preserved
loop-k-preserved g c =
    c.next_waiting-at.ensures.key ∙ next_at c.args.self.now.waiting c.loop-k.k c.in-Some.tenant c.in-Some.seq (once_waiting c.args.self.now c.next_waiting-at.ensures.waiting) (sym c.loop-k.invariant ∙ c.in-Some.is)
