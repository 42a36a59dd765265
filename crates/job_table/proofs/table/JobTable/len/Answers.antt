use Rattle.std.proofs.Common.{length, sym, ap, ◌∙◌}
use Rattle.job_table.specs.Table.{TableData}
use Rattle.job_table.proofs.WholeLemmas.{rows_count}
use Rattle.job_table.proofs.table.JobTable.len.Goals as goal

pub returns : goal.returns
returns g c =
    let es = c.self.inside.jobs.entries in
    c.len.ensures.len ∙ sym (rows_count es c.len.ensures.unique) ∙ ap (λ (d : TableData). length d.rows) c.self.view_is
