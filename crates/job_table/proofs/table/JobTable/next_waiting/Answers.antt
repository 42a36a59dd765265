use Rattle.std.proofs.Common.{option_map, sym, ap, ◌∙◌}
use Rattle.job_table.specs.Table.{TableData, behind}
use Rattle.job_table.specs.declared.queue.Links.{Links}
use Rattle.job_table.proofs.WholeLemmas.{stood_whole}
use Rattle.job_table.proofs.LinkLemmas.{behind_none}
use Rattle.job_table.proofs.table.JobTable.next_waiting.Goals as goal

pub returns-in-Some-clause-key : goal.returns-in-Some-clause-key
returns-in-Some-clause-key g c =
    let t = c.args.tenant in
    let s = c.args.seq in
    ap (λ (l : Links). l.behind) (c.self.invariant.linked.links t s c.in-Some.linked.now.links (ap (option_map (λ e. e.links)) (sym c.in-Some.ensures.value))) ∙ ap (λ (d : TableData). behind t s d.waiting) c.self.view_is

pub returns-in-None-clause-key : goal.returns-in-None-clause-key
returns-in-None-clause-key g c =
    let t = c.args.tenant in
    let s = c.args.seq in
    sym (behind_none t s _ (stood_whole t s c.self.invariant c.in-None.ensures.value)) ∙ ap (λ (d : TableData). behind t s d.waiting) c.self.view_is
