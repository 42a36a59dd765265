use Rattle.std.proofs.Common.{cond, length, filter, sym, ap, ◌∙◌, arith}
use Rattle.job_table.specs.Table.{is_key, is_waiting, is_out}
use Rattle.job_table.proofs.WholeLemmas.{stood_whole, written, changing_found, changed_whole}
use Rattle.job_table.proofs.table.follow.Goals as goal

pub recount-requires-clause-there : goal.recount-requires-clause-there
recount-requires-clause-there g c = (changing_found c.requires).there

pub recount-requires-clause-least : goal.recount-requires-clause-least
recount-requires-clause-least g c was = (changing_found c.requires).least (ap is_out c.requires.stood ∙ sym c.is_out.ensures ∙ was)

pub recount-requires-clause-most : goal.recount-requires-clause-most
recount-requires-clause-most g c was is = (changing_found c.requires).most (ap is_out c.requires.stood ∙ sym c.is_out.ensures ∙ was)

pub requeue-requires-clause-linked : goal.requeue-requires-clause-linked
requeue-requires-clause-linked g c = (written c.requires).linked

pub requeue-requires-clause-stood : goal.requeue-requires-clause-stood
requeue-requires-clause-stood g c =
    ap (λ keys. length (filter (is_key c.args.tenant c.args.seq) keys)) (written c.requires).line
    ∙ stood_whole c.args.tenant c.args.seq c.requires.table (sym c.requires.found)
    ∙ ap (λ phase. cond (is_waiting phase) 1 0) c.requires.stood ∙ ap (λ b. cond b 1 0) (sym c.is_waiting.ensures)

pub requeue-requires-clause-few : goal.requeue-requires-clause-few
requeue-requires-clause-few g c was is =
    omega (arith, ap length (written c.requires).line, (changing_found c.requires).room (ap is_waiting c.requires.stood ∙ sym c.is_waiting.ensures ∙ was))

pub returns-clause-table : goal.returns-clause-table
returns-clause-table g c =
    (changed_whole c.args.tenant c.args.seq c.args.shift.was c.args.shift.is c.args.jobs.now.entries c.requeue.new.jobs.entries c.args.queue.now c.requeue.new.queue c.args.counts.now.entries c.recount.new.counts.entries _ _ _ _ c.requires
    c.is_out.ensures c.is_out-2.ensures c.is_waiting.ensures c.is_waiting-2.ensures c.recount.ensures c.requeue.ensures.jobs c.requeue.ensures.linked).table

pub returns-clause-changed : goal.returns-clause-changed
returns-clause-changed g c change =
    (changed_whole c.args.tenant c.args.seq c.args.shift.was c.args.shift.is c.args.jobs.now.entries c.requeue.new.jobs.entries c.args.queue.now c.requeue.new.queue c.args.counts.now.entries c.recount.new.counts.entries _ _ _ _ change
    c.is_out.ensures c.is_out-2.ensures c.is_waiting.ensures c.is_waiting-2.ensures c.recount.ensures c.requeue.ensures.jobs c.requeue.ensures.linked).is
