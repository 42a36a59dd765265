use Rattle.std.proofs.Common.{refl, sym, ap, ◌∙◌, arith}
use Rattle.job_table.specs.Table.{is_waiting, is_out, add_job}
use Rattle.job_table.specs.Queue.{no_links}
use Rattle.job_table.proofs.WholeLemmas.{never_there, looked_into, coming, added_whole, rows_count}
use Rattle.job_table.proofs.TableLemmas.{begun}
use Rattle.job_table.proofs.table.JobTable.insert.Goals as goal

pub invariant_of-self-in-Ok-Some : goal.invariant_of-self-in-Ok-Some
invariant_of-self-in-Ok-Some g c =
    absurd (never_there c.args.tenant c.seq-seq.result _ c.self.invariant c.self.view_is c.requires c.seq-seq.ensures c.in-Ok-Some.ensures.old c.in-Ok-Some.field-0-is)

pub returns-in-Ok-Some-clause-kept : goal.returns-in-Ok-Some-clause-kept
returns-in-Ok-Some-clause-kept g c =
    absurd (never_there c.args.tenant c.seq-seq.result _ c.self.invariant c.self.view_is c.requires c.seq-seq.ensures c.in-Ok-Some.ensures.old c.in-Ok-Some.field-0-is)

pub returns-in-Ok-Some-clause-back : goal.returns-in-Ok-Some-clause-back
returns-in-Ok-Some-clause-back g c =
    absurd (never_there c.args.tenant c.seq-seq.result _ c.self.invariant c.self.view_is c.requires c.seq-seq.ensures c.in-Ok-Some.ensures.old c.in-Ok-Some.field-0-is)

pub invariant_of-self-in-Err : goal.invariant_of-self-in-Err
invariant_of-self-in-Err g c =
    (looked_into {queue = c.self.inside.queue} (record { held = begun _ _ _ _ c.self.invariant.held c.begin_counts.ensures.same; linked = c.self.invariant.linked }) c.in-Err.ensures.err).table

pub count_in-requires-clause-kept : goal.count_in-requires-clause-kept
count_in-requires-clause-kept g c =
    (coming c.args.tenant c.seq-seq.result c.args.job (record { job = c.args.job; links = no_links }) c.self.invariant c.self.view_is c.requires c.seq-seq.ensures refl refl c.begin_counts.ensures.same
    (λ u n. c.in-Ok-None.ensures.updates.0 (u, n)) (omega (arith, rows_count _ c.len-jobs.ensures.unique ∙ sym c.len-jobs.ensures.len, c.len-jobs.ensures.small))).kept

pub count_in-requires-clause-out : goal.count_in-requires-clause-out
count_in-requires-clause-out g c =
    (coming c.args.tenant c.seq-seq.result c.args.job (record { job = c.args.job; links = no_links }) c.self.invariant c.self.view_is c.requires c.seq-seq.ensures refl refl c.begin_counts.ensures.same
    (λ u n. c.in-Ok-None.ensures.updates.0 (u, n)) (omega (arith, rows_count _ c.len-jobs.ensures.unique ∙ sym c.len-jobs.ensures.len, c.len-jobs.ensures.small))).out

pub requeue-requires-clause-linked : goal.requeue-requires-clause-linked
requeue-requires-clause-linked g c =
    (coming c.args.tenant c.seq-seq.result c.args.job (record { job = c.args.job; links = no_links }) c.self.invariant c.self.view_is c.requires c.seq-seq.ensures refl refl c.begin_counts.ensures.same
    (λ u n. c.in-Ok-None.ensures.updates.0 (u, n)) (omega (arith, rows_count _ c.len-jobs.ensures.unique ∙ sym c.len-jobs.ensures.len, c.len-jobs.ensures.small))).done.linked

pub requeue-requires-clause-stood : goal.requeue-requires-clause-stood
requeue-requires-clause-stood g c =
    (coming c.args.tenant c.seq-seq.result c.args.job (record { job = c.args.job; links = no_links }) c.self.invariant c.self.view_is c.requires c.seq-seq.ensures refl refl c.begin_counts.ensures.same
    (λ u n. c.in-Ok-None.ensures.updates.0 (u, n)) (omega (arith, rows_count _ c.len-jobs.ensures.unique ∙ sym c.len-jobs.ensures.len, c.len-jobs.ensures.small))).stood

pub requeue-requires-clause-few : goal.requeue-requires-clause-few
requeue-requires-clause-few g c was is =
    (coming c.args.tenant c.seq-seq.result c.args.job (record { job = c.args.job; links = no_links }) c.self.invariant c.self.view_is c.requires c.seq-seq.ensures refl refl c.begin_counts.ensures.same
    (λ u n. c.in-Ok-None.ensures.updates.0 (u, n)) (omega (arith, rows_count _ c.len-jobs.ensures.unique ∙ sym c.len-jobs.ensures.len, c.len-jobs.ensures.small))).few

pub invariant_of-self-2 : goal.invariant_of-self-2
invariant_of-self-2 g c =
    (added_whole c.args.tenant c.seq-seq.result c.args.job _ _ c.requeue.new.jobs.entries c.self.inside.queue c.requeue.new.queue _ c.count_in.new.counts.entries _ _
    (coming c.args.tenant c.seq-seq.result c.args.job (record { job = c.args.job; links = no_links }) c.self.invariant c.self.view_is c.requires c.seq-seq.ensures refl refl c.begin_counts.ensures.same
    (λ u n. c.in-Ok-None.ensures.updates.0 (u, n)) (omega (arith, rows_count _ c.len-jobs.ensures.unique ∙ sym c.len-jobs.ensures.len, c.len-jobs.ensures.small)))
    c.seq-seq.ensures (c.is_out.ensures ∙ ap is_out c.phase-phase.ensures) (c.is_waiting.ensures ∙ ap is_waiting c.phase-phase.ensures) c.count_in.ensures c.requeue.ensures.jobs c.requeue.ensures.linked).table

pub returns-clause-added : goal.returns-clause-added
returns-clause-added g c =
    (added_whole c.args.tenant c.seq-seq.result c.args.job _ _ c.requeue.new.jobs.entries c.self.inside.queue c.requeue.new.queue _ c.count_in.new.counts.entries _ _
    (coming c.args.tenant c.seq-seq.result c.args.job (record { job = c.args.job; links = no_links }) c.self.invariant c.self.view_is c.requires c.seq-seq.ensures refl refl c.begin_counts.ensures.same
    (λ u n. c.in-Ok-None.ensures.updates.0 (u, n)) (omega (arith, rows_count _ c.len-jobs.ensures.unique ∙ sym c.len-jobs.ensures.len, c.len-jobs.ensures.small)))
    c.seq-seq.ensures (c.is_out.ensures ∙ ap is_out c.phase-phase.ensures) (c.is_waiting.ensures ∙ ap is_waiting c.phase-phase.ensures) c.count_in.ensures c.requeue.ensures.jobs c.requeue.ensures.linked).is
    ∙ ap (add_job c.args.tenant c.args.job) c.self.view_is
