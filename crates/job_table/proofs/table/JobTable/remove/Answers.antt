use Rattle.std.proofs.Common.{cond, sym, ap, ◌∙◌, arith}
use Rattle.job_table.specs.Table.{is_waiting, is_out, drop_job}
use Rattle.job_table.specs.Kept.{whole}
use Rattle.job_table.proofs.QueueLemmas.{one_left}
use Rattle.job_table.proofs.WholeLemmas.{seen, found_whole, stood_whole, dropped_idle, dropped_waiting, dropped_none}
use Rattle.job_table.proofs.table.JobTable.remove.Goals as goal

pub returns-in_default-clause-found : goal.returns-in_default-clause-found
returns-in_default-clause-found g c = sym (seen c.args.tenant c.args.seq c.self.invariant c.self.view_is c.in_default.ensures.value)

pub returns-in_default-clause-rest : goal.returns-in_default-clause-rest
returns-in_default-clause-rest g c =
    ap (λ es. whole es c.self.inside.queue) c.in_default.ensures.unchanged ∙ dropped_none c.args.tenant c.args.seq c.self.invariant c.in_default.ensures.value ∙ ap (drop_job c.args.tenant c.args.seq) c.self.view_is

pub count_out-requires-clause-there : goal.count_out-requires-clause-there
count_out-requires-clause-there g c = (found_whole c.args.tenant c.args.seq c.in-Some.field-0 c.self.invariant c.in-Some.ensures.value).there

pub count_out-requires-clause-kept : goal.count_out-requires-clause-kept
count_out-requires-clause-kept g c = (found_whole c.args.tenant c.args.seq c.in-Some.field-0 c.self.invariant c.in-Some.ensures.value).kept

pub count_out-requires-clause-out : goal.count_out-requires-clause-out
count_out-requires-clause-out g c was = (found_whole c.args.tenant c.args.seq c.in-Some.field-0 c.self.invariant c.in-Some.ensures.value).least (sym (c.is_out.ensures ∙ ap is_out c.phase-phase.ensures) ∙ was)

pub invariant_of-self-then-not-is_waiting : goal.invariant_of-self-then-not-is_waiting
invariant_of-self-then-not-is_waiting g c =
    (dropped_idle c.args.tenant c.args.seq c.in-Some.field-0 c.self.invariant c.in-Some.ensures.value (λ u n. c.in-Some.ensures.updates.0 (u, n)) (c.is_out.ensures ∙ ap is_out c.phase-phase.ensures) c.count_out.ensures (sym (c.is_waiting.ensures ∙ ap is_waiting c.phase-phase.ensures) ∙ c.if-not-is_waiting.true)).table

pub returns-then-not-is_waiting-clause-found : goal.returns-then-not-is_waiting-clause-found
returns-then-not-is_waiting-clause-found g c = sym (seen c.args.tenant c.args.seq c.self.invariant c.self.view_is c.in-Some.ensures.value)

pub returns-then-not-is_waiting-clause-rest : goal.returns-then-not-is_waiting-clause-rest
returns-then-not-is_waiting-clause-rest g c =
    (dropped_idle c.args.tenant c.args.seq c.in-Some.field-0 c.self.invariant c.in-Some.ensures.value (λ u n. c.in-Some.ensures.updates.0 (u, n)) (c.is_out.ensures ∙ ap is_out c.phase-phase.ensures) c.count_out.ensures (sym (c.is_waiting.ensures ∙ ap is_waiting c.phase-phase.ensures) ∙ c.if-not-is_waiting.true)).is
    ∙ ap (drop_job c.args.tenant c.args.seq) c.self.view_is

pub unlink-requires : goal.unlink-requires
unlink-requires g c =
    omega (arith, c.self.invariant.linked.len, one_left c.args.tenant c.args.seq _ (stood_whole c.args.tenant c.args.seq c.self.invariant c.in-Some.ensures.value ∙ ap (λ b. cond b 1 0) (sym (c.is_waiting.ensures ∙ ap is_waiting c.phase-phase.ensures) ∙ c.if-not-is_waiting.false)))

pub invariant_of-self-2 : goal.invariant_of-self-2
invariant_of-self-2 g c =
    (dropped_waiting c.args.tenant c.args.seq c.in-Some.field-0 c.swap_remove.new.self.entries c.self.invariant c.in-Some.ensures.value (λ u n. c.in-Some.ensures.updates.0 (u, n)) (c.is_out.ensures ∙ ap is_out c.phase-phase.ensures) c.count_out.ensures (sym (c.is_waiting.ensures ∙ ap is_waiting c.phase-phase.ensures) ∙ c.if-not-is_waiting.false)
    c.unlink.ensures.links c.unlink.ensures.jobs c.unlink.ensures.queue).table

pub returns-clause-found : goal.returns-clause-found
returns-clause-found g c = sym (seen c.args.tenant c.args.seq c.self.invariant c.self.view_is c.in-Some.ensures.value)

pub returns-clause-rest : goal.returns-clause-rest
returns-clause-rest g c =
    (dropped_waiting c.args.tenant c.args.seq c.in-Some.field-0 c.swap_remove.new.self.entries c.self.invariant c.in-Some.ensures.value (λ u n. c.in-Some.ensures.updates.0 (u, n)) (c.is_out.ensures ∙ ap is_out c.phase-phase.ensures) c.count_out.ensures (sym (c.is_waiting.ensures ∙ ap is_waiting c.phase-phase.ensures) ∙ c.if-not-is_waiting.false)
    c.unlink.ensures.links c.unlink.ensures.jobs c.unlink.ensures.queue).is
    ∙ ap (drop_job c.args.tenant c.args.seq) c.self.view_is
