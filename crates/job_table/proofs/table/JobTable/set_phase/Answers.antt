use Rattle.std.proofs.Common.{◌≡◌, Some, is_some, sym, ap, ◌∙◌}
use Rattle.job_table.specs.Table.{JobData, find_row, change_job}
use Rattle.job_table.specs.Lent.{in_phase}
use Rattle.job_table.specs.Kept.{whole}
use Rattle.job_table.proofs.WholeLemmas.{seen, changing}
use Rattle.job_table.proofs.LentLemmas.{found_changes, none_changes}
use Rattle.job_table.proofs.table.JobTable.set_phase.Goals as goal

pub returns-in_default-clause-found : goal.returns-in_default-clause-found
returns-in_default-clause-found g c = ap is_some (sym (seen c.args.tenant c.args.seq c.self.invariant c.self.view_is c.in_default.ensures.value))

pub returns-in_default-clause-put : goal.returns-in_default-clause-put
returns-in_default-clause-put g c =
    ap (λ m. whole m.entries c.self.inside.queue) c.get_mut.follows.holds-at-none ∙ c.self.view_is
    ∙ sym (none_changes c.args.tenant c.args.seq (in_phase c.args.phase) c.args.self.now (seen c.args.tenant c.args.seq c.self.invariant c.self.view_is c.in_default.ensures.value))

pub follow-requires : goal.follow-requires
follow-requires g c =
    changing c.in-Some.linked.now c.set_phase.new.self c.self.invariant c.in-Some.ensures.value (λ u n. ((c.get_mut.follows.holds _).3 (ap is_some (sym c.in-Some.ensures.value))).0 (u, n))
    (ap (λ (j : JobData). j.seq) c.set_phase.ensures) (sym c.phase-was.ensures) (ap (λ (j : JobData). j.phase) c.set_phase.ensures)

pub returns-clause-found : goal.returns-clause-found
returns-clause-found g c = ap is_some (sym (seen c.args.tenant c.args.seq c.self.invariant c.self.view_is c.in-Some.ensures.value))

pub returns-clause-put : goal.returns-clause-put
returns-clause-put g c =
    let change = changing c.in-Some.linked.now c.set_phase.new.self c.self.invariant c.in-Some.ensures.value (λ u n. ((c.get_mut.follows.holds _).3 (ap is_some (sym c.in-Some.ensures.value))).0 (u, n))
    (ap (λ (j : JobData). j.seq) c.set_phase.ensures) (sym c.phase-was.ensures) (ap (λ (j : JobData). j.phase) c.set_phase.ensures) in
    let found : find_row c.args.tenant c.args.seq c.args.self.now.rows ≡ Some c.in-Some.linked.now.job = seen c.args.tenant c.args.seq c.self.invariant c.self.view_is c.in-Some.ensures.value in
    c.follow.ensures.changed change ∙ ap (λ (j : JobData). change_job c.args.tenant c.args.seq c.in-Some.linked.now.job j (whole c.self.inside.jobs.entries c.self.inside.queue)) c.set_phase.ensures
    ∙ ap (change_job c.args.tenant c.args.seq c.in-Some.linked.now.job _) c.self.view_is ∙ sym (found_changes c.args.tenant c.args.seq (in_phase c.args.phase) c.args.self.now c.in-Some.linked.now.job found)
