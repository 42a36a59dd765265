use Rattle.std.proofs.Common.{◌≡◌, Some, sym, ap, ◌∙◌}
use Rattle.std.specs.Option.{option_copied}
use Rattle.strategy.specs.Outcome.{is_closed}
use Rattle.job_table.specs.Table.{find_row}
use Rattle.job_table.specs.Job.{phase_after}
use Rattle.job_table.specs.Lent.{with_work, change_found}
use Rattle.farm_core.proofs.JobsLemmas.{back_so}
use Rattle.farm_core.proofs.farm.jobs.take_back.Goals as goal

pub returns-clause-back : goal.returns-clause-back
returns-clause-back g c =
    let t = c.args.tenant in
    let s = c.args.seq in
    let old = c.args.jobs.now in
    let m = g.J.Strategy.meaning c.args.search in
    let wrote : c.find_mut.follows.lender c.take_back-after.new.self ≡ change_found t s (with_work c.take_back-after.new.self) old = rw c.in-Some-find_mut.is at (c.find_mut.follows.holds c.take_back-after.new.self) in
    let found : find_row t s old.rows ≡ Some c.in-Some.job.now = sym c.find.ensures ∙ ap option_copied c.in-Some.is in
    back_so old (c.find_mut.follows.lender c.take_back-after.new.self) c.set_phase.new.self t s c.args.slice c.args.ran c.args.search m c.in-Some.job.now c.in-Some-find_mut.work.now c.take_back-after.new.self c.take_back-after.result found
    (c.is_own.ensures.0 c.if-not-is_own.false) c.in-Some-find_mut.ensures.lent (c.take_back-after.ensures.after ∙ ap (λ p. phase_after p (is_closed c.in-Some-find_mut.work.now.plan m.nodes) m.left) c.phase-phase.ensures) c.take_back-after.ensures.returned wrote c.set_phase.ensures.put
