use Rattle.std.proofs.Common.{◌≡◌, ℕ, length, ap, subst}
use Rattle.mrcpsp.specs.Project.{size}
use Rattle.job_table.specs.Job.{HasSize}
use Rattle.job_table.proofs.JobLemmas.{fresh_goes, sound_fresh}
use Rattle.job_table.proofs.job.Work.new.Goals as goal

pub invariant_of-result : goal.invariant_of-result
unfolding size
invariant_of-result g c =
    let best = c.in_ok-best.best in
    let count : length c.activities.result.now ≡ size c.args.plan.project = ap length c.activities.ensures.all in
    let sized : HasSize (size c.args.plan.project) best.schedule = subst (λ (n : ℕ). HasSize n best.schedule) count c.in_ok-best.ensures.sized in
    sound_fresh c.args.plan best c.activities.ensures.project (fresh_goes c.args.plan c.activities.ensures.project) c.in_ok-best.ensures.none sized
