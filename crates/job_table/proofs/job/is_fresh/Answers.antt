use Rattle.job_table.proofs.JobLemmas.{fresh_goes}
use Rattle.job_table.proofs.job.is_fresh.Goals as goal

pub returns : goal.returns
returns g c = (λ told. (c.agrees.ensures.0 told).0, λ is. c.agrees.ensures.1 (is, fresh_goes c.args.plan.now c.activities.ensures.project))
