use Rattle.mrcpsp.proofs.LimitLemmas.{kept}
use Rattle.mrcpsp.proofs.project.Project.activity.Goals as goal

pub returns-clause-kept : goal.returns-clause-kept
returns-clause-kept c = kept _ c.activities.ensures.project
