use Rattle.mrcpsp.proofs.LimitLemmas.{kept}
use Rattle.mrcpsp.proofs.ProjectLemmas.{bound-le}
use Rattle.mrcpsp.proofs.laws.none_is_below_the_bound.Goals as goal

pub returns : goal.returns
returns c p s ok feasible = bound-le p s (kept p ok) feasible
