-- What an answer means.
use Rattle.std.specs.Prelude.{◌≡◌, ◌≤◌, ◌<◌, true, false, Some, None}
use Rattle.mrcpsp.specs.Project.{ProjectData}
use Rattle.mrcpsp.specs.Schedule.{IsOptimal, IsInfeasible}
use Rattle.price_search.specs.LowerBound.{TakesAtLeast}
use Rattle.prover.specs.Known.{Facts, IsBest}
use Rattle.prover.specs.declared.known.Answer.{Answer}
use Rattle.prover.specs.declared.known.Answer.TheVariants.{Optimal, Gap, AtLeast, Infeasible}

-- the answer is true of the project
abbrev pub IsAnswer : ProjectData → Answer → Type 0
IsAnswer p (Optimal best) = IsBest p best × IsOptimal p best.schedule
IsAnswer p (Gap best bound) = IsBest p best × TakesAtLeast p bound
IsAnswer p (AtLeast bound) = TakesAtLeast p bound
IsAnswer p Infeasible = IsInfeasible p

-- the answer tells all that is known: the best schedule and the bound, and that they meet if they do
abbrev pub Tells : Facts → Answer → Type 0
Tells known (Optimal best) = (known.infeasible ≡ false) × (known.best ≡ Some best) × (best.makespan ≤ known.bound)
Tells known (Gap best bound) = (known.infeasible ≡ false) × (known.best ≡ Some best) × (known.bound ≡ bound) × (bound < best.makespan)
Tells known (AtLeast bound) = (known.infeasible ≡ false) × (known.best ≡ None) × (known.bound ≡ bound)
Tells known Infeasible = known.infeasible ≡ true
