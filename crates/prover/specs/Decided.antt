-- What a decision means.
use Rattle.std.specs.Prelude.{ℕ, ◌≤◌}
use Rattle.mrcpsp.specs.Project.{ProjectData}
use Rattle.schedule_prices.specs.Choices.{EachExceeds}
use Rattle.prover.specs.Known.{IsBest}
use Rattle.prover.specs.declared.decide.Decision.{Decision}
use Rattle.prover.specs.declared.decide.Decision.TheVariants.{Found, None, Open, Full}

-- a schedule is feasible and within the bound, and no schedule means that there is none
abbrev pub IsDecided : ProjectData → ℕ → Decision → Type 0
IsDecided p bound (Found best) = IsBest p best × (best.makespan ≤ bound)
IsDecided p bound None = EachExceeds p bound
IsDecided p bound Open = Unit {0}
IsDecided p bound Full = Unit {0}
