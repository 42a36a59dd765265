-- What a refutation of a limit means.
use Rattle.std.specs.Prelude.{◌≡◌, ℕ, List, Option, Some, None, Ok}
use Rattle.mrcpsp.specs.Project.{ProjectData}
use Rattle.mrcpsp.specs.Schedule.{IsInfeasible}
use Rattle.psplib_mm.specs.Reading.{reading}
use Rattle.schedule_prices.specs.Choices.{EachExceeds}

-- no feasible schedule takes at most so many periods; without a limit, no schedule is feasible
abbrev pub IsRuledOut : Option ℕ → ProjectData → Type 0
IsRuledOut (Some limit) p = EachExceeds p limit
IsRuledOut None p = IsInfeasible p

-- the file is a project, of which no feasible schedule is within the limit
pub record RefutesLimit (limit : Option ℕ) (file : List ℕ) : Type 0 where
  pub project : ProjectData
  pub read : reading file ≡ Ok project
  pub ruled_out : IsRuledOut limit project
