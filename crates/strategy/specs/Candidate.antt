-- Candidates: what may be placed next on a partial schedule.
use Rattle.std.specs.Prelude.{ℕ, Bool, ◌&&◌, List, filter}
use Rattle.std.specs.List.{range_with_len}
use Rattle.mrcpsp.specs.Project.{ProjectData, size, mode_count}
use Rattle.mrcpsp.specs.Placed.{Placed, earliest, is_eligible, is_executable, is_affordable}

-- an activity in one of its modes, both places from 0
pub record Candidate : Type 0 where
  pub activity : ℕ
  pub mode : ℕ

-- a candidate, placed at its earliest start, `from` or later
unfoldable pub placed_from : ProjectData → List Placed → ℕ → Candidate → Placed
placed_from p placed from c = record { activity = c.activity; mode = c.mode; start = earliest p placed c.activity c.mode from }

-- the eligible activities, by rising number
unfoldable pub eligible_ones : ProjectData → List Placed → List ℕ
eligible_ones p placed = filter (is_eligible p placed) (range_with_len 0 (size p))

-- whether activity j may be placed in mode m: it could run alone, and passes the nonrenewable test
unfoldable pub is_allowed_mode : ProjectData → List Placed → ℕ → ℕ → Bool
is_allowed_mode p placed j m = is_executable p j m && is_affordable p placed j m

-- the allowed modes of activity j, by rising number
unfoldable pub allowed_modes : ProjectData → List Placed → ℕ → List ℕ
allowed_modes p placed j = filter (is_allowed_mode p placed j) (range_with_len 0 (mode_count p j))
