-- A list of the longest chains before the first activities.
use Rattle.std.specs.Prelude.{◌≡◌, ℕ, ◌<◌, List, length, slice_index}
use Rattle.mrcpsp.specs.Project.{ProjectData}
use Rattle.schedule_clauses.specs.Size.{head}

-- the list has the longest chain before each of the first `count` activities
pub record AreHeads (p : ProjectData) (heads : List ℕ) (count : ℕ) : Type 0 where
  pub all : length heads ≡ count
  pub each : (j : ℕ) → j < count → slice_index heads j ≡ head p j
