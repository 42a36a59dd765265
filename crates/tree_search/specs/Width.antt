-- How many resources and activities a project may have.
use Rattle.std.specs.Prelude.{◌≡◌, ℕ, ◌<◌, ◌≤◌, List, get_or}
use Rattle.mrcpsp.specs.declared.limits.TheConstants.{MOST_RESOURCES}
use Rattle.mrcpsp.specs.Project.{ProjectData, size, renewables, nonrenewables}
use Rattle.tree_search.specs.declared.width.Width.{Width}
use Rattle.tree_search.specs.declared.width.Width.TheVariants.{Small, Large}

-- the number of resources of each kind that are looked at
abbrev pub lanes_of : Width → ℕ
lanes_of Small = 4
lanes_of Large = MOST_RESOURCES

-- the number of words of a set that are looked at
abbrev pub words_of : Width → ℕ
words_of Small = 1
words_of Large = 4

-- the project has no more resources, and its activities fit into one word if that is all
pub record HasWidth (p : ProjectData) (w : Width) : Type 0 where
  pub renewable : renewables p ≤ lanes_of w
  pub nonrenewable : nonrenewables p ≤ lanes_of w
  pub words : w ≡ Small → size p < 64

-- beyond the first lanes there is nothing
abbrev pub IsNone : ℕ → List ℕ → Type 0
IsNone lanes amounts = (r : ℕ) → lanes ≤ r → r < MOST_RESOURCES → get_or amounts r 0 ≡ 0
