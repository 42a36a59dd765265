-- What follows from `is_project`, a field for each limit, as contracts and proofs use it.
use Rattle.std.specs.Prelude.{◌≡◌, ℕ, ◌+◌, ◌<◌, ◌≤◌, All, length, get_or}
use Rattle.mrcpsp.specs.declared.limits.TheConstants.{MOST_ACTIVITIES, MOST_MODES, MOST_RESOURCES, MOST_AMOUNT, MOST_DURATION, MOST_HORIZON}
use Rattle.mrcpsp.specs.Project.{ProjectData, size, renewables, nonrenewables, modes, mode_count, successors, no_mode, horizon}

-- mode m of activity j has one number for each resource, within the limits
pub record IsLimited (p : ProjectData) (j m : ℕ) : Type 0 where
  pub duration : (get_or (modes p j) m no_mode).duration ≤ MOST_DURATION
  pub renewables : length (get_or (modes p j) m no_mode).renewable ≡ renewables p
  pub nonrenewables : length (get_or (modes p j) m no_mode).nonrenewable ≡ nonrenewables p
  pub requests : All (λ a. a ≤ MOST_AMOUNT) (get_or (modes p j) m no_mode).renewable
  pub consumptions : All (λ a. a ≤ MOST_AMOUNT) (get_or (modes p j) m no_mode).nonrenewable

-- the limits that a project keeps
pub record IsProject (p : ProjectData) : Type 0 where
  pub some : 0 < size p
  pub few : size p ≤ MOST_ACTIVITIES
  pub few_renewable : renewables p ≤ MOST_RESOURCES
  pub few_nonrenewable : nonrenewables p ≤ MOST_RESOURCES
  pub capacities : All (λ a. a ≤ MOST_AMOUNT) p.renewable
  pub stocks : All (λ a. a ≤ MOST_AMOUNT) p.nonrenewable
  pub moded : (j : ℕ) → j < size p → (0 < mode_count p j) × (mode_count p j ≤ MOST_MODES)
  pub limited : (j m : ℕ) → j < size p → m < mode_count p j → IsLimited p j m
  pub rising : (j : ℕ) → j < size p → All (λ s. (j + 1 < s) × (s ≤ size p)) (successors p j)
  pub short : horizon p.activities ≤ MOST_HORIZON
