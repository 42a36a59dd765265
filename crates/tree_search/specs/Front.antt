-- What is free from a time on: what is free then, and what the running activities give back.
use Rattle.std.specs.Prelude.{◌≡◌, ℕ, ◌+◌, ◌<◌, ◌≤◌, ◌⊎◌, cond, nat_le, All, List, [], length, get_or, sum_by}
use Rattle.mrcpsp.specs.declared.limits.TheConstants.{MOST_RESOURCES}
use Rattle.mrcpsp.specs.Project.{ProjectData, capacity, duration, request}
use Rattle.mrcpsp.specs.Placed.{Placed, placed_use}
use Rattle.tree_search.specs.declared.front.Running.{Running}
use Rattle.tree_search.specs.Width.{IsNone}

-- the default for a missing one
abbrev pub no_running : Running
no_running = record { request = []; finish = 0 }

-- nothing of a resource behind the first lanes, in each of them
abbrev pub AreNone : ℕ → List Running → Type 0
AreNone lanes running = All (λ a. IsNone lanes a.request) running

-- the finish of running activity k
abbrev pub finish_at : List Running → ℕ → ℕ
finish_at running k = (get_or running k no_running).finish

-- the finishes do not fall
abbrev pub IsRising : List Running → Type 0
IsRising running = (i k : ℕ) → i < k → k < length running → finish_at running i ≤ finish_at running k

-- what one gives back of resource r by time t
abbrev pub returned_by : ℕ → ℕ → Running → ℕ
returned_by r t a = cond (nat_le a.finish t) (get_or a.request r 0) 0

-- what all give back of resource r by time t
unfoldable pub returned : List Running → ℕ → ℕ → ℕ
returned running r t = sum_by (returned_by r t) running

-- what is left of resource r at time t
abbrev pub left_at : List ℕ → List Running → ℕ → ℕ → ℕ
left_at free running r t = get_or free r 0 + returned running r t

-- from `start` on the request fits. `start` is `ready`, or before it there is a resource of which it
-- never fits
pub record IsFirstRoom (kinds : ℕ) (free : List ℕ) (running : List Running) (asked : List ℕ) (ready start : ℕ) : Type 0 where
  pub above : ready ≤ start
  pub room : (r t : ℕ) → r < kinds → start ≤ t → get_or asked r 0 ≤ left_at free running r t
  pub first : (start ≡ ready) ⊎ ((r : ℕ) × (r < kinds) × ((t : ℕ) → t < start → left_at free running r t < get_or asked r 0))

-- what is free after the placements, from `from` on
pub record IsFrontOf (p : ProjectData) (placed : List Placed) (from : ℕ) (free : List ℕ) (running : List Running) : Type 0 where
  pub rising : IsRising running
  pub exact : (r t : ℕ) → r < MOST_RESOURCES → from ≤ t → placed_use p placed r t + left_at free running r t ≡ capacity p r

-- what a mode asks for in each of its periods
abbrev pub IsRequest : ProjectData → ℕ → ℕ → List ℕ → Type 0
IsRequest p j m asked = (r : ℕ) → r < MOST_RESOURCES → get_or asked r 0 ≡ request p j m r

-- a mode that takes no time asks for nothing, whatever its row in the file says
pub record AsksFor (p : ProjectData) (j m : ℕ) (asked : List ℕ) : Type 0 where
  pub some : 0 < duration p j m → IsRequest p j m asked
  pub none : duration p j m ≡ 0 → IsNone 0 asked
