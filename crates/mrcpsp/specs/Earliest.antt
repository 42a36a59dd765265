-- The earliest start in the words of the field: the least start at which nothing is broken.
use Rattle.std.specs.Prelude.{◌≡◌, ℕ, ◌+◌, ◌<◌, ◌≤◌, true, List, [], ◌∷◌, ◌++◌, All}
use Rattle.mrcpsp.specs.Project.{ProjectData, renewables, duration, capacity, precedes}
use Rattle.mrcpsp.specs.Placed.{Placed, finish_of, placed_use, is_executable, earliest}

-- activity j may start in mode m at t: its placed predecessors have finished, and with it each
-- renewable capacity is kept in each of its periods
pub record MayStart (p : ProjectData) (placed : List Placed) (j m t : ℕ) : Type 0 where
  pub ready : All (λ a. precedes p a.activity j ≡ true → finish_of p a ≤ t) placed
  pub room : (r u : ℕ) → r < renewables p → t ≤ u → u < t + duration p j m → placed_use p (placed ++ record { activity = j; mode = m; start = t } ∷ []) r u ≤ capacity p r

-- t is the least start, `from` or later, at which activity j may start in mode m
pub record IsEarliest (p : ProjectData) (placed : List Placed) (j m from t : ℕ) : Type 0 where
  pub above : from ≤ t
  pub may : MayStart p placed j m t
  pub least : (s : ℕ) → from ≤ s → MayStart p placed j m s → t ≤ s

-- the start that is computed is the earliest one
abbrev pub EarliestIsLeast : Type 0
EarliestIsLeast = (p : ProjectData) (placed : List Placed) (j m from : ℕ) → is_executable p j m ≡ true → IsEarliest p placed j m from (earliest p placed j m from)

-- no other start is the earliest one
abbrev pub EarliestIsUnique : Type 0
EarliestIsUnique = (p : ProjectData) (placed : List Placed) (j m from t : ℕ) → is_executable p j m ≡ true → IsEarliest p placed j m from t → t ≡ earliest p placed j m from
