-- What is free of the renewable resources, as points that are linked by rising time.
use Rattle.std.specs.Prelude.{◌≡◌, ℕ, ◌+◌, ◌<◌, ◌≤◌, ◌⊎◌, List, [], length, get_or}
use Rattle.mrcpsp.specs.declared.limits.TheConstants.{MOST_RESOURCES}
use Rattle.serial_pass.specs.declared.points.FreePoint.{FreePoint}
use Rattle.serial_pass.specs.declared.points.TheConstants.{NEVER}

-- the default for a missing point
abbrev pub no_point : FreePoint
no_point = record { free = []; time = 0; next = 0 }

-- the time of point k
abbrev pub time_at : List FreePoint → ℕ → ℕ
time_at points k = (get_or points k no_point).time

-- the place of the point behind point k
abbrev pub next_at : List FreePoint → ℕ → ℕ
next_at points k = (get_or points k no_point).next

-- what is free of resource r from point k on
abbrev pub free_at : List FreePoint → ℕ → ℕ → ℕ
free_at points k r = get_or (get_or points k no_point).free r 0

-- each point before the end of time leads to the one with the next time, and one there to itself
pub record IsLinked (points : List FreePoint) : Type 0 where
  pub some : 0 < length points
  pub begins : time_at points 0 ≡ 0
  pub late : (k : ℕ) → k < length points → time_at points k ≤ NEVER
  pub onward : (k : ℕ) → k < length points → time_at points k < NEVER → (next_at points k < length points) × (time_at points k < time_at points (next_at points k))
  pub ends : (k : ℕ) → k < length points → NEVER ≤ time_at points k → next_at points k ≡ k
  pub nearest : (i k : ℕ) → i < length points → k < length points → time_at points k < time_at points i → time_at points (next_at points k) ≤ time_at points i
  pub apart : (i k : ℕ) → i < length points → k < length points → time_at points i ≡ time_at points k → i ≡ k

-- in each period what is left of each resource is what is free from the last point on
abbrev pub IsLeft : (ℕ → ℕ → ℕ) → List FreePoint → Type 0
IsLeft left points = (k r u : ℕ) → k < length points → r < MOST_RESOURCES → time_at points k ≤ u → u < time_at points (next_at points k) → free_at points k r ≡ left r u

-- the request fits at point k
abbrev pub FitsAt : List FreePoint → List ℕ → ℕ → Type 0
FitsAt points request k = (r : ℕ) → r < MOST_RESOURCES → get_or request r 0 ≤ free_at points k r

-- from time t on the request fits
abbrev pub FitsFrom : List FreePoint → List ℕ → ℕ → Type 0
FitsFrom points request t = (k : ℕ) → k < length points → t ≤ time_at points k → time_at points k < NEVER → FitsAt points request k

-- there is a point in the periods from t on at which the request does not fit
abbrev pub IsBlocked : List FreePoint → List ℕ → ℕ → ℕ → Type 0
IsBlocked points request duration t = (k : ℕ) × (k < length points) × (0 < duration) × (time_at points k < t + duration) × (t < time_at points (next_at points k)) × (FitsAt points request k → ⊥)

-- `start` is the first point, `ready` or later, from which on the request fits in `duration` periods
pub record IsFirstPoint (points : List FreePoint) (request : List ℕ) (duration ready start : ℕ) : Type 0 where
  pub inside : start < length points
  pub above : time_at points ready ≤ time_at points start
  pub room : (k : ℕ) → k < length points → time_at points start ≤ time_at points k → time_at points k < time_at points start + duration → FitsAt points request k
  pub first : (t : ℕ) → time_at points ready ≤ t → t < time_at points start → IsBlocked points request duration t

-- the points in [start, finish) have the request taken off, and nothing else has changed
pub record IsTaken (start finish : ℕ) (request : List ℕ) (points later : List FreePoint) : Type 0 where
  pub count : length later ≡ length points
  pub times : (k : ℕ) → time_at later k ≡ time_at points k
  pub nexts : (k : ℕ) → next_at later k ≡ next_at points k
  pub within : (k r : ℕ) → k < length points → r < MOST_RESOURCES → start ≤ time_at points k → time_at points k < finish → free_at points k r ≡ free_at later k r + get_or request r 0
  pub beyond : (k r : ℕ) → k < length points → r < MOST_RESOURCES → (time_at points k < start) ⊎ (finish ≤ time_at points k) → free_at later k r ≡ free_at points k r

-- a walk from point `start` to the first point at `finish` or later, and the last one before it
pub record IsWalked (points : List FreePoint) (start finish before after : ℕ) : Type 0 where
  pub last : before < length points
  pub inside : after < length points
  pub beyond : finish ≤ time_at points after
  pub link : (after ≡ start) ⊎ ((next_at points before ≡ after) × (time_at points before < finish) × (time_at points start ≤ time_at points before))
