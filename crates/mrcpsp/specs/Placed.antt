-- A partial schedule: a list of placed activities, the last one at its end, and what may come next.
-- The serial schedule generation scheme (Kolisch 1996; Sprecher and Drexl 1998).
use Rattle.std.specs.Prelude.{◌≡◌, ℕ, ◌+◌, Bool, false, ⊤, cond, not, ◌&&◌, ◌||◌, nat_le, ◌==◌, List, [], ◌∷◌, map, fold, sum_by}
use Rattle.std.specs.List.{list_any, list_all, range_with_len}
use Rattle.mrcpsp.specs.Numbers.{sum_below, all_below, first_from, largest}
use Rattle.mrcpsp.specs.Project.{ProjectData, size, renewables, nonrenewables, duration, request, consumption, capacity, stock, precedes}
use Rattle.mrcpsp.specs.Schedule.{ScheduleData, load}
use Rattle.mrcpsp.specs.Values.{least}

-- an activity and its mode, by their places from 0, and its start
pub record Placed : Type 0 where
  pub activity : ℕ
  pub mode : ℕ
  pub start : ℕ

-- the finish of a placed activity
abbrev pub finish_of : ProjectData → Placed → ℕ
finish_of p a = a.start + duration p a.activity a.mode

-- the use of renewable resource r in period t by the placed activities
unfoldable pub placed_use : ProjectData → List Placed → ℕ → ℕ → ℕ
placed_use p placed r t = sum_by (λ a. load p r t a.activity a.mode a.start) placed

-- the consumption of nonrenewable resource r by the placed activities
unfoldable pub placed_consumption : ProjectData → List Placed → ℕ → ℕ
placed_consumption p placed r = sum_by (λ a. consumption p a.activity a.mode r) placed

-- whether activity j is placed
abbrev pub is_placed : List Placed → ℕ → Bool
is_placed placed j = list_any (λ a. a.activity == j) placed

-- no activity is placed twice
abbrev pub IsDistinct : List Placed → Type 0
IsDistinct [] = ⊤
IsDistinct (a ∷ placed) = (is_placed placed a.activity ≡ false) × IsDistinct placed

-- the latest finish, 0 if nothing is placed
abbrev pub latest : ProjectData → List Placed → ℕ
latest p placed = largest (map (finish_of p) placed)

-- the start of the activity placed last, 0 if nothing is placed
unfoldable pub last_start : List Placed → ℕ
last_start placed = fold (λ _ a. a.start) 0 placed

-- whether each placed predecessor of activity j has finished by t
unfoldable pub are_ready : ProjectData → List Placed → ℕ → ℕ → Bool
are_ready p placed j t = list_all (λ a. not (precedes p a.activity j) || nat_le (finish_of p a) t) placed

-- whether activity j in mode m fits at t: each renewable capacity is kept in each of its periods
unfoldable pub fits : ProjectData → List Placed → ℕ → ℕ → ℕ → Bool
fits p placed j m t =
    all_below (λ r. all_below (λ k. nat_le (placed_use p placed r (t + k) + request p j m r) (capacity p r)) (duration p j m)) (renewables p)

-- whether activity j may start in mode m at t
unfoldable pub is_allowed : ProjectData → List Placed → ℕ → ℕ → ℕ → Bool
is_allowed p placed j m t = are_ready p placed j t && fits p placed j m t

-- the earliest start of activity j in mode m, `from` or later. At the latest finish of all placed
-- activities every executable mode fits, so the search goes no further
unfoldable pub earliest : ProjectData → List Placed → ℕ → ℕ → ℕ → ℕ
earliest p placed j m from = first_from (is_allowed p placed j m) (latest p placed) from

-- whether activity j is not placed, and each of its predecessors is
unfoldable pub is_eligible : ProjectData → List Placed → ℕ → Bool
is_eligible p placed j = not (is_placed placed j) && all_below (λ i. not (precedes p i j) || is_placed placed i) (size p)

-- whether activity j in mode m could run alone: its duration is 0, or no request exceeds a capacity
unfoldable pub is_executable : ProjectData → ℕ → ℕ → Bool
is_executable p j m = (duration p j m == 0) || all_below (λ r. nat_le (request p j m r) (capacity p r)) (renewables p)

-- the least consumption of nonrenewable resource r by the activities that are neither placed nor j
unfoldable pub reserve : ProjectData → List Placed → ℕ → ℕ → ℕ
reserve p placed j r = sum_below (λ i. cond (is_placed placed i || (i == j)) 0 (least p i r)) (size p)

-- the nonrenewable test: each stock suffices for the placed activities, for j in mode m and for the
-- least consumption of all others
unfoldable pub is_affordable : ProjectData → List Placed → ℕ → ℕ → Bool
is_affordable p placed j m =
    all_below (λ r. nat_le (placed_consumption p placed r + consumption p j m r + reserve p placed j r) (stock p r)) (nonrenewables p)

-- the mode of activity j in a list, 0 if it is not placed
abbrev pub mode_in : List Placed → ℕ → ℕ
mode_in [] j = 0
mode_in (a ∷ placed) j = cond (a.activity == j) a.mode (mode_in placed j)

-- the start of activity j in a list, 0 if it is not placed
abbrev pub start_in : List Placed → ℕ → ℕ
start_in [] j = 0
start_in (a ∷ placed) j = cond (a.activity == j) a.start (start_in placed j)

-- the schedule of n activities that a list is
unfoldable pub schedule_of : ℕ → List Placed → ScheduleData
schedule_of n placed = record { modes = map (λ j. mode_in placed j + 1) (range_with_len 0 n); starts = map (start_in placed) (range_with_len 0 n) }
