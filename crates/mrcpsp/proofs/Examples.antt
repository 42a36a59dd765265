-- The definitions on a small project, computed. Activities and modes are named by their places, from 0.
use Rattle.std.proofs.Common.{◌≡◌, ℕ, true, false, List, [], ◌∷◌, map, refl}
use Rattle.mrcpsp.specs.Project.{ProjectData, ModeData, ActivityData, is_project, horizon, size, renewables, nonrenewables, modes, successors, mode_count, duration, request, consumption, capacity, stock, precedes}
use Rattle.mrcpsp.specs.Schedule.{ScheduleData, mode_of, start_of, finish, load, use_of, consumed, makespan}
use Rattle.mrcpsp.specs.Values.{shortest, least, tail, bound, lft, mts}
use Rattle.mrcpsp.specs.declared.breach.Breach.TheVariants.{Shape, Mode, Precedence, Renewable}
use Rattle.mrcpsp.specs.Breaches.{breaches_in}
use Rattle.mrcpsp.specs.Placed.{Placed, placed_use, placed_consumption, are_ready, fits, is_allowed, earliest, is_eligible, reserve, is_affordable}

abbrev activity : List ModeData → List ℕ → ActivityData
activity modes successors = record { modes = modes; successors = successors }

abbrev mode : ℕ → ℕ → ℕ → ModeData
mode d r n = record { duration = d; renewable = r ∷ []; nonrenewable = n ∷ [] }

-- a source, an activity of one mode, one of two modes, and a sink
abbrev diamond : ProjectData
diamond = record {
  activities =
      activity (mode 0 0 0 ∷ []) (2 ∷ 3 ∷ [])
      ∷ activity (mode 3 2 0 ∷ []) (4 ∷ [])
      ∷ activity (mode 2 2 1 ∷ mode 4 1 0 ∷ []) (4 ∷ [])
      ∷ activity (mode 0 0 0 ∷ []) []
      ∷ [];
  renewable = 3 ∷ [];
  nonrenewable = 1 ∷ [];
}

diamond_is_project : is_project diamond ≡ true
diamond_is_project = refl

diamond_horizon : horizon diamond.activities ≡ 7
diamond_horizon = refl

abbrev each : ℕ → ℕ → ℕ → ℕ → List ℕ
each a b c d = a ∷ b ∷ c ∷ d ∷ []

tails : map (tail diamond) (each 0 1 2 3) ≡ each 3 0 0 0
unfolding tail shortest modes successors size
tails = refl

bound_of_diamond : bound diamond ≡ 3
unfolding bound tail shortest modes successors size
bound_of_diamond = refl

latest_finishes : map (lft diamond) (each 0 1 2 3) ≡ each 4 7 7 7
unfolding lft shortest modes successors size
latest_finishes = refl

followers : map (mts diamond) (each 0 1 2 3) ≡ each 3 1 1 0
unfolding mts successors size
followers = refl

shortest_durations : map (shortest diamond) (each 0 1 2 3) ≡ each 0 3 2 0
unfolding shortest modes
shortest_durations = refl

least_consumptions : map (λ j. least diamond j 0) (each 0 1 2 3) ≡ each 0 0 0 0
unfolding least modes
least_consumptions = refl

-- with the source placed at 0 and the second activity at 3
abbrev two_placed : List Placed
two_placed = record { activity = 0; mode = 0; start = 0 } ∷ record { activity = 1; mode = 0; start = 3 } ∷ []

-- the third activity in its first mode from 0 and from 2 (period 2 is free, period 3 is not), and in its second mode from 2
earliest_starts : earliest diamond two_placed 2 0 0 ∷ earliest diamond two_placed 2 0 2 ∷ earliest diamond two_placed 2 1 2 ∷ [] ≡ 0 ∷ 6 ∷ 2 ∷ []
unfolding earliest is_allowed are_ready fits placed_use load duration request capacity renewables modes precedes successors
earliest_starts = refl

-- what comes next: the third activity alone, in either mode
next_ones : map (is_eligible diamond two_placed) (each 0 1 2 3) ≡ false ∷ false ∷ true ∷ false ∷ []
unfolding is_eligible precedes successors size
next_ones = refl

affordable_modes : is_affordable diamond two_placed 2 0 ∷ is_affordable diamond two_placed 2 1 ∷ [] ≡ true ∷ true ∷ []
unfolding is_affordable placed_consumption consumption reserve least modes size stock nonrenewables
affordable_modes = refl

-- an optimal schedule: what it uses in each period, what it consumes, and its makespan
abbrev in_four : ScheduleData
in_four = record { modes = each 1 1 2 1; starts = each 0 0 0 4 }

used_in_four : map (use_of diamond in_four 0) (0 ∷ 1 ∷ 2 ∷ 3 ∷ 4 ∷ []) ≡ 3 ∷ 3 ∷ 3 ∷ 1 ∷ 0 ∷ []
unfolding use_of load mode_of start_of duration request modes size
used_in_four = refl

consumed_in_four : consumed diamond in_four 0 ≡ 0
unfolding consumed consumption mode_of modes size
consumed_in_four = refl

makespan_of_four : makespan diamond in_four ≡ 4
unfolding makespan finish mode_of start_of duration modes size
makespan_of_four = refl

-- ---- all breaches

abbrev at_once : ScheduleData
at_once = record { modes = each 1 1 1 1; starts = each 0 0 0 1 }

-- the sink starts before both end, and both use 4 of 3, in the two periods in which activities start
all_at_once : breaches_in diamond at_once ≡ Precedence 2 4 ∷ Precedence 3 4 ∷ Renewable 1 0 ∷ Renewable 1 1 ∷ []
unfolding size renewables nonrenewables modes successors mode_count duration request consumption capacity stock precedes mode_of start_of finish load use_of consumed
all_at_once = refl

missing : breaches_in diamond (record { modes = each 1 3 1 2; starts = each 0 0 0 1 }) ≡ Mode 2 ∷ Mode 4 ∷ []
unfolding size mode_count modes
missing = refl

late : breaches_in diamond (record { modes = each 1 1 1 1; starts = each 0 0 3 1000000001 }) ≡ Shape ∷ []
unfolding size
late = refl
