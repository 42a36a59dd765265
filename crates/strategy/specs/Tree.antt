-- The precedence tree (Sprecher and Drexl 1998). One node examines one candidate, an eligible
-- activity in one mode.
use Rattle.std.specs.Prelude.{ℕ, zero, suc, ◌+◌, Bool, true, false, cond, not, ◌||◌, nat_lt, nat_le, List, [], ◌∷◌, ◌++◌, length, map, take, fold, filter, flat_map, Option, Some, None}
use Rattle.std.specs.List.{range_with_len}
use Rattle.mrcpsp.specs.Project.{ProjectData, size, mode_count}
use Rattle.mrcpsp.specs.Schedule.{ScheduleData, makespan}
use Rattle.mrcpsp.specs.Placed.{Placed, last_start, finish_of, is_eligible, is_executable, is_affordable, schedule_of}
use Rattle.mrcpsp.specs.Values.{tail}
use Rattle.strategy.specs.Candidate.{Candidate, placed_from}

-- the candidates of activity j, by rising mode
abbrev pub modes_of : ProjectData → ℕ → List Candidate
modes_of p j = map (λ m. record { activity = j; mode = m }) (range_with_len 0 (mode_count p j))

-- all candidates, by rising activity, then by rising mode
unfoldable pub candidates : ProjectData → List Placed → List Candidate
candidates p placed = flat_map (modes_of p) (filter (is_eligible p placed) (range_with_len 0 (size p)))

-- a candidate at its earliest start, from the start of the level above on
abbrev pub placing : ProjectData → List Placed → Candidate → Placed
placing p placed c = placed_from p placed (last_start placed) c

-- whether a schedule that ends at `at` or later is no shorter than the best one
abbrev pub is_too_late : ProjectData → Option ScheduleData → ℕ → Bool
is_too_late p None at = false
is_too_late p (Some best) at = nat_le (makespan p best) at

-- whether a candidate is pruned: its mode is not allowed, or with its tail it ends too late
unfoldable pub is_pruned : ProjectData → List Placed → Candidate → Option ScheduleData → Bool
is_pruned p placed c best = not (is_executable p c.activity c.mode) || (not (is_affordable p placed c.activity c.mode) || is_too_late p best (finish_of p (placing p placed c) + tail p c.activity))

-- the shorter schedule, the old one if they are equal
abbrev pub improved : ProjectData → Option ScheduleData → ScheduleData → Option ScheduleData
improved p None s = Some s
improved p (Some best) s = cond (nat_lt (makespan p s) (makespan p best)) (Some s) (Some best)

-- the incumbent after a node that leaves `placed`: a schedule counts once all activities are placed
unfoldable pub updated : ProjectData → List Placed → Option ScheduleData → Option ScheduleData
updated p placed best = cond (nat_lt (length placed) (size p)) best (improved p best (schedule_of (size p) placed))

-- a node: its candidate's place, whether it was pruned, and the incumbent after it
pub record Node : Type 0 where
  pub place : Placed
  pub pruned : Bool
  pub best : Option ScheduleData

-- the incumbent after a list of nodes
abbrev pub after : Option ScheduleData → List Node → Option ScheduleData
after best nodes = fold (λ _ n. n.best) best nodes

-- the nodes of the levels below, by what is placed and the incumbent
abbrev pub Below : Type 0
Below = List Placed → Option ScheduleData → List Node

-- the nodes of one candidate: its own, and the nodes below if it is not pruned
unfoldable pub visit_one : Below → ProjectData → List Placed → Candidate → Option ScheduleData → List Node
visit_one below p placed c best =
    let place = placing p placed c in
    cond (is_pruned p placed c best) (record { place = place; pruned = true; best = best } ∷ [])
    (let next = placed ++ place ∷ [] in
    let kept = updated p next best in
    record { place = place; pruned = false; best = kept } ∷ below next kept)

-- the nodes of a level's candidates, one after the other
abbrev pub visit_all : Below → ProjectData → List Placed → List Candidate → Option ScheduleData → List Node
visit_all below p placed [] best = []
visit_all below p placed (c ∷ cs) best =
    visit_one below p placed c best ++ visit_all below p placed cs (after best (visit_one below p placed c best))

-- the nodes if d activities are not placed
abbrev pub visits : ProjectData → ℕ → List Placed → Option ScheduleData → List Node
visits p zero placed best = []
visits p (suc d) placed best = visit_all (visits p d) p placed (candidates p placed) best

-- all nodes of the tree, in their order
unfoldable pub all_visits : ProjectData → List Node
all_visits p = visits p (size p) [] None

-- the incumbent after k nodes
unfoldable pub tree_best_after : ProjectData → ℕ → Option ScheduleData
tree_best_after p k = after None (take k (all_visits p))

-- whether all nodes are among the first k
unfoldable pub is_tree_over : ProjectData → ℕ → Bool
is_tree_over p k = nat_le (length (all_visits p)) k
