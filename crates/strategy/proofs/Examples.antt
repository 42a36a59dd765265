-- The definitions on five small projects, computed. Activities and modes are numbered from 1 here.
use Rattle.std.proofs.Common.{◌≡◌, ℕ, ◌+◌, Bool, true, false, List, [], ◌∷◌, map, Option, Some, None, option_map, refl}
use Rattle.mrcpsp.specs.Project.{ProjectData, ModeData, ActivityData, size, renewables, nonrenewables, modes, mode_count, successors, duration, request, consumption, capacity, stock, precedes}
use Rattle.mrcpsp.specs.Schedule.{ScheduleData, mode_of, start_of, finish, load, makespan}
use Rattle.mrcpsp.specs.Values.{shortest, least, tail, lft, mts}
use Rattle.mrcpsp.specs.Placed.{placed_use, placed_consumption, last_start, are_ready, fits, is_allowed, earliest, is_eligible, is_executable, reserve, is_affordable, schedule_of, finish_of}
use Rattle.strategy.specs.Candidate.{placed_from, eligible_ones, is_allowed_mode, allowed_modes}
use Rattle.strategy.specs.Tree.{Node, candidates, is_pruned, updated, visit_one, all_visits}
use Rattle.strategy.specs.Words.{word_at}
use Rattle.strategy.specs.Pass.{chosen_at, pass}
use Rattle.strategy.specs.declared.kind.Kind.TheVariants.{RuleLft, RuleMts, RuleSpt, Sample}

-- ---- the projects

abbrev activity : List ModeData → List ℕ → ActivityData
activity modes successors = record { modes = modes; successors = successors }

-- a mode for one resource of either kind, for one renewable resource, and for none
abbrev mode : ℕ → ℕ → ℕ → ModeData
mode d r n = record { duration = d; renewable = r ∷ []; nonrenewable = n ∷ [] }

abbrev mode_of_one : ℕ → ℕ → ModeData
mode_of_one d r = record { duration = d; renewable = r ∷ []; nonrenewable = [] }

abbrev plain_mode : ℕ → ModeData
plain_mode d = record { duration = d; renewable = []; nonrenewable = [] }

-- one activity of one mode and one of two between a source and a sink, which requests `last`
abbrev diamond : ℕ → ProjectData
diamond last = record {
  activities =
      activity (mode 0 0 0 ∷ []) (2 ∷ 3 ∷ [])
      ∷ activity (mode 3 2 0 ∷ []) (4 ∷ [])
      ∷ activity (mode 2 2 1 ∷ mode 4 1 0 ∷ []) (4 ∷ [])
      ∷ activity (mode 0 last 0 ∷ []) []
      ∷ [];
  renewable = 3 ∷ [];
  nonrenewable = 1 ∷ [];
}

-- the same without the second mode, and without anything of the nonrenewable resource
abbrev starved : ProjectData
starved = record {
  activities =
      activity (mode 0 0 0 ∷ []) (2 ∷ 3 ∷ [])
      ∷ activity (mode 3 2 0 ∷ []) (4 ∷ [])
      ∷ activity (mode 2 2 1 ∷ []) (4 ∷ [])
      ∷ activity (mode 0 0 0 ∷ []) []
      ∷ [];
  renewable = 3 ∷ [];
  nonrenewable = 0 ∷ [];
}

abbrev chain_of_three : ProjectData
chain_of_three = record {
  activities = activity (plain_mode 0 ∷ []) (2 ∷ []) ∷ activity (plain_mode 5 ∷ []) (3 ∷ []) ∷ activity (plain_mode 0 ∷ []) [] ∷ [];
  renewable = [];
  nonrenewable = [];
}

abbrev alone : ProjectData
alone = record { activities = activity (plain_mode 0 ∷ []) [] ∷ []; renewable = []; nonrenewable = [] }

-- three activities that need the same machine
abbrev one_machine : ProjectData
one_machine = record {
  activities =
      activity (mode_of_one 0 0 ∷ []) (2 ∷ 3 ∷ [])
      ∷ activity (mode_of_one 2 1 ∷ []) (4 ∷ [])
      ∷ activity (mode_of_one 2 1 ∷ []) []
      ∷ activity (mode_of_one 3 1 ∷ []) []
      ∷ [];
  renewable = 1 ∷ [];
  nonrenewable = [];
}

-- ---- the nodes of the tree

-- a node: activity, mode, start, finish, whether it was pruned, the incumbent's makespan after it
abbrev Line : Type 0
Line = ℕ × ℕ × ℕ × ℕ × Bool × Option ℕ

abbrev line_of : ProjectData → Node → Line
unfolding makespan finish start_of mode_of duration size modes
line_of p n = (n.place.activity + 1, n.place.mode + 1, n.place.start, finish_of p n.place, n.pruned, option_map (makespan p) n.best)

abbrev lines_of : ProjectData → List Line
unfolding line_of all_visits
lines_of p = map (line_of p) (all_visits p)

-- nine nodes, with the incumbents 5 and 4
abbrev diamond_lines : List Line
diamond_lines =
    (1, 1, 0, 0, false, None)
    ∷ (2, 1, 0, 3, false, None)
    ∷ (3, 1, 3, 5, false, None)
    ∷ (4, 1, 5, 5, false, Some 5)
    ∷ (3, 2, 0, 4, false, Some 5)
    ∷ (4, 1, 4, 4, false, Some 4)
    ∷ (3, 1, 0, 2, false, Some 4)
    ∷ (2, 1, 2, 5, true, Some 4)
    ∷ (3, 2, 0, 4, true, Some 4)
    ∷ []

diamond_tree : lines_of (diamond 0) ≡ diamond_lines
unfolding lines_of line_of all_visits makespan finish start_of mode_of duration size modes renewables nonrenewables mode_count successors request consumption capacity stock precedes load shortest least placed_use placed_consumption last_start are_ready fits is_allowed earliest is_eligible is_executable reserve is_affordable tail schedule_of candidates placed_from is_pruned updated visit_one
diamond_tree = refl

-- an activity of duration 0 above the capacity changes nothing
diamond_tree_with_a_greedy_sink : lines_of (diamond 9) ≡ diamond_lines
unfolding lines_of line_of all_visits makespan finish start_of mode_of duration size modes renewables nonrenewables mode_count successors request consumption capacity stock precedes load shortest least placed_use placed_consumption last_start are_ready fits is_allowed earliest is_eligible is_executable reserve is_affordable tail schedule_of candidates placed_from is_pruned updated visit_one
diamond_tree_with_a_greedy_sink = refl

machine_tree : lines_of one_machine ≡
    (1, 1, 0, 0, false, None)
    ∷ (2, 1, 0, 2, false, None)
    ∷ (3, 1, 2, 4, false, None)
    ∷ (4, 1, 4, 7, false, Some 7)
    ∷ (4, 1, 2, 5, false, Some 7)
    ∷ (3, 1, 5, 7, true, Some 7)
    ∷ (3, 1, 0, 2, false, Some 7)
    ∷ (2, 1, 2, 4, true, Some 7)
    ∷ []
unfolding lines_of line_of all_visits makespan finish start_of mode_of duration size modes renewables nonrenewables mode_count successors request consumption capacity stock precedes load shortest least placed_use placed_consumption last_start are_ready fits is_allowed earliest is_eligible is_executable reserve is_affordable tail schedule_of candidates placed_from is_pruned updated visit_one
machine_tree = refl

starved_tree : lines_of starved ≡ (1, 1, 0, 0, true, None) ∷ []
unfolding lines_of line_of all_visits makespan finish start_of mode_of duration size modes renewables nonrenewables mode_count successors request consumption capacity stock precedes load shortest least placed_use placed_consumption last_start are_ready fits is_allowed earliest is_eligible is_executable reserve is_affordable tail schedule_of candidates placed_from is_pruned updated visit_one
starved_tree = refl

lone_tree : lines_of alone ≡ (1, 1, 0, 0, false, Some 0) ∷ []
unfolding lines_of line_of all_visits makespan finish start_of mode_of duration size modes renewables nonrenewables mode_count successors request consumption capacity stock precedes load shortest least placed_use placed_consumption last_start are_ready fits is_allowed earliest is_eligible is_executable reserve is_affordable tail schedule_of candidates placed_from is_pruned updated visit_one
lone_tree = refl

-- ---- words and passes

words_of_42 : map (word_at 42) (0 ∷ 1 ∷ 2 ∷ 3 ∷ 4 ∷ 5 ∷ []) ≡ 0xa15c02b7 ∷ 0x7b47f409 ∷ 0xba1d3330 ∷ 0x83d2f293 ∷ 0xbfa4784b ∷ 0xcbed606e ∷ []
unfolding word_at
words_of_42 = refl

abbrev scheduled : List ℕ → List ℕ → Option ScheduleData
scheduled modes starts = Some (record { modes = modes; starts = starts })

-- activity 3 comes first, since its latest finish time is less urgent and the word falls on it
sampled_machine : pass one_machine (Sample 42) 0 ≡ scheduled (1 ∷ 1 ∷ 1 ∷ 1 ∷ []) (0 ∷ 2 ∷ 0 ∷ 4 ∷ [])
unfolding pass chosen_at eligible_ones allowed_modes is_allowed_mode placed_from word_at lft duration size modes renewables nonrenewables mode_count successors request consumption capacity stock precedes load shortest least placed_use placed_consumption are_ready fits is_allowed earliest is_eligible is_executable reserve is_affordable schedule_of
sampled_machine = refl

sampled_diamond : pass (diamond 0) (Sample 42) 0 ≡ scheduled (1 ∷ 1 ∷ 1 ∷ 1 ∷ []) (0 ∷ 0 ∷ 3 ∷ 5 ∷ [])
unfolding pass chosen_at eligible_ones allowed_modes is_allowed_mode placed_from word_at lft duration size modes renewables nonrenewables mode_count successors request consumption capacity stock precedes load shortest least placed_use placed_consumption are_ready fits is_allowed earliest is_eligible is_executable reserve is_affordable schedule_of
sampled_diamond = refl

diamond_by_rules : map (λ kind. pass (diamond 0) kind 0) (RuleLft ∷ RuleMts ∷ RuleSpt ∷ []) ≡
    scheduled (1 ∷ 1 ∷ 1 ∷ 1 ∷ []) (0 ∷ 0 ∷ 3 ∷ 5 ∷ [])
    ∷ scheduled (1 ∷ 1 ∷ 1 ∷ 1 ∷ []) (0 ∷ 0 ∷ 3 ∷ 5 ∷ [])
    ∷ scheduled (1 ∷ 1 ∷ 1 ∷ 1 ∷ []) (0 ∷ 2 ∷ 0 ∷ 5 ∷ [])
    ∷ []
unfolding pass chosen_at eligible_ones allowed_modes is_allowed_mode placed_from lft mts duration size modes renewables nonrenewables mode_count successors request consumption capacity stock precedes load shortest least placed_use placed_consumption are_ready fits is_allowed earliest is_eligible is_executable reserve is_affordable schedule_of
diamond_by_rules = refl

chain_by_rules : map (λ kind. pass chain_of_three kind 0) (RuleLft ∷ RuleMts ∷ RuleSpt ∷ []) ≡
    scheduled (1 ∷ 1 ∷ 1 ∷ []) (0 ∷ 0 ∷ 5 ∷ []) ∷ scheduled (1 ∷ 1 ∷ 1 ∷ []) (0 ∷ 0 ∷ 5 ∷ []) ∷ scheduled (1 ∷ 1 ∷ 1 ∷ []) (0 ∷ 0 ∷ 5 ∷ []) ∷ []
unfolding pass chosen_at eligible_ones allowed_modes is_allowed_mode placed_from lft mts duration size modes renewables nonrenewables mode_count successors request consumption capacity stock precedes load shortest least placed_use placed_consumption are_ready fits is_allowed earliest is_eligible is_executable reserve is_affordable schedule_of
chain_by_rules = refl

-- without an allowed mode a pass is void
starved_by_rules : map (λ kind. pass starved kind 0) (RuleLft ∷ RuleMts ∷ RuleSpt ∷ []) ≡ None ∷ None ∷ None ∷ []
unfolding pass chosen_at eligible_ones allowed_modes is_allowed_mode placed_from lft mts duration size modes renewables nonrenewables mode_count successors request consumption capacity stock precedes load shortest least placed_use placed_consumption are_ready fits is_allowed earliest is_eligible is_executable reserve is_affordable schedule_of
starved_by_rules = refl
