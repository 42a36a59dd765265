-- Passes of the serial schedule generation scheme (Kolisch 1996): one activity a node, each at its
-- earliest start from 0.
use Rattle.std.specs.Prelude.{ℕ, zero, suc, ◌+◌, ◌-◌, ◌*◌, ◌%◌, nat_lt, nat_le, cond, List, [], ◌∷◌, ◌++◌, length, map, sum_by, Option, Some, None, option_map, option_and_then, slice_get}
use Rattle.std.specs.List.{find, list_all}
use Rattle.mrcpsp.specs.Numbers.{largest}
use Rattle.mrcpsp.specs.Project.{ProjectData, size, duration}
use Rattle.mrcpsp.specs.Schedule.{ScheduleData}
use Rattle.mrcpsp.specs.Values.{shortest, lft, mts}
use Rattle.mrcpsp.specs.Placed.{Placed, schedule_of}
use Rattle.strategy.specs.Candidate.{Candidate, placed_from, eligible_ones, allowed_modes}
use Rattle.strategy.specs.Words.{word_at}
use Rattle.strategy.specs.declared.kind.Kind.{Kind}
use Rattle.strategy.specs.declared.kind.Kind.TheVariants.{Tree, RuleLft, RuleMts, RuleSpt, Sample}

-- the first of a list with the smallest key
abbrev pub first_least : (ℕ → ℕ) → List ℕ → Option ℕ
first_least key xs = find (λ x. list_all (λ y. nat_le (key x) (key y)) xs) xs

-- the first of a list with the greatest key
abbrev pub first_greatest : (ℕ → ℕ) → List ℕ → Option ℕ
first_greatest key xs = find (λ x. list_all (λ y. nat_le (key y) (key x)) xs) xs

-- the weight of activity j among xs: its regret, the greatest latest finish time minus its own, and
-- 1. Regret-based biased random sampling (Drexl 1991), with exponent 1
abbrev pub weight_of : ProjectData → List ℕ → ℕ → ℕ
weight_of p xs j = largest (map (lft p) xs) - lft p j + 1

-- the first of a list at which the running sum of weights exceeds x
abbrev pub drawn_at : (ℕ → ℕ) → ℕ → List ℕ → Option ℕ
drawn_at weight x [] = None
drawn_at weight x (j ∷ js) = cond (nat_lt x (weight j)) (Some j) (drawn_at weight (x - weight j) js)

-- the activity that a word draws: by the word modulo the sum of the weights
abbrev pub drawn_activity : ProjectData → ℕ → List ℕ → Option ℕ
drawn_activity p word xs = drawn_at (weight_of p xs) (word % sum_by (weight_of p xs) xs) xs

-- the mode that a word draws: by the word modulo the number of modes
abbrev pub drawn_mode : ℕ → List ℕ → Option ℕ
drawn_mode word modes = slice_get modes (word % length modes)

-- the activity that is placed at node i, of the eligible ones xs; node i of sampling uses the word
-- 2i of its seed
abbrev pub activity_at : ProjectData → Kind → ℕ → List ℕ → Option ℕ
activity_at p Tree i xs = None
activity_at p RuleLft i xs = first_least (lft p) xs
activity_at p RuleMts i xs = first_greatest (mts p) xs
activity_at p RuleSpt i xs = first_least (shortest p) xs
activity_at p (Sample seed) i xs = drawn_activity p (word_at seed (2 * i)) xs

-- the mode of activity j at node i, of its allowed ones; node i of sampling uses the word 2i + 1
abbrev pub mode_at : ProjectData → Kind → ℕ → ℕ → List ℕ → Option ℕ
mode_at p Tree i j modes = None
mode_at p RuleLft i j modes = first_least (duration p j) modes
mode_at p RuleMts i j modes = first_least (duration p j) modes
mode_at p RuleSpt i j modes = first_least (duration p j) modes
mode_at p (Sample seed) i j modes = drawn_mode (word_at seed (2 * i + 1)) modes

-- the candidate that is placed at node i, if the chosen activity has an allowed mode
unfoldable pub chosen_at : ProjectData → Kind → ℕ → List Placed → Option Candidate
chosen_at p kind i placed = option_and_then (λ j. option_map (λ m. record { activity = j; mode = m })
    (mode_at p kind i j (allowed_modes p placed j))) (activity_at p kind i (eligible_ones p placed))

-- what is placed after d more nodes, from node i on. The pass is void if the chosen activity has no
-- allowed mode
abbrev pub placed_after : ProjectData → Kind → ℕ → ℕ → List Placed → Option (List Placed)
placed_after p kind zero i placed = Some placed
placed_after p kind (suc d) i placed =
    option_and_then (λ c. placed_after p kind d (i + 1) (placed ++ placed_from p placed 0 c ∷ [])) (chosen_at p kind i placed)

-- pass q, of one node for each activity: its schedule, or none if it is void
unfoldable pub pass : ProjectData → Kind → ℕ → Option ScheduleData
pass p kind q = option_map (schedule_of (size p)) (placed_after p kind (size p) (q * size p) [])
