-- What differs between two schedules of a project.
use Rattle.std.specs.Prelude.{ℕ, ◌+◌, ◌==◌, ◌&&◌, not, Bool, cond, List, [], ◌∷◌, ◌++◌, get_or, codes, decimal, Option, Some, None}
use Rattle.mrcpsp.specs.Numbers.{count_below}
use Rattle.mrcpsp.specs.Project.{ProjectData, size, nonrenewables}
use Rattle.mrcpsp.specs.Schedule.{ScheduleData, IsFeasible, start_of, consumed, makespan}
use Rattle.mrcpsp.specs.Breach.{IsFirstBreach}
use Rattle.mrcpsp.specs.BreachText.{breach_text}
use Rattle.mrcpsp.specs.declared.breach.Breach.{Breach}
use Rattle.plan_cli.specs.Table.{concat_below}

-- the verdict of a schedule: it is feasible, or what it breaks first
abbrev pub IsVerdict : ProjectData → ScheduleData → Option Breach → Type 0
IsVerdict p s None = IsFeasible p s
IsVerdict p s (Some b) = IsFirstBreach p s b

abbrev pub verdict_text : Option Breach → List ℕ
verdict_text None = codes "feasible"
verdict_text (Some b) = codes "breach " ++ breach_text b

-- the line of one schedule
abbrev pub plan_line : List ℕ → ProjectData → ScheduleData → Option Breach → List ℕ
plan_line name p s verdict = name ++ codes " makespan " ++ decimal (makespan p s) ++ 32 ∷ verdict_text verdict ++ 10 ∷ []

-- whether activity j has another mode or start
abbrev pub is_moved : ScheduleData → ScheduleData → ℕ → Bool
is_moved s t j = not ((get_or s.modes j 0 == get_or t.modes j 0) && (start_of s j == start_of t j))

-- the modes and starts of activity j
abbrev pub change_line : ScheduleData → ScheduleData → ℕ → List ℕ
change_line s t j =
    codes "activity " ++ decimal (j + 1) ++ codes " mode " ++ decimal (get_or s.modes j 0) ++ codes " start " ++ decimal (start_of s j)
    ++ codes " -> mode " ++ decimal (get_or t.modes j 0) ++ codes " start " ++ decimal (start_of t j) ++ 10 ∷ []

-- the line of activity j, if it has moved
abbrev pub move_line : ScheduleData → ScheduleData → ℕ → List ℕ
move_line s t j = cond (is_moved s t j) (change_line s t j) []

-- the line of a nonrenewable resource: what is consumed of it
abbrev pub cost_line : ProjectData → ScheduleData → ScheduleData → ℕ → List ℕ
cost_line p s t r = codes "consumed N" ++ decimal (r + 1) ++ 32 ∷ decimal (consumed p s r) ++ codes " -> " ++ decimal (consumed p t r) ++ 10 ∷ []

-- how many activities have moved
abbrev pub count_line : ProjectData → ScheduleData → ScheduleData → List ℕ
count_line p s t = codes "moved " ++ decimal (count_below (is_moved s t) (size p)) ++ codes " of " ++ decimal (size p) ++ codes "\n"

-- the lines of both schedules, with their verdicts v and w
abbrev pub plan_lines : ProjectData → ScheduleData → ScheduleData → Option Breach → Option Breach → List ℕ
plan_lines p s t v w = plan_line (codes "before") p s v ++ plan_line (codes "after") p t w

-- the whole text of two schedules of a project, with their verdicts v and w
abbrev pub moves_text : ProjectData → ScheduleData → ScheduleData → Option Breach → Option Breach → List ℕ
moves_text p s t v w =
    plan_lines p s t v w ++ concat_below (move_line s t) (size p) ++ count_line p s t ++ concat_below (cost_line p s t) (nonrenewables p)
