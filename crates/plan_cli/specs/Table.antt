-- The table of a plan: a line of titles, and one for each activity.
use Rattle.std.specs.Prelude.{◌≡◌, ℕ, zero, suc, ◌+◌, Bool, true, false, IsTrue, cond, List, [], ◌∷◌, ◌++◌, get_or, codes, decimal}
use Rattle.mrcpsp.specs.Project.{ProjectData, size, renewables, nonrenewables, request, consumption, precedes}
use Rattle.mrcpsp.specs.Schedule.{ScheduleData, mode_of, start_of, finish}
use Rattle.plan_cli.specs.Layout.{first_cell, cell, title}
use Rattle.plan_cli.specs.Slack.{IsSlack}
use Rattle.plan_cli.specs.declared.layout.Layout.{Layout}
use Rattle.plan_cli.specs.declared.layout.Layout.TheVariants.{Columns, Csv}

-- the texts f 0 to f (n - 1), one behind the other
abbrev pub concat_below : (ℕ → List ℕ) → ℕ → List ℕ
concat_below f zero = []
concat_below f (suc n) = concat_below f n ++ f n

-- the numbers of the direct predecessors of activity j among the first n activities, rising
abbrev pub predecessors : ProjectData → ℕ → ℕ → List ℕ
predecessors p j zero = []
predecessors p j (suc n) = predecessors p j n ++ cond (precedes p n j) ((n + 1) ∷ []) []

-- numbers, each behind a semicolon
abbrev pub behind : List ℕ → List ℕ
behind [] = []
behind (n ∷ more) = 59 ∷ decimal n ++ behind more

-- numbers with semicolons between them
abbrev pub joined : List ℕ → List ℕ
joined [] = []
joined (n ∷ more) = decimal n ++ behind more

-- whether there is no number
abbrev pub is_empty : List ℕ → Bool
is_empty [] = true
is_empty (n ∷ more) = false

-- a number of such a text, which is the first one or not
abbrev pub next_number : Bool → ℕ → List ℕ
next_number is_first n = cond is_first [] (codes ";") ++ decimal n

-- the text before the last column
abbrev pub gap : Layout → List ℕ
gap Columns = codes "  "
gap Csv = codes ","

-- the numbers of activity j: its number, mode, start, finish and slack, and what it uses of each
-- renewable resource in each of its periods, and of each nonrenewable one
abbrev pub numbers : Layout → ProjectData → ScheduleData → ℕ → ℕ → List ℕ
numbers layout p s j slack =
    first_cell layout (j + 1) ++ cell layout (get_or s.modes j 0) ++ cell layout (start_of s j) ++ cell layout (finish p s j) ++ cell layout slack
    ++ concat_below (λ r. cell layout (request p j (mode_of s j) r)) (renewables p)
    ++ concat_below (λ r. cell layout (consumption p j (mode_of s j) r)) (nonrenewables p)

-- the text for no predecessors: a dash in a column
abbrev pub dash : Layout → Bool → List ℕ
dash Columns true = codes "-"
dash Columns false = []
dash Csv none = []

-- the last column: the predecessors of activity j
abbrev pub last_cell : Layout → ProjectData → ℕ → List ℕ
last_cell layout p j = joined (predecessors p j (size p)) ++ dash layout (is_empty (predecessors p j (size p)))

-- the text behind the numbers of activity j: what else was asked for, and its predecessors
abbrev pub rest : Layout → ProjectData → ℕ → List ℕ → List ℕ
rest layout p j more = more ++ gap layout ++ last_cell layout p j ++ codes "\n"

-- the line of activity j: its numbers, what else was asked for, and its predecessors
pub record IsLine (layout : Layout) (p : ProjectData) (s : ScheduleData) (j : ℕ) (more line : List ℕ) : Type 0 where
  pub slack : ℕ
  pub is : IsSlack p s j slack
  pub text : line ≡ numbers layout p s j slack ++ rest layout p j more

-- a plain table has nothing else
abbrev pub IsBare : Bool → List ℕ → Type 0
IsBare plain more = IsTrue plain → more ≡ []

-- the lines of the first n activities
abbrev pub AreLines : Layout → ProjectData → ScheduleData → Bool → ℕ → List ℕ → Type 0
AreLines layout p s plain zero lines = lines ≡ []
AreLines layout p s plain (suc n) lines =
    (before : List ℕ) × (line : List ℕ) × (more : List ℕ) × IsBare plain more × AreLines layout p s plain n before × IsLine layout p s n more line × (lines ≡ before ++ line)

-- the titles of the numbers
abbrev pub first_titles : Layout → List ℕ
first_titles Columns = codes "activity   mode  start finish  slack"
first_titles Csv = codes "activity,mode,start,finish,slack"

-- the line of titles
abbrev pub titles : Layout → ProjectData → List ℕ → List ℕ
titles layout p more = first_titles layout ++ concat_below (λ r. title layout 82 (r + 1)) (renewables p)
    ++ concat_below (λ r. title layout 78 (r + 1)) (nonrenewables p) ++ more ++ gap layout ++ codes "predecessors\n"

-- the text is a table of the schedule, a plain one or with more
pub record IsTable (layout : Layout) (p : ProjectData) (s : ScheduleData) (plain : Bool) (text : List ℕ) : Type 0 where
  pub more : List ℕ
  pub bare : IsBare plain more
  pub lines : List ℕ
  pub are : AreLines layout p s plain (size p) lines
  pub whole : text ≡ titles layout p more ++ lines
