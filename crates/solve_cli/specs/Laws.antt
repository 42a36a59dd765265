-- Why the result of several searches is true, the result of one search is its own, and the lines and
-- the JSON of a result tell its best schedule. The limits of the texts, in figures.
use Rattle.std.specs.Prelude.{◌≡◌, ◌<◌, ◌≤◌, ◌^◌, ℕ, List, [], ◌∷◌, ◌++◌, length, IsTrue, Some, IfSome, codes}
use Rattle.mrcpsp.specs.Project.{ProjectData, is_project}
use Rattle.mrcpsp.specs.Schedule.{ScheduleData}
use Rattle.strategy.specs.declared.kind.Kind.{Kind}
use Rattle.psplib_mm.specs.declared.reading.TheConstants as file
use Rattle.schedule_files.specs.declared.reading.TheConstants as schedule
use Rattle.file_commands.specs.declared.inputs.TheConstants.{MOST_TEXT}
use Rattle.schedule_files.specs.Laws.{IsWritable}
use Rattle.schedule_files.specs.ScheduleText.{Tells}
use Rattle.solve_cli.specs.Found.{IsFound}
use Rattle.solve_cli.specs.FoundText.{found_text, found_json, better_line, object_json}
use Rattle.solve_cli.specs.Portfolio.{IsFoundByEach, IsTrueOf}
use Rattle.solve_cli.specs.declared.search_kinds.SearchKind.{SearchKind}
use Rattle.solve_cli.specs.declared.search_kinds.SearchKind.TheVariants.{Planned}
use Rattle.solve_cli.specs.declared.search_result.SearchResult.{SearchResult}

-- the result of several searches is true of the project
abbrev pub SeveralAreTrue : Type 0
SeveralAreTrue = (p : ProjectData) → IsTrue (is_project p) → (kinds : List SearchKind) (most : ℕ) (found : SearchResult) → IsFoundByEach p kinds most found → IsTrueOf p found

-- the result of one search is what that search finds
abbrev pub OneIsItself : Type 0
OneIsItself = (p : ProjectData) (kind : Kind) (most : ℕ) (found : SearchResult) → IsFoundByEach p (Planned kind ∷ []) most found → IsFound (record { project = p; kind = kind }) most found

-- the lines of a result tell its best schedule, if its numbers have 32 bits and the lines are short
abbrev pub LinesTellTheBest : Type 0
LinesTellTheBest = (found : SearchResult) (best : ScheduleData) → found.best ≡ Some best → IsWritable best → length (found_text found) ≤ schedule.MOST_BYTES → Tells (found_text found) best

-- the line of a better schedule holds it, likewise
abbrev pub BetterLineTells : Type 0
BetterLineTells = (makespan : ℕ) (best : ScheduleData) → IsWritable best → length (better_line makespan best) ≤ schedule.MOST_BYTES → Tells (better_line makespan best) best

-- the JSON of a result holds its best schedule, if its numbers have 64 bits, and those of the
-- schedule 32, and the text is short
abbrev pub JsonTellsTheBest : Type 0
JsonTellsTheBest = (found : SearchResult) (best : ScheduleData) → found.best ≡ Some best → IsWritable best → found.nodes < 2 ^ 64 → IfSome found.makespan (λ makespan. makespan < 2 ^ 64)
    → length (found_json found) ≤ schedule.MOST_BYTES → Tells (found_json found) best

-- the JSON of a better schedule holds it, likewise
abbrev pub BetterJsonTells : Type 0
BetterJsonTells = (nodes makespan : ℕ) (best : ScheduleData) → IsWritable best → nodes < 2 ^ 64 → makespan < 2 ^ 64
    → length (object_json nodes (Some makespan) (codes "open") (Some best)) ≤ schedule.MOST_BYTES → Tells (object_json nodes (Some makespan) (codes "open") (Some best)) best

-- a better schedule that is printed before a result
pub record Improvement : Type 0 where
  pub nodes : ℕ
  pub makespan : ℕ
  pub schedule : ScheduleData

-- the JSON of better schedules, a line for each
abbrev pub improvements_json : List Improvement → List ℕ
improvements_json [] = []
improvements_json (b ∷ bs) = object_json b.nodes (Some b.makespan) (codes "open") (Some b.schedule) ++ improvements_json bs

-- the numbers of better schedules have 64 bits, and those of the schedules 32
abbrev pub CanBeWritten : List Improvement → Type 0
CanBeWritten [] = Unit {0}
CanBeWritten (b ∷ bs) = ((b.nodes < 2 ^ 64) × (b.makespan < 2 ^ 64) × IsWritable b.schedule) × CanBeWritten bs

-- the JSON of better schedules and of a result holds the result's best schedule, likewise
abbrev pub AllJsonTells : Type 0
AllJsonTells = (before : List Improvement) (found : SearchResult) (best : ScheduleData) → found.best ≡ Some best → CanBeWritten before → IsWritable best → found.nodes < 2 ^ 64
    → IfSome found.makespan (λ makespan. makespan < 2 ^ 64) → length (improvements_json before ++ found_json found) ≤ schedule.MOST_BYTES → Tells (improvements_json before ++ found_json found) best

-- a project's file has at most 1,048,576 bytes
abbrev pub FilesAreLimited : Type 0
FilesAreLimited = file.MOST_BYTES ≡ 1048576

-- the text of a schedule has at most 1,048,576 bytes
abbrev pub SchedulesAreLimited : Type 0
SchedulesAreLimited = schedule.MOST_BYTES ≡ 1048576

-- at most 1,048,577 bytes of either are read, one more than it may have
abbrev pub ReadsAreLimited : Type 0
ReadsAreLimited = MOST_TEXT ≡ 1048577
