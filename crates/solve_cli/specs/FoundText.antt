-- The text of a result: a line of its nodes and a line of its best schedule, in the words of a
-- farm's replies; or JSON.
use Rattle.std.specs.Prelude.{ℕ, List, [], ◌∷◌, ◌++◌, Option, Some, None, codes, decimal}
use Rattle.mrcpsp.specs.Schedule.{ScheduleData}
use Rattle.schedule_files.specs.ScheduleText.{schedule_text}
use Rattle.schedule_json.specs.ScheduleJson.{number_json, schedule_json}
use Rattle.strategy.specs.VerdictText.{verdict_text}
use Rattle.solve_cli.specs.declared.search_result.SearchResult.{SearchResult}

-- the makespan of a best schedule, or `none`
abbrev pub best_text : Option ℕ → List ℕ
best_text None = codes "none"
best_text (Some makespan) = decimal makespan

-- the words of a best schedule's activities, nothing without one
abbrev pub places_of : Option ScheduleData → List ℕ
places_of None = []
places_of (Some schedule) = schedule_text schedule

-- a makespan and a verdict
abbrev pub shown_text : SearchResult → List ℕ
shown_text f = best_text f.makespan ++ codes " " ++ verdict_text f.verdict

-- the line of the nodes
abbrev pub nodes_line : SearchResult → List ℕ
nodes_line f = codes "nodes " ++ decimal f.nodes ++ codes " best " ++ shown_text f ++ 10 ∷ []

-- the line of the best schedule
abbrev pub result_line : SearchResult → List ℕ
result_line f = codes "makespan " ++ shown_text f ++ places_of f.best ++ 10 ∷ []

-- both lines of a result
abbrev pub found_text : SearchResult → List ℕ
found_text f = nodes_line f ++ result_line f

-- the line of the best schedule so far of a search that goes on
abbrev pub better_line : ℕ → ScheduleData → List ℕ
better_line makespan best = codes "makespan " ++ decimal makespan ++ codes " open" ++ schedule_text best ++ 10 ∷ []

-- ---- as one JSON object on one line

-- the object of a result, from its parts
abbrev pub object_json : ℕ → Option ℕ → List ℕ → Option ScheduleData → List ℕ
object_json nodes makespan word best =
    codes "{\"nodes\":" ++ decimal nodes ++ codes ",\"makespan\":" ++ number_json makespan
    ++ codes ",\"verdict\":\"" ++ word ++ codes "\",\"schedule\":" ++ schedule_json best ++ codes "}" ++ 10 ∷ []

-- the object of a result
abbrev pub found_json : SearchResult → List ℕ
found_json f = object_json f.nodes f.makespan (verdict_text f.verdict) f.best
