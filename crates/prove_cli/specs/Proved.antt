-- What `prove` writes, and that it is true.
use Rattle.std.specs.Prelude.{◌≡◌, ◌⊎◌, ℕ, Bool, true, false, List, [], ◌∷◌, ◌++◌, Option, Some, None, Ok, codes, decimal, drop}
use Rattle.std.specs.Io.KnownBytes.{Appends}
use Rattle.mrcpsp.specs.Project.{ProjectData}
use Rattle.mrcpsp.specs.Schedule.{ScheduleData}
use Rattle.psplib_mm.specs.Reading.{reading}
use Rattle.schedule_files.specs.ScheduleText.{schedule_text}
use Rattle.schedule_json.specs.ScheduleJson.{number_json, schedule_json}
use Rattle.prover.specs.Answers.{IsAnswer}
use Rattle.prover.specs.declared.known.Answer.{Answer}
use Rattle.prover.specs.declared.known.BestKnown.{BestKnown}
use Rattle.prover.specs.declared.known.Answer.TheVariants.{Optimal, Gap, AtLeast, Infeasible}
use Rattle.prove_cli.specs.declared.cost.Cost.{Cost}
use Rattle.prove_cli.specs.declared.proof_run.ProofEnd.{ProofEnd}
use Rattle.prove_cli.specs.declared.reporter.Style.{Style}
use Rattle.prove_cli.specs.declared.reporter.Style.TheVariants.{Silent, Lines, Json}
use Rattle.prove_cli.specs.declared.proof_run.ProofEnd.TheVariants as end

-- ---- as lines

-- the text is empty or begins with a blank
abbrev pub IsLedByBlank : List ℕ → Type 0
IsLedByBlank bs = (bs ≡ []) ⊎ ((rest : List ℕ) × (bs ≡ 32 ∷ rest))

-- the words of all activities, with blanks between them
abbrev pub schedule_line : ScheduleData → List ℕ
schedule_line s = drop 1 (schedule_text s) ++ 10 ∷ []

-- the text of an answer
abbrev pub answer_text : Answer → List ℕ
answer_text (Optimal best) = codes "optimal " ++ decimal best.makespan ++ 10 ∷ [] ++ schedule_line best.schedule
answer_text (Gap best bound) = codes "makespan " ++ decimal best.makespan ++ codes " at least " ++ decimal bound ++ 10 ∷ [] ++ schedule_line best.schedule
answer_text (AtLeast bound) = codes "at least " ++ decimal bound ++ 10 ∷ []
answer_text Infeasible = codes "infeasible" ++ 10 ∷ []

-- the line of a better schedule while workers work, as `solve` prints it
abbrev pub better_line : ℕ → ScheduleData → List ℕ
better_line makespan best = codes "makespan " ++ decimal makespan ++ codes " open" ++ schedule_text best ++ 10 ∷ []

-- ---- as one JSON object on one line

-- the seconds of a run, with a tenth
abbrev pub seconds_json : Cost → List ℕ
seconds_json c = codes ",\"seconds\":" ++ decimal c.seconds ++ codes "." ++ decimal c.tenths

-- what the run took
abbrev pub cost_json : Cost → List ℕ
cost_json c = seconds_json c ++ codes ",\"jobs\":" ++ decimal c.jobs ++ codes ",\"conflicts\":" ++ number_json c.conflicts

-- a verdict, a makespan and a bound
abbrev pub verdict_json : List ℕ → Option ℕ → Option ℕ → List ℕ
verdict_json word makespan bound =
    codes "{\"verdict\":\"" ++ word ++ codes "\",\"makespan\":" ++ number_json makespan ++ codes ",\"bound\":" ++ number_json bound

-- the object of an answer, from its parts
abbrev pub object_json : List ℕ → Option ℕ → Option ℕ → Option ScheduleData → Cost → List ℕ
object_json word makespan bound best cost =
    verdict_json word makespan bound ++ codes ",\"schedule\":" ++ schedule_json best ++ cost_json cost ++ codes "}" ++ 10 ∷ []

-- the object of an answer
abbrev pub answer_json : Answer → Cost → List ℕ
answer_json (Optimal best) cost = object_json (codes "optimal") (Some best.makespan) (Some best.makespan) (Some best.schedule) cost
answer_json (Gap best bound) cost = object_json (codes "gap") (Some best.makespan) (Some bound) (Some best.schedule) cost
answer_json (AtLeast bound) cost = object_json (codes "open") None (Some bound) None cost
answer_json Infeasible cost = object_json (codes "infeasible") None None None cost

-- ---- while workers work

-- what is told of a better schedule and a bound, if they are to be told
abbrev pub better_text : Style → BestKnown → ℕ → Cost → Option (List ℕ)
better_text Silent best bound cost = None
better_text Lines best bound cost = Some (better_line best.makespan best.schedule)
better_text Json best bound cost = Some (answer_json (Gap best bound) cost)

-- ---- the end of a run

-- the text of an answer, as JSON or as lines
abbrev pub told_text : Bool → Answer → Cost → List ℕ
told_text true answer cost = answer_json answer cost
told_text false answer cost = answer_text answer

-- a run is decided exactly by an optimal schedule, and by the lack of any
abbrev pub ended_by : Answer → ProofEnd
ended_by (Optimal best) = end.Decided
ended_by (Gap best bound) = end.Gap
ended_by (AtLeast bound) = end.Gap
ended_by Infeasible = end.Decided

-- the file is a project, an answer is true of it, the run ended by that answer, and the answer's text
-- was written. Nothing is promised of the cost
pub record IsProved (is_json : Bool) (ended : ProofEnd) (file : List ℕ) (before after : Option (List ℕ)) : Type 0 where
  pub project : ProjectData
  pub read : reading file ≡ Ok project
  pub answer : Answer
  pub holds : IsAnswer project answer
  pub decided : ended ≡ ended_by answer
  pub cost : Cost
  pub wrote : Appends before after (told_text is_json answer cost)
