-- What `verify`, `draw` and `solve` write of the bytes that they read, and why they stop.
use Rattle.std.specs.Prelude.{◌≡◌, ℕ, Bool, true, false, List, [], ◌∷◌, ◌++◌, ⊤, Ok, codes, decimal}
use Rattle.mrcpsp.specs.Project.{ProjectData}
use Rattle.mrcpsp.specs.Schedule.{IsFeasible}
use Rattle.psplib_mm.specs.Gives.{Fails}
use Rattle.psplib_mm.specs.Reading.{reading}
use Rattle.solve_cli.specs.FoundText.{found_text, found_json}
use Rattle.solve_cli.specs.Portfolio.{IsFoundByEach}
use Rattle.solve_cli.specs.Verified.{IsVerified}
use Rattle.solve_cli.specs.declared.fault.VerifyFault.{VerifyFault}
use Rattle.solve_cli.specs.declared.fault.VerifyFault.TheVariants as verify
use Rattle.solve_cli.specs.declared.search_kinds.SearchKind.{SearchKind}
use Rattle.solve_cli.specs.declared.search_result.SearchResult.{SearchResult}
use Rattle.solve_cli.specs.declared.verification.Verified.{Verified}

-- ---- a project's file and a schedule's text

-- a text that Tells holds of, for a feasible schedule
pub record IsReported (Tells : Verified → List ℕ → Type 0) (file text shown : List ℕ) : Type 0 where
  pub verified : Verified
  pub is : IsVerified file text verified
  pub tells : Tells verified shown

-- the line of the schedule's makespan
abbrev pub TellsMakespan : Verified → List ℕ → Type 0
TellsMakespan v shown = shown ≡ codes "feasible makespan " ++ decimal v.makespan ++ 10 ∷ []

-- any text, of a feasible schedule
abbrev pub IsOfFeasible : Verified → List ℕ → Type 0
IsOfFeasible v shown = IsFeasible v.project v.schedule

-- ---- a project's file alone

-- the file is at fault, or there was no memory
abbrev pub IsOfFile : VerifyFault → List ℕ → Type 0
IsOfFile (verify.File fault) file = Fails fault (reading file)
IsOfFile verify.Words file = ⊥
IsOfFile verify.TooLong file = ⊥
IsOfFile (verify.Breach breach) file = ⊥
IsOfFile verify.NoMemory file = ⊤

-- the text of a result, as JSON or as lines
abbrev pub told_text : Bool → SearchResult → List ℕ
told_text true found = found_json found
told_text false found = found_text found

-- which searches are asked for, the most nodes of each, and the form of their result
pub record SolveAsked : Type 0 where
  pub kinds : List SearchKind
  pub most : ℕ
  pub is_json : Bool

-- the result of these searches for the file's project
pub record IsSolved (asked : SolveAsked) (file shown : List ℕ) : Type 0 where
  pub project : ProjectData
  pub read : reading file ≡ Ok project
  pub found : SearchResult
  pub finds : IsFoundByEach project asked.kinds asked.most found
  pub tells : shown ≡ told_text asked.is_json found
