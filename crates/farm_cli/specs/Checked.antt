-- What `farm check` writes of the bytes of a file, and why it stops.
use Rattle.std.specs.Prelude.{◌≡◌, ℕ, List, [], ◌∷◌, ◌++◌, ⊤, Option, Result, Ok, IfSome, take}
use Rattle.std.specs.Io.KnownBytes.{Appends}
use Rattle.mrcpsp.specs.Project.{ProjectData}
use Rattle.psplib_mm.specs.Gives.{Fails}
use Rattle.psplib_mm.specs.Reading.{reading}
use Rattle.file_commands.specs.Counts.{CommandCounts}
use Rattle.file_commands.specs.Ending.{IsEndOf, IsUnwritten, file_alone}
use Rattle.file_commands.specs.declared.ending.CommandFault.{CommandFault}
use Rattle.file_commands.specs.declared.inputs.TheConstants.{MOST_TEXT}
use Rattle.farm_cli.specs.Summary.{summary_of, summary_text}
use Rattle.farm_cli.specs.declared.checking.CheckFault.{CheckFault}

-- the line of a project
abbrev pub project_line : ProjectData → List ℕ
project_line p = summary_text (summary_of p) ++ 10 ∷ []

-- the file is a project, and its line was written
pub record IsSummed (file : List ℕ) (before after : Option (List ℕ)) : Type 0 where
  pub project : ProjectData
  pub read : reading file ≡ Ok project
  pub wrote : Appends before after (project_line project)

-- how a check of the first `MOST_TEXT` bytes ends: with its project's line, or with a fault
abbrev pub IsCheckOf : Result ⊤ (CommandFault CheckFault) → CommandCounts → CommandCounts → Option (List ℕ) → Option (List ℕ) → Option (List ℕ) → Type 0
IsCheckOf ended from seen bytes before after =
    IsEndOf file_alone (IfSome bytes (λ all. IsSummed (take MOST_TEXT all) before after))
    (λ why. IsUnwritten from seen before after × IfSome bytes (λ all. Fails why.fault (reading (take MOST_TEXT all)))) ended from seen before after
