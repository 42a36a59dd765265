-- What a line of a certificate means, and why the commands of certificates refuse the bytes that
-- they read.
use Rattle.std.specs.Prelude.{◌≡◌, ◌⊎◌, ℕ, ◌<◌, ◌≤◌, List, ◌∷◌, ◌++◌, [], Ok, codes, decimal, ◌-◌, length, ⊤}
use Rattle.mrcpsp.specs.Project.{ProjectData, horizon}
use Rattle.mrcpsp.specs.Schedule.{ScheduleData, IsOptimal, IsInfeasible, makespan}
use Rattle.mrcpsp.specs.Values.{bound}
use Rattle.price_search.specs.LowerBound.{TakesAtLeast}
use Rattle.psplib_mm.specs.Gives.{Fails}
use Rattle.psplib_mm.specs.Reading.{reading}
use Rattle.schedule_files.specs.Places.{IsUntold}
use Rattle.schedule_files.specs.ScheduleText.{Tells}
use Rattle.schedule_files.specs.declared.reading.TheConstants.{MOST_BYTES}
use Rattle.schedule_clauses.specs.declared.certificate.CertificateFault.{CertificateFault}
use Rattle.schedule_clauses.specs.Fault.{IsOfBound, IsOfStocks, IsOfSchedule}
use Rattle.file_commands.specs.declared.ending.CommandFault.{CommandFault}
use Rattle.file_commands.specs.declared.ending.CommandFault.TheVariants as ended
use Rattle.certify_cli.specs.declared.fault.CertifyFault.{CertifyFault}
use Rattle.certify_cli.specs.declared.fault.CertifyFault.TheVariants as why

-- the line of an optimal makespan
abbrev pub optimal_line : ℕ → List ℕ
optimal_line makespan = codes "optimal " ++ decimal makespan ++ 10 ∷ []

-- the file is a project, the text writes an optimal schedule of it, and this is the line of its
-- makespan
pub record CertifiesOptimal (file text line : List ℕ) : Type 0 where
  pub project : ProjectData
  pub schedule : ScheduleData
  pub read : reading file ≡ Ok project
  pub told : Tells text schedule
  pub optimal : IsOptimal project schedule
  pub tells : line ≡ optimal_line (makespan project schedule)

-- the file is a project without a feasible schedule, and the line is `infeasible`
pub record CertifiesInfeasible (file line : List ℕ) : Type 0 where
  pub project : ProjectData
  pub read : reading file ≡ Ok project
  pub infeasible : IsInfeasible project
  pub tells : line ≡ codes "infeasible" ++ 10 ∷ []

-- the line of a lower bound
abbrev pub bound_line : ℕ → List ℕ
bound_line periods = codes "at least " ++ decimal periods ++ 10 ∷ []

-- no feasible schedule of the file's project takes fewer periods, and the line is `at least` with
-- their number
pub record CertifiesBound (periods : ℕ) (file line : List ℕ) : Type 0 where
  pub project : ProjectData
  pub read : reading file ≡ Ok project
  pub least : TakesAtLeast project periods
  pub tells : line ≡ bound_line periods

-- the line of a bound of the file's project that no feasible schedule is below: the critical path by
-- shortest durations (Kelley and Walker 1959), or more if prices were looked for by some steps. Then
-- it is no longer than the horizon
pub record TellsLeast (steps : ℕ) (file line : List ℕ) : Type 0 where
  pub project : ProjectData
  pub periods : ℕ
  pub read : reading file ≡ Ok project
  pub least : TakesAtLeast project periods
  pub chain : bound project ≤ periods
  pub alone : steps ≡ 0 → periods ≡ bound project
  pub within : 0 < steps → periods ≤ horizon project.activities
  pub tells : line ≡ bound_line periods

-- the line of such a bound; or prices were looked for, and show that no schedule is feasible
abbrev pub CertifiesLeast : ℕ → List ℕ → List ℕ → Type 0
CertifiesLeast steps file line = TellsLeast steps file line ⊎ ((0 < steps) × CertifiesInfeasible file line)

-- the file is a project
pub record IsFile (file : List ℕ) : Type 0 where
  pub project : ProjectData
  pub read : reading file ≡ Ok project

-- a fault of the file is that of its bytes; any other fault but want of memory comes only if the
-- file is a project
abbrev pub IsOfFile : CertifyFault → List ℕ → Type 0
IsOfFile (why.File fault) file = Fails fault (reading file)
IsOfFile why.Words file = IsFile file
IsOfFile why.TooLong file = IsFile file
IsOfFile (why.Certificate fault) file = IsFile file
IsOfFile why.NoMemory file = ⊤

-- why the schedule of the text is not certified for the file's project
pub record IsUncertified (file text : List ℕ) (fault : CertificateFault) : Type 0 where
  pub project : ProjectData
  pub schedule : ScheduleData
  pub read : reading file ≡ Ok project
  pub told : Tells text schedule
  pub of_schedule : IsOfSchedule project schedule fault

-- a text without a schedule holds none; a fault of the certificate is that of the schedule
abbrev pub IsOfText : CertifyFault → List ℕ → List ℕ → Type 0
IsOfText (why.File fault) file text = ⊤
IsOfText why.Words file text = (length text ≤ MOST_BYTES) × IsUntold (Tells text)
IsOfText why.TooLong file text = MOST_BYTES < length text
IsOfText (why.Certificate fault) file text = IsUncertified file text fault
IsOfText why.NoMemory file text = ⊤

-- without a schedule, a certificate's fault is never a missing schedule, a breach or a horizon
abbrev pub IsOfProofAlone : CertifyFault → Type 0
IsOfProofAlone (why.File fault) = ⊤
IsOfProofAlone why.Words = ⊥
IsOfProofAlone why.TooLong = ⊥
IsOfProofAlone (why.Certificate fault) = IsOfStocks fault
IsOfProofAlone why.NoMemory = ⊤

-- why no proof shows that each feasible schedule of the file's project takes `periods` periods
pub record IsUnbounded (file : List ℕ) (periods : ℕ) (fault : CertificateFault) : Type 0 where
  pub project : ProjectData
  pub read : reading file ≡ Ok project
  pub of_bound : IsOfBound project (periods - 1) fault

-- a fault of a bound is that of its clauses or of its proof
abbrev pub IsOfPeriods : CertifyFault → List ℕ → ℕ → Type 0
IsOfPeriods (why.File fault) file periods = ⊤
IsOfPeriods why.Words file periods = ⊥
IsOfPeriods why.TooLong file periods = ⊥
IsOfPeriods (why.Certificate fault) file periods = IsUnbounded file periods fault
IsOfPeriods why.NoMemory file periods = ⊤

-- with neither a schedule nor a proof, only the file can be at fault
abbrev pub IsOfFileAlone : CertifyFault → Type 0
IsOfFileAlone (why.File fault) = ⊤
IsOfFileAlone why.Words = ⊥
IsOfFileAlone why.TooLong = ⊥
IsOfFileAlone (why.Certificate fault) = ⊥
IsOfFileAlone why.NoMemory = ⊤

-- a fault of a command that writes clauses: of the file, or a failed write
abbrev pub IsClausesFault : CommandFault CertifyFault → List ℕ → Type 0
IsClausesFault (ended.File kind) file = ⊥
IsClausesFault (ended.Text kind) file = ⊥
IsClausesFault (ended.Other kind) file = ⊥
IsClausesFault (ended.Refused fault) file = IsOfFile fault file
IsClausesFault ended.Write file = ⊤
