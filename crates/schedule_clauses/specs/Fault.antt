-- Why something is not certified.
use Rattle.std.specs.Prelude.{◌≡◌, ⊤, ℕ, ◌-◌, ◌<◌, ◌≤◌}
use Rattle.mrcpsp.specs.Project.{ProjectData, horizon}
use Rattle.mrcpsp.specs.Schedule.{ScheduleData, IsFeasible, makespan}
use Rattle.mrcpsp.specs.Breach.{IsFirstBreach}
use Rattle.clause_proof.specs.declared.fault.ProofFault.{ProofFault}
use Rattle.clause_proof.specs.declared.fault.ProofFault.TheVariants as of_proof
use Rattle.schedule_clauses.specs.Size.{start_clauses}
use Rattle.schedule_clauses.specs.declared.size.TheConstants.{MOST_START_CLAUSES}
use Rattle.schedule_clauses.specs.declared.certificate.CertificateFault.{CertificateFault}
use Rattle.schedule_clauses.specs.declared.certificate.CertificateFault.TheVariants.{NoMemory, Horizon, TooMany, Schedule, Proof}

-- the bound is above this horizon
abbrev pub IsBeyond : ProjectData → ℕ → ℕ → Type 0
IsBeyond p bound h = (h ≡ horizon p.activities) × (h < bound)

-- the bound is within the horizon and makes n clauses on starts, and n is above the limit
abbrev pub IsTooMany : ProjectData → ℕ → ℕ → Type 0
IsTooMany p bound n = (bound ≤ horizon p.activities) × (n ≡ start_clauses p bound) × (MOST_START_CLAUSES < n)

-- there are no clauses of the bound
abbrev pub IsOfClauses : ProjectData → ℕ → CertificateFault → Type 0
IsOfClauses p bound NoMemory = ⊤
IsOfClauses p bound (Horizon h) = IsBeyond p bound h
IsOfClauses p bound (TooMany n) = IsTooMany p bound n
IsOfClauses p bound (Schedule b) = ⊥
IsOfClauses p bound (Proof f) = ⊥

-- a proof's own fault is not want of memory; any other fault may be
abbrev pub IsOfProof : ProofFault → Type 0
IsOfProof of_proof.NoMemory = ⊥
IsOfProof (of_proof.Word line) = ⊤
IsOfProof (of_proof.Unproved line) = ⊤
IsOfProof of_proof.Unfinished = ⊤

-- there are no clauses of the bound, or its proof was refused
abbrev pub IsOfBound : ProjectData → ℕ → CertificateFault → Type 0
IsOfBound p bound NoMemory = ⊤
IsOfBound p bound (Horizon h) = IsBeyond p bound h
IsOfBound p bound (TooMany n) = IsTooMany p bound n
IsOfBound p bound (Schedule b) = ⊥
IsOfBound p bound (Proof f) = IsOfProof f

-- without a bound: there is no memory, or the proof was refused
abbrev pub IsOfStocks : CertificateFault → Type 0
IsOfStocks NoMemory = ⊤
IsOfStocks (Horizon h) = ⊥
IsOfStocks (TooMany n) = ⊥
IsOfStocks (Schedule b) = ⊥
IsOfStocks (Proof f) = IsOfProof f

-- the schedule breaks this first; or it is feasible, and its proof was refused, or it is too long
-- for the clauses
abbrev pub IsOfSchedule : ProjectData → ScheduleData → CertificateFault → Type 0
IsOfSchedule p s NoMemory = ⊤
IsOfSchedule p s (Horizon h) = IsFeasible p s × IsBeyond p (makespan p s - 1) h
IsOfSchedule p s (TooMany n) = IsFeasible p s × IsTooMany p (makespan p s - 1) n
IsOfSchedule p s (Schedule b) = IsFirstBreach p s b
IsOfSchedule p s (Proof f) = IsFeasible p s × IsOfProof f
