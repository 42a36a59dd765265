-- The numbers of a multi-mode file's three sections as records, and their faults (ProGen's layout,
-- Kolisch and Sprecher 1997).
use Rattle.std.specs.Prelude.{ℕ, zero, suc, ◌+◌, Bool, not, ◌||◌, List, [], ◌∷◌, ◌++◌, length, map, take, drop, Option, Some, None, Result, Ok, Err, nat_lt, nat_le, ◌==◌, if◌then◌else◌}
use Rattle.std.specs.List.{list_any}
use Rattle.mrcpsp.specs.declared.limits.TheConstants.{MOST_ACTIVITIES, MOST_MODES, MOST_RESOURCES, MOST_AMOUNT, MOST_DURATION, MOST_HORIZON}
use Rattle.mrcpsp.specs.Project.{ModeData, ActivityData, ProjectData, is_between, horizon}
use Rattle.psplib_mm.specs.declared.cell.Cell.{Cell}
use Rattle.psplib_mm.specs.declared.fault.MmFault.{MmFault}
use Rattle.psplib_mm.specs.declared.fault.MmFault.TheVariants as fault
use Rattle.psplib_mm.specs.declared.fault.SectionName.{SectionName}
use Rattle.psplib_mm.specs.declared.fault.SectionName.TheVariants.{PrecedenceRelations, RequestsDurations, ResourceAvailabilities}
use Rattle.psplib_mm.specs.declared.fault.LimitName.{LimitName}
use Rattle.psplib_mm.specs.declared.fault.LimitName.TheVariants as limit

-- the next step reads what this one gives; the first fault ends the reading
infixl 10 ◌>>=◌
abbrev pub ◌>>=◌ : {A B : Type 0} → Result A MmFault → (A → Result B MmFault) → Result B MmFault
(Ok x) >>= f = f x
(Err e) >>= f = Err e

-- ---- the records of the sections

-- the number of words in the section differs from what its contents need
abbrev pub uneven : {A : Type 0} → SectionName → Result A MmFault
uneven name = Err (fault.Count name)

-- reads n times, one after the other: what was read, and the cells after it
abbrev pub times : {X : Type 0} → (List Cell → Result (X × List Cell) MmFault) → ℕ → List Cell → Result (List X × List Cell) MmFault
times read zero cells = Ok ([], cells)
times read (suc n) cells = do
  first ← read cells
  more ← times read n first.1
  Ok (first.0 ∷ more.0, more.1)

-- what was read, if no cell is left
abbrev pub whole : {X : Type 0} → SectionName → Result (X × List Cell) MmFault → Result X MmFault
whole name read = do
  x ← read
  if length x.1 == 0 then Ok x.0 else uneven name

-- a job of the section on precedence
pub record Job : Type 0 where
  pub job : Cell
  pub modes : Cell
  pub successors : List Cell

-- reads a job: its number, its modes, its count of successors, and these
abbrev pub job_at : List Cell → Result (Job × List Cell) MmFault
job_at [] = uneven PrecedenceRelations
job_at (job ∷ []) = uneven PrecedenceRelations
job_at (job ∷ modes ∷ []) = uneven PrecedenceRelations
job_at (job ∷ modes ∷ count ∷ cells) = if nat_lt (length cells) count.number then uneven PrecedenceRelations else
    Ok (record { job = job; modes = modes; successors = take count.number cells }, drop count.number cells)

-- the n jobs of the section, and nothing more
abbrev pub jobs_of : ℕ → List Cell → Result (List Job) MmFault
jobs_of n cells = whole PrecedenceRelations (times job_at n cells)

-- a mode of the section on requests
pub record ModeLine : Type 0 where
  pub mode : Cell
  pub duration : Cell
  pub renewable : List Cell
  pub nonrenewable : List Cell

-- reads a mode of r renewable and v nonrenewable resources
abbrev pub mode_at : ℕ → ℕ → List Cell → Result (ModeLine × List Cell) MmFault
mode_at r v [] = uneven RequestsDurations
mode_at r v (mode ∷ []) = uneven RequestsDurations
mode_at r v (mode ∷ duration ∷ cells) = if nat_lt (length cells) (r + v) then uneven RequestsDurations else
    Ok (record { mode = mode; duration = duration; renewable = take r cells; nonrenewable = take v (drop r cells) }, drop v (drop r cells))

-- a job of the section on requests
pub record Group : Type 0 where
  pub job : Cell
  pub modes : List ModeLine

-- reads a job of n modes
abbrev pub group_at : ℕ → ℕ → ℕ → List Cell → Result (Group × List Cell) MmFault
group_at r v n [] = uneven RequestsDurations
group_at r v n (job ∷ cells) = do
  modes ← times (mode_at r v) n cells
  Ok (record { job = job; modes = modes.0 }, modes.1)

-- reads a group for each job
abbrev pub groups_at : ℕ → ℕ → List Job → List Cell → Result (List Group × List Cell) MmFault
groups_at r v [] cells = Ok ([], cells)
groups_at r v (j ∷ jobs) cells = do
  first ← group_at r v j.modes.number cells
  more ← groups_at r v jobs first.1
  Ok (first.0 ∷ more.0, more.1)

-- the groups of the section, one for each job, and nothing more
abbrev pub groups_of : ℕ → ℕ → List Job → List Cell → Result (List Group) MmFault
groups_of r v jobs cells = whole RequestsDurations (groups_at r v jobs cells)

-- ---- what is wrong in them, first in text order

-- checks each with its place, from i on
abbrev pub each : {X : Type 0} → (ℕ → X → Result (Unit {0}) MmFault) → ℕ → List X → Result (Unit {0}) MmFault
each check i [] = Ok tt
each check i (x ∷ xs) = do
  _ ← check i x
  each check (i + 1) xs

-- the number of a cell has to be its place
abbrev pub in_place : ℕ → Cell → Result (Unit {0}) MmFault
in_place i c = if c.number == i then Ok tt else Err (fault.Numbering c.line)

-- the number of a job has to be its place
abbrev pub job_in_place : ℕ → Job → Result (Unit {0}) MmFault
job_in_place i j = in_place i j.job

-- the number of a mode has to be its place
abbrev pub mode_in_place : ℕ → ModeLine → Result (Unit {0}) MmFault
mode_in_place k m = in_place k m.mode

-- the number of a group, and of each of its modes, has to be its place
abbrev pub group_in_place : ℕ → Group → Result (Unit {0}) MmFault
group_in_place i g = do
  _ ← in_place i g.job
  each mode_in_place 1 g.modes

-- each successor of job i of n has to be above i, at most n, and not named before
abbrev pub follow : ℕ → ℕ → List Cell → List Cell → Result (Unit {0}) MmFault
follow n i before [] = Ok tt
follow n i before (s ∷ cells) = if nat_le s.number i || nat_lt n s.number || list_any (λ t. t.number == s.number) before then Err (fault.Successor s.line) else
    follow n i (before ++ s ∷ []) cells

-- each successor of a job has to keep this rule
abbrev pub job_follows : ℕ → ℕ → Job → Result (Unit {0}) MmFault
job_follows n i j = follow n i [] j.successors

-- ---- the project, and the limits

-- the numbers without their lines
abbrev pub numbers_of : List Cell → List ℕ
numbers_of cells = map (λ c. c.number) cells

-- the mode of a line
abbrev pub mode_of : ModeLine → ModeData
mode_of m = record { duration = m.duration.number; renewable = numbers_of m.renewable; nonrenewable = numbers_of m.nonrenewable }

-- the activities: modes from the groups, successors from the jobs
abbrev pub activities_of : List Job → List Group → List ActivityData
activities_of [] groups = []
activities_of (j ∷ jobs) [] = []
activities_of (j ∷ jobs) (g ∷ groups) = record { modes = map mode_of g.modes; successors = numbers_of j.successors } ∷ activities_of jobs groups

-- whether a mode of the project passes
abbrev pub any_mode : (ModeData → Bool) → ProjectData → Bool
any_mode p project = list_any (λ a. list_any p a.modes) project.activities

-- whether an amount is above the limit
abbrev pub any_above : ℕ → List ℕ → Bool
any_above most amounts = list_any (λ a. nat_lt most a) amounts

-- the first limit that is broken
abbrev pub first_broken : List (Bool × LimitName) → Option LimitName
first_broken [] = None
first_broken (l ∷ limits) = if l.0 then Some l.1 else first_broken limits

-- the first limit that a project breaks
abbrev pub broken : ProjectData → Option LimitName
broken p = first_broken (
    (not (is_between 1 MOST_ACTIVITIES (length p.activities)), limit.Jobs)
    ∷ (list_any (λ a. not (is_between 1 MOST_MODES (length a.modes))) p.activities, limit.Modes)
    ∷ (nat_lt MOST_RESOURCES (length p.renewable), limit.Renewable)
    ∷ (nat_lt MOST_RESOURCES (length p.nonrenewable), limit.Nonrenewable)
    ∷ (any_mode (λ m. nat_lt MOST_DURATION m.duration) p, limit.Duration)
    ∷ (any_mode (λ m. any_above MOST_AMOUNT m.renewable || any_above MOST_AMOUNT m.nonrenewable) p, limit.Request)
    ∷ (any_above MOST_AMOUNT p.renewable || any_above MOST_AMOUNT p.nonrenewable, limit.Capacity)
    ∷ (nat_lt MOST_HORIZON (horizon p.activities), limit.Horizon)
    ∷ [])

-- the project, or the fault of a broken limit
abbrev pub unless_broken : Option LimitName → ProjectData → Result ProjectData MmFault
unless_broken None p = Ok p
unless_broken (Some name) p = Err (fault.Limit name)

-- the project if it keeps all limits, or the fault of the first broken one
abbrev pub limited : ProjectData → Result ProjectData MmFault
limited p = unless_broken (broken p) p

-- there have to be `count` availabilities
abbrev pub are_enough : ℕ → List Cell → Result (Unit {0}) MmFault
are_enough count cells = if nat_lt (length cells) count then uneven ResourceAvailabilities else Ok tt

-- ---- the numbers of the sections, for n jobs, r renewable and v nonrenewable resources

-- the project that the sections spell, or the first fault in them
abbrev pub contents : ℕ → ℕ → ℕ → List Cell → List Cell → List Cell → Result ProjectData MmFault
contents n r v precedence requests availabilities = do
  jobs ← jobs_of n precedence
  groups ← groups_of r v jobs requests
  _ ← are_enough (r + v) availabilities
  _ ← each job_in_place 1 jobs
  _ ← each group_in_place 1 groups
  _ ← each (job_follows n) 1 jobs
  limited (record { activities = activities_of jobs groups; renewable = numbers_of (take r availabilities); nonrenewable = numbers_of (take v (drop r availabilities)) })
