-- What the reader keeps between two steps over a text, for contracts of private functions.
use Rattle.std.specs.Prelude.{◌≡◌, ℕ, ◌+◌, ◌-◌, ◌^◌, min, Bool, not, ◌||◌, List, [], ◌∷◌, ◌++◌, length, map, take, drop, Option, Some, None, Result, Ok, Err, nat_lt, ◌==◌, codes, if◌then◌else◌}
use Rattle.std.specs.Option.{option_or}
use Rattle.std.specs.List.{find, list_any, position_or_len, before_first}
use Rattle.mrcpsp.specs.declared.limits.TheConstants.{MOST_ACTIVITIES, MOST_MODES, MOST_RESOURCES, MOST_AMOUNT, MOST_DURATION, MOST_HORIZON}
use Rattle.mrcpsp.specs.Project.{ProjectData, is_between, horizon}
use Rattle.psplib_mm.specs.declared.cell.Cell.{Cell}
use Rattle.psplib_mm.specs.declared.fault.MmFault.{MmFault}
use Rattle.psplib_mm.specs.declared.fault.MmFault.TheVariants as fault
use Rattle.psplib_mm.specs.declared.fault.LimitName.{LimitName}
use Rattle.psplib_mm.specs.declared.fault.LimitName.TheVariants as limit
use Rattle.psplib_mm.specs.Text.{Piece, lines_from}
use Rattle.psplib_mm.specs.declared.fault.SectionName.TheVariants.{PrecedenceRelations, RequestsDurations, ResourceAvailabilities}
use Rattle.psplib_mm.specs.Contents.{◌>>=◌, Job, any_mode, any_above, first_broken, contents}
use Rattle.psplib_mm.specs.Reading.{Sizes, sizes_of, has_label, value_in, begins, is_section_line, lines_after, words_below, cells_of}

-- the first item of a cursor is taken, if one is left
abbrev pub Takes : {X : Type 0} → Option X → List X → List X → Type 0
Takes None old new = (old ≡ []) × (new ≡ [])
Takes (Some x) old new = old ≡ x ∷ new

-- ---- lines

-- the lines of the bytes that are left, the first of which has number n
abbrev pub lines_left : ℕ → Option (List ℕ) → List Piece
lines_left n None = []
lines_left n (Some bytes) = lines_from n bytes

-- the number of bytes that are left
abbrev pub bytes_left : Option (List ℕ) → ℕ
bytes_left None = 0
bytes_left (Some bytes) = length bytes

-- the lines from the first one that passes on
abbrev pub from_first : (Piece → Bool) → List Piece → List Piece
from_first p lines = drop (position_or_len p lines) lines

-- ---- the head

-- the first line with each label
pub record HeadLines : Type 0 where
  pub projects : Option Piece
  pub jobs : Option Piece
  pub renewable : Option Piece
  pub nonrenewable : Option Piece
  pub doubly : Option Piece

-- the first line with each label among these lines
abbrev pub head_lines : List Piece → HeadLines
head_lines lines = record {
  projects = find (has_label (codes "projects")) lines;
  jobs = find (has_label (codes "jobs(incl.supersource/sink)")) lines;
  renewable = find (has_label (codes "-renewable")) lines;
  nonrenewable = find (has_label (codes "-nonrenewable")) lines;
  doubly = find (has_label (codes "-doublyconstrained")) lines;
}

-- the lines of `first`, or else the lines of `others`
abbrev pub first_lines : HeadLines → HeadLines → HeadLines
first_lines first others = record {
  projects = option_or first.projects others.projects;
  jobs = option_or first.jobs others.jobs;
  renewable = option_or first.renewable others.renewable;
  nonrenewable = option_or first.nonrenewable others.nonrenewable;
  doubly = option_or first.doubly others.doubly;
}

-- the sizes that the lines of the head give
abbrev pub sizes_at : HeadLines → Result Sizes MmFault
sizes_at head = do
  projects ← value_in (Some 1) head.projects
  jobs ← value_in None head.jobs
  renewable ← value_in (Some 0) head.renewable
  nonrenewable ← value_in (Some 0) head.nonrenewable
  doubly ← value_in (Some 0) head.doubly
  if not (projects == 1) then Err fault.Projects else
      if not (doubly == 0) then Err fault.Doubly else
      Ok (record { jobs = jobs; renewable = renewable; nonrenewable = nonrenewable })

-- ---- numbers, kept at most at the greatest u32

-- a cell as the code keeps it
abbrev pub capped : Cell → Cell
capped c = record { line = c.line; number = min (2 ^ 32 - 1) c.number }

-- cells as the code keeps them
abbrev pub all_capped : Result (List Cell) MmFault → Result (List Cell) MmFault
all_capped read = read >>= λ cells. Ok (map capped cells)

-- a number as the code keeps it
abbrev pub cap : ℕ → ℕ
cap n = min (2 ^ 32 - 1) n

-- a value as the code keeps it
abbrev pub capped_number : Result ℕ MmFault → Result ℕ MmFault
capped_number read = read >>= λ n. Ok (cap n)

-- sizes as the code keeps them
abbrev pub capped_sizes : Result Sizes MmFault → Result Sizes MmFault
capped_sizes read = read >>= λ s. Ok (record { jobs = cap s.jobs; renewable = cap s.renewable; nonrenewable = cap s.nonrenewable })

-- the meaning, with each number as the code keeps it
abbrev pub capped_meaning : List Piece → Result ProjectData MmFault
capped_meaning lines = do
  sizes ← capped_sizes (sizes_of (before_first is_section_line lines))
  below_precedence ← lines_after PrecedenceRelations lines
  below_requests ← lines_after RequestsDurations below_precedence
  below_availabilities ← lines_after ResourceAvailabilities below_requests
  precedence ← all_capped (cells_of (words_below (before_first (begins RequestsDurations) below_precedence)))
  requests ← all_capped (cells_of (words_below (before_first (begins ResourceAvailabilities) below_requests)))
  availabilities ← all_capped (cells_of (take (sizes.renewable + sizes.nonrenewable) (words_below below_availabilities)))
  contents sizes.jobs sizes.renewable sizes.nonrenewable precedence requests availabilities

-- ---- the numbers of a section

-- the cells of words, as the code keeps them
abbrev pub kept_cells : List Piece → Result (List Cell) MmFault
kept_cells words = all_capped (cells_of words)

-- the cells, or the fault of a word on this line that is no number
abbrev pub cells_or : Option ℕ → List Cell → Result (List Cell) MmFault
cells_or None cells = Ok cells
cells_or (Some line) cells = Err (fault.Number line)

-- the cells of both, or the first fault
abbrev pub joined : Result (List Cell) MmFault → Result (List Cell) MmFault → Result (List Cell) MmFault
joined first others = do
  cells ← first
  more ← others
  Ok (cells ++ more)

-- with the cells of further words, up to `most` cells
abbrev pub joined_up_to : ℕ → Result (List Cell) MmFault → List Piece → Result (List Cell) MmFault
joined_up_to most first words = do
  cells ← first
  more ← kept_cells (take (most - length cells) words)
  Ok (cells ++ more)

-- what was read, or nothing
abbrev pub records : {X : Type 0} → Result (List X × List Cell) MmFault → List X
records (Ok read) = read.0
records (Err fault) = []

-- ---- limits

-- the first broken limit on the numbers of jobs, modes and resources
abbrev pub broken_count : List Job → ℕ → ℕ → Option LimitName
broken_count jobs r v = first_broken (
    (not (is_between 1 MOST_ACTIVITIES (length jobs)), limit.Jobs)
    ∷ (list_any (λ j. not (is_between 1 MOST_MODES j.modes.number)) jobs, limit.Modes)
    ∷ (nat_lt MOST_RESOURCES r, limit.Renewable)
    ∷ (nat_lt MOST_RESOURCES v, limit.Nonrenewable)
    ∷ [])

-- the first broken limit on durations, requests, capacities and the horizon
abbrev pub broken_amount : ProjectData → Option LimitName
broken_amount p = first_broken (
    (any_mode (λ m. nat_lt MOST_DURATION m.duration) p, limit.Duration)
    ∷ (any_mode (λ m. any_above MOST_AMOUNT m.renewable || any_above MOST_AMOUNT m.nonrenewable) p, limit.Request)
    ∷ (any_above MOST_AMOUNT p.renewable || any_above MOST_AMOUNT p.nonrenewable, limit.Capacity)
    ∷ (nat_lt MOST_HORIZON (horizon p.activities), limit.Horizon)
    ∷ [])
