-- The meaning of a multi-mode file: a project, or the first fault whose cause holds (ProGen's
-- layout, Kolisch and Sprecher 1997).
use Rattle.std.specs.Prelude.{ℕ, ◌+◌, Bool, not, ◌&&◌, ◌||◌, List, [], ◌∷◌, length, take, drop, is_some, Option, Some, None, Result, Ok, Err, nat_lt, ◌==◌, if◌then◌else◌, codes}
use Rattle.std.specs.List.{find, position, filter, flat_map, before_first, after_first}
use Rattle.std.specs.Option.{ok_or}
use Rattle.mrcpsp.specs.Project.{ProjectData}
use Rattle.psplib_mm.specs.declared.reading.TheConstants.{MOST_BYTES}
use Rattle.psplib_mm.specs.declared.fault.MmFault.{MmFault}
use Rattle.psplib_mm.specs.declared.fault.MmFault.TheVariants as fault
use Rattle.psplib_mm.specs.declared.fault.SectionName.{SectionName}
use Rattle.psplib_mm.specs.declared.fault.SectionName.TheVariants.{PrecedenceRelations, RequestsDurations, ResourceAvailabilities}
use Rattle.psplib_mm.specs.Text.{Piece, lines_of, words_in, first_word, without_blanks, is_same, is_skipped, number_of}
use Rattle.psplib_mm.specs.declared.cell.Cell.{Cell}
use Rattle.psplib_mm.specs.Contents.{◌>>=◌, contents}

-- ---- the head

-- whether a byte is a colon
abbrev pub is_colon : ℕ → Bool
is_colon b = b == 58

-- whether the text before the line's first colon, without blanks, is this label
abbrev pub has_label : List ℕ → Piece → Bool
has_label label line = is_some (position is_colon line.bytes) && is_same (without_blanks (before_first is_colon line.bytes)) label

-- the number that a word writes; without one the head is faulty
abbrev pub number_in : Option (List ℕ) → Result ℕ MmFault
number_in None = Err fault.Header
number_in (Some word) = ok_or (number_of word) fault.Header

-- the first word after a line's colon, as a number, or `missing` without a line
abbrev pub value_in : Option ℕ → Option Piece → Result ℕ MmFault
value_in missing None = ok_or missing fault.Header
value_in missing (Some line) = number_in (first_word (after_first is_colon line.bytes))

-- the value of the first line with this label, or `missing` without one
abbrev pub value_of : List ℕ → Option ℕ → List Piece → Result ℕ MmFault
value_of label missing head = value_in missing (find (has_label label) head)

-- the numbers of jobs and of resources
pub record Sizes : Type 0 where
  pub jobs : ℕ
  pub renewable : ℕ
  pub nonrenewable : ℕ

-- the sizes that the head gives; there have to be one project and no doubly constrained resource
abbrev pub sizes_of : List Piece → Result Sizes MmFault
sizes_of head = do
  projects ← value_of (codes "projects") (Some 1) head
  jobs ← value_of (codes "jobs(incl.supersource/sink)") None head
  renewable ← value_of (codes "-renewable") (Some 0) head
  nonrenewable ← value_of (codes "-nonrenewable") (Some 0) head
  doubly ← value_of (codes "-doublyconstrained") (Some 0) head
  if not (projects == 1) then Err fault.Projects else
      if not (doubly == 0) then Err fault.Doubly else
      Ok (record { jobs = jobs; renewable = renewable; nonrenewable = nonrenewable })

-- ---- the sections

-- the title of a section, without blanks
abbrev pub title_of : SectionName → List ℕ
title_of PrecedenceRelations = codes "PRECEDENCERELATIONS:"
title_of RequestsDurations = codes "REQUESTS/DURATIONS:"
title_of ResourceAvailabilities = codes "RESOURCEAVAILABILITIES:"

-- whether a line without blanks is this title
abbrev pub is_titled : List ℕ → Piece → Bool
is_titled title line = is_same (without_blanks line.bytes) title

-- whether a line begins this section
abbrev pub begins : SectionName → Piece → Bool
begins name line = is_titled (title_of name) line

-- whether a line begins a section of any of the four kinds
abbrev pub is_section_line : Piece → Bool
is_section_line line = is_titled (codes "PROJECTINFORMATION:") line || begins PrecedenceRelations line || begins RequestsDurations line || begins ResourceAvailabilities line

-- the lines after the first one that begins this section
abbrev pub lines_after : SectionName → List Piece → Result (List Piece) MmFault
lines_after name lines = if is_some (position (begins name) lines) then Ok (after_first (begins name) lines) else Err (fault.Section name)

-- the words of the lines that are not skipped, but for the first of these lines, the column heads
abbrev pub words_below : List Piece → List Piece
words_below lines = flat_map words_in (drop 1 (filter (λ line. not (is_skipped line.bytes)) lines))

-- the numbers that words write, each with its line, or the fault of the first word that writes none
abbrev pub cells_of : List Piece → Result (List Cell) MmFault
cells_of [] = Ok []
cells_of (word ∷ words) = do
  number ← ok_or (number_of word.bytes) (fault.Number word.line)
  more ← cells_of words
  Ok (record { line = word.line; number = number } ∷ more)

-- ---- the text

-- the project that the lines of a text spell, or the first fault
abbrev pub meaning : List Piece → Result ProjectData MmFault
meaning lines = do
  sizes ← sizes_of (before_first is_section_line lines)
  below_precedence ← lines_after PrecedenceRelations lines
  below_requests ← lines_after RequestsDurations below_precedence
  below_availabilities ← lines_after ResourceAvailabilities below_requests
  precedence ← cells_of (words_below (before_first (begins RequestsDurations) below_precedence))
  requests ← cells_of (words_below (before_first (begins ResourceAvailabilities) below_requests))
  availabilities ← cells_of (take (sizes.renewable + sizes.nonrenewable) (words_below below_availabilities))
  contents sizes.jobs sizes.renewable sizes.nonrenewable precedence requests availabilities

-- the project that a text spells, or the first fault
abbrev pub reading : List ℕ → Result ProjectData MmFault
reading text = if nat_lt MOST_BYTES (length text) then Err fault.TooLong else meaning (lines_of text)
