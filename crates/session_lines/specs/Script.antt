-- How the bytes of a script are cut into requests.
use Rattle.std.specs.Prelude.{◌≡◌, ℕ, ◌+◌, ◌-◌, ◌≤◌, Bool, false, ◌||◌, ◌==◌, nat_lt, List, [], ◌∷◌, ◌++◌, length, if◌then◌else◌, Option, Some, None, option_map, Result, Ok, Err, ⊤}
use Rattle.std.specs.List.{list_all}
use Rattle.std.specs.Io.BufRead.{strip_last}
use Rattle.mrcpsp.specs.Project.{ProjectData}
use Rattle.psplib_mm.specs.Text.{is_blank}
use Rattle.psplib_mm.specs.Reading.{reading}
use Rattle.psplib_mm.specs.declared.fault.MmFault.{MmFault}
use Rattle.psplib_mm.specs.declared.fault.MmFault.TheVariants as fault
use Rattle.session_lines.specs.declared.request.Request.{Request}
use Rattle.session_lines.specs.declared.request.What.TheVariants.{Submit}
use Rattle.session_lines.specs.declared.request.LineFault.{LineFault}
use Rattle.session_lines.specs.declared.request.LineFault.TheVariants.{Eof, Read, TooLong, Syntax, File, NoMemory}
use Rattle.session_lines.specs.declared.line.SubmitLine.{SubmitLine}
use Rattle.session_lines.specs.declared.line.LineMeaning.{LineMeaning}
use Rattle.session_lines.specs.declared.line.LineMeaning.TheVariants.{Blank, Whole, Opens, Long, Bad}
use Rattle.session_lines.specs.declared.text.TheConstants.{LONGEST}
use Rattle.session_lines.specs.Known.{Goes}
use Rattle.session_lines.specs.RequestLine.{meaning_of}

-- ---- lines

-- the lines with byte x in front of the first one
abbrev pub onto : ℕ → List (List ℕ) → List (List ℕ)
onto x [] = (x ∷ []) ∷ []
onto x (line ∷ lines) = (x ∷ line) ∷ lines

-- the lines of bytes, each with its line feed; bytes behind the last line feed are a line too
abbrev pub lines_of : List ℕ → List (List ℕ)
lines_of [] = []
lines_of (x ∷ xs) = if x == 10 then (x ∷ []) ∷ lines_of xs else onto x (lines_of xs)

-- a line without its line feed, and without the carriage return before it
abbrev pub shown : List ℕ → List ℕ
shown line = strip_last 13 (strip_last 10 line)

-- whether a line has more than 4,096 bytes
abbrev pub is_long : List ℕ → Bool
is_long line = nat_lt LONGEST (length (shown line))

-- whether a line has no byte but blanks
abbrev pub is_wordless : List ℕ → Bool
is_wordless line = list_all is_blank (shown line)

-- the meaning of a line: without a word it means nothing, however long it is
abbrev pub judged : List ℕ → LineMeaning
judged line = if is_long line then (if is_wordless line then Blank else Long) else meaning_of (shown line)

-- ---- the text of a submit

-- a submit's text: its first line, the lines that are missing, whether one so far is long, and the
-- bytes so far
pub record TextData : Type 0 where
  pub head : SubmitLine
  pub left : ℕ
  pub is_long : Bool
  pub bytes : List ℕ

-- the text of a submit before its first line
abbrev pub opened_text : SubmitLine → TextData
opened_text head = record { head = head; left = head.lines; is_long = false; bytes = [] }

-- the text with one more line
abbrev pub with_line : TextData → List ℕ → TextData
with_line text line = record text { left = text.left - 1; is_long = text.is_long || is_long line; bytes = text.bytes ++ line }

-- ---- requests

-- a request of a script: its answer, the request or a fault; and its tenant, if it is a submit,
-- whose text takes memory
pub record Item : Type 0 where
  pub submits : Option (List ℕ)
  pub answer : Result Request LineFault

-- a request other than a submit
abbrev pub plain : Result Request LineFault → Item
plain answer = record { submits = None; answer = answer }

-- the answer of a submit, by what its text spells
abbrev pub submitted : SubmitLine → Result ProjectData MmFault → Result Request LineFault
submitted head (Ok project) = Ok (record { who = head.who; what = Submit head.kind head.quanta project })
submitted head (Err fault) = Err (File head.who fault)

-- the request of a whole text
abbrev pub whole_text : TextData → Item
whole_text text = record {
  submits = Some text.head.who;
  answer = if text.is_long then Err (TooLong (Some text.head.who)) else submitted text.head (reading text.bytes);
}

-- the request of a text that is cut by the end of the script
abbrev pub cut_text : TextData → Item
cut_text text = record {
  submits = Some text.head.who;
  answer = if text.is_long then Err (TooLong (Some text.head.who)) else Err (Syntax (Some text.head.who));
}

-- a request, and the lines after it
pub record Found : Type 0 where
  pub item : Item
  pub rest : List (List ℕ)

-- a request was found
abbrev pub found : Item → List (List ℕ) → Option Found
found item rest = Some (record { item = item; rest = rest })

-- after one more line: the text whose lines go on, and the request that is whole with this line, if
-- there is one
pub record After : Type 0 where
  pub text : Option TextData
  pub whole : Option Item

-- what a line outside of a text begins or is; a blank line belongs to the request after it
abbrev pub outside_text : LineMeaning → After
outside_text Blank = record { text = None; whole = None }
outside_text (Whole request) = record { text = None; whole = Some (plain (Ok request)) }
outside_text (Opens head) = record { text = Some (opened_text head); whole = None }
outside_text Long = record { text = None; whole = Some (plain (Err (TooLong None))) }
outside_text (Bad who) = record { text = None; whole = Some (plain (Err (Syntax who))) }

-- what a text is with its newest line: whole if that is its last one
abbrev pub inside_text : TextData → After
inside_text text = if text.left == 0 then record { text = None; whole = Some (whole_text text) } else record { text = Some text; whole = None }

-- what a line does, inside or outside of a text
abbrev pub after : Option TextData → List ℕ → After
after None line = outside_text (judged line)
after (Some text) line = inside_text (with_line text line)

-- the request that is whole with a line, or what later lines give
abbrev pub first_or : Option Item → List (List ℕ) → Option Found → Option Found
first_or None lines later = later
first_or (Some item) lines later = found item lines

-- the first request of lines, and the lines after it; the first lines may belong to a text, and the
-- end cuts it
abbrev pub first : Option TextData → List (List ℕ) → Option Found
first text [] = first_or (option_map cut_text text) [] None
first text (line ∷ lines) = first_or (after text line).whole lines (first (after text line).text lines)

-- the first request of bytes, and the lines after it
abbrev pub first_request : List ℕ → Option Found
first_request bytes = first None (lines_of bytes)

-- the request that is whole with a line, if there is one, before later ones
abbrev pub before : Option Item → List Item → List Item
before None later = later
before (Some item) later = item ∷ later

-- all requests of lines, of which the first may belong to a text
abbrev pub requests : Option TextData → List (List ℕ) → List Item
requests text [] = before (option_map cut_text text) []
requests text (line ∷ lines) = before (after text line).whole (requests (after text line).text lines)

-- the requests of a script
abbrev pub requests_of : List ℕ → List Item
requests_of bytes = requests None (lines_of bytes)

-- ---- what a reader gives

-- an answer for a request: its own, or *no memory* for a submit; want of memory is never reported
-- as a fault of the text
abbrev pub IsAnswerFor : Item → Result Request LineFault → Type 0
IsAnswerFor item (Ok request) = item.answer ≡ Ok request
IsAnswerFor item (Err Eof) = ⊥
IsAnswerFor item (Err Read) = ⊥
IsAnswerFor item (Err (TooLong who)) = item.answer ≡ Err (TooLong who)
IsAnswerFor item (Err (Syntax who)) = item.answer ≡ Err (Syntax who)
IsAnswerFor item (Err (File who fault.NoMemory)) = ⊥
IsAnswerFor item (Err (File who fault)) = item.answer ≡ Err (File who fault)
IsAnswerFor item (Err (NoMemory who)) = item.submits ≡ Some who

-- a request is answered, of at most `most` bytes; of the bytes xs, ys are left
pub record Cuts (most : ℕ) (found : Option Found) (answer : Result Request LineFault) (xs ys : List ℕ) : Type 0 where
  pub item : Item
  pub cut : found ≡ Some (record { item = item; rest = lines_of ys })
  pub answers : IsAnswerFor item answer
  pub within : length xs ≤ length ys + most

-- no request is left
pub record Ends (most : ℕ) (found : Option Found) (xs ys : List ℕ) : Type 0 where
  pub none : found ≡ None
  pub over : ys ≡ []
  pub within : length xs ≤ most

-- the answer of a read, and the bytes that it takes, if they are known; the first lines may belong
-- to a text that is being read
abbrev pub Takes : ℕ → Option TextData → Option (List ℕ) → Option (List ℕ) → Result Request LineFault → Type 0
Takes most text old new (Err Read) = ⊤
Takes most text old new (Err Eof) = Goes old new (λ xs ys. Ends most (first text (lines_of xs)) xs ys)
Takes most text old new answer = Goes old new (λ xs ys. Cuts most (first text (lines_of xs)) answer xs ys)
