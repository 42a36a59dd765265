-- The PSPLIB's multi-mode files as texts of lines, and lines of words (ProGen's layout, Kolisch and
-- Sprecher 1997).
use Rattle.std.specs.Prelude.{ℕ, ◌+◌, Bool, not, ◌&&◌, ◌||◌, List, [], ◌∷◌, length, map, Option, Some, None, nat_eq, ◌==◌, if◌then◌else◌}
use Rattle.std.specs.Char.{is_ascii_digit}
use Rattle.std.specs.Cmp.Lexicographic.{pointwise}
use Rattle.std.specs.List.{filter, find, list_all, before_first, slice_split}
use Rattle.std.specs.Str.Lines.{strip_carriage_return}
use Rattle.std.specs.Str.Parse.{digits_value}

-- a line or a word, with the number of the line
pub record Piece : Type 0 where
  pub line : ℕ
  pub bytes : List ℕ

-- lines with their numbers, from n on
abbrev pub numbered : ℕ → List (List ℕ) → List Piece
numbered n [] = []
numbered n (l ∷ ls) = record { line = n; bytes = l } ∷ numbered (n + 1) ls

-- whether a byte is a line feed
abbrev pub is_line_feed : ℕ → Bool
is_line_feed b = b == 10

-- the lines of bytes, the first of which has number n; a line ends with LF, and loses the CR at its
-- end
abbrev pub lines_from : ℕ → List ℕ → List Piece
lines_from n bytes = numbered n (map strip_carriage_return (slice_split is_line_feed bytes))

-- whether a byte ends the text
abbrev pub is_text_end : ℕ → Bool
is_text_end b = b == 26

-- the lines of a text, which ends before its first byte 0x1A
abbrev pub lines_of : List ℕ → List Piece
lines_of text = lines_from 1 (before_first is_text_end text)

-- whether a byte is a space or a tab
abbrev pub is_blank : ℕ → Bool
is_blank b = (b == 32) || (b == 9)

-- whether a byte is one of a word
abbrev pub is_other : ℕ → Bool
is_other b = not (is_blank b)

-- whether a part of a line has a byte
abbrev pub is_word : List ℕ → Bool
is_word part = not (length part == 0)

-- the words of a line: its longest runs of bytes that are no blanks
abbrev pub words_of : List ℕ → List (List ℕ)
words_of line = filter is_word (slice_split is_blank line)

-- the words of a line, each with the line's number
abbrev pub words_in : Piece → List Piece
words_in line = map (λ word. record { line = line.line; bytes = word }) (words_of line.bytes)

-- the first word of a line
abbrev pub first_word : List ℕ → Option (List ℕ)
first_word line = find is_word (slice_split is_blank line)

-- a line without its blanks
abbrev pub without_blanks : List ℕ → List ℕ
without_blanks line = filter is_other line

-- whether two texts are equal
abbrev pub is_same : List ℕ → List ℕ → Bool
is_same a b = pointwise nat_eq a b

-- whether a line has no word, or is a rule of stars or dashes
abbrev pub is_skipped : List ℕ → Bool
is_skipped line = list_all (λ b. b == 42) (without_blanks line) || list_all (λ b. b == 45) (without_blanks line)

-- the number that a word of digits writes, whatever its length
abbrev pub number_of : List ℕ → Option ℕ
number_of word = if not (length word == 0) && list_all is_ascii_digit word then Some (digits_value 10 word) else None
