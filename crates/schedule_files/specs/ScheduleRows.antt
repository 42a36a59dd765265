-- The places that the words of a text write, as 3:1:7, and the lines of a text, as 3,1,7.
use Rattle.std.specs.Prelude.{ℕ, ◌-◌, Bool, not, List, [], ◌∷◌, length, take, drop, get_or, Option, option_map, Some, ◌==◌}
use Rattle.std.specs.Char.{is_ascii_digit, is_ascii_whitespace}
use Rattle.std.specs.Option.{option_map_or}
use Rattle.std.specs.List.{filter, list_any, prefix_len, suffix_len, before_first, after_first, slice_split}
use Rattle.psplib_mm.specs.Text as mm
use Rattle.schedule_files.specs.Places.{◌>>=◌, counted}
use Rattle.schedule_files.specs.declared.places.ScheduleEntry.{ScheduleEntry}

-- whether a part of a text has a byte
abbrev pub is_word : List ℕ → Bool
is_word part = not (length part == 0)

-- the words of a text: its longest runs of bytes that are no white space of ASCII
abbrev pub words_of : List ℕ → List (List ℕ)
words_of text = filter is_word (slice_split is_ascii_whitespace text)

-- whether a line has a digit, and so is neither empty nor a line of heads
abbrev pub has_digit : List ℕ → Bool
has_digit line = list_any is_ascii_digit line

-- the rows of a text: its lines with a digit
abbrev pub rows_of : List ℕ → List (List ℕ)
rows_of text = filter has_digit (slice_split (λ b. b == 10) text)

-- a text without the white space at its beginning
abbrev pub without_front : List ℕ → List ℕ
without_front text = drop (prefix_len is_ascii_whitespace text) text

-- a text without the white space at its end
abbrev pub without_back : List ℕ → List ℕ
without_back text = take (length text - suffix_len is_ascii_whitespace text) text

-- a text without the white space at both ends
abbrev pub trimmed : List ℕ → List ℕ
trimmed text = without_back (without_front text)

-- the number that digits write
abbrev pub number_of : List ℕ → Option ℕ
number_of word = option_map counted (mm.number_of word)

-- the number that digits write, with or without white space around them
abbrev pub number_in : List ℕ → Option ℕ
number_in text = number_of (trimmed text)

-- the text before the first mark
abbrev pub before : ℕ → List ℕ → List ℕ
before mark text = before_first (λ b. b == mark) text

-- the text behind the first mark
abbrev pub behind : ℕ → List ℕ → List ℕ
behind mark text = after_first (λ b. b == mark) text

-- an activity, its mode and its start, with a mark between each two
abbrev pub place_at : ℕ → List ℕ → Option ScheduleEntry
place_at mark text = do
  activity ← number_in (before mark text)
  mode ← number_in (before mark (behind mark text))
  start ← number_in (behind mark (behind mark text))
  Some (record { activity = activity; mode = mode; start = start })

-- the places that these texts are, if each is one
abbrev pub places_at : ℕ → List (List ℕ) → Option (List ScheduleEntry)
places_at mark [] = Some []
places_at mark (text ∷ texts) = do
  place ← place_at mark text
  places ← places_at mark texts
  Some (place ∷ places)

-- the number of the last word's activity, or 0 if it is no place
abbrev pub last_number : List (List ℕ) → ℕ
last_number words = option_map_or (λ place. place.activity) (place_at 58 (get_or words (length words - 1) [])) 0

-- the last words; their count is the number of the last word's activity
abbrev pub last_words : List (List ℕ) → List (List ℕ)
last_words words = drop (length words - last_number words) words
