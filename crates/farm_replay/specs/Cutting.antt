-- How a script is cut: each line with the text that it names.
use Rattle.std.specs.Prelude.{◌≡◌, ℕ, nat_le, List, [], ◌∷◌, length, take, drop, if◌then◌else◌, Some, None, Ok, Err}
use Rattle.std.specs.List.{list_any, flat_map}
use Rattle.psplib_mm.specs.Reading.{reading}
use Rattle.session_lines.specs.declared.line.SubmitLine.{SubmitLine}
use Rattle.session_lines.specs.declared.line.LineMeaning.{LineMeaning}
use Rattle.session_lines.specs.declared.line.LineMeaning.TheVariants.{Blank, Whole, Opens, Long, Bad}
use Rattle.session_lines.specs.declared.request.LineFault.TheVariants.{TooLong, Syntax}
use Rattle.session_lines.specs.Script.{Item, is_long, judged, plain, submitted, requests}

-- the request of a submit's line with all lines of its text
abbrev pub with_text : SubmitLine → List (List ℕ) → Item
with_text head lines = record {
  submits = Some head.who;
  answer = if list_any is_long lines then Err (TooLong (Some head.who)) else submitted head (reading (flat_map (λ (line : List ℕ). line) lines));
}

-- the request of a submit's line with fewer lines, at the end of the script
abbrev pub with_cut_text : SubmitLine → List (List ℕ) → Item
with_cut_text head lines = record {
  submits = Some head.who;
  answer = if list_any is_long lines then Err (TooLong (Some head.who)) else Err (Syntax (Some head.who));
}

-- the requests of a line of this meaning and the lines behind it: a submit's line takes as many of
-- them as it names
abbrev pub requests_from : LineMeaning → List (List ℕ) → List Item
requests_from Blank lines = requests None lines
requests_from (Whole request) lines = plain (Ok request) ∷ requests None lines
requests_from (Opens head) lines =
    if nat_le head.lines (length lines)
    then with_text head (take head.lines lines) ∷ requests None (drop head.lines lines)
    else with_cut_text head lines ∷ []
requests_from Long lines = plain (Err (TooLong None)) ∷ requests None lines
requests_from (Bad who) lines = plain (Err (Syntax who)) ∷ requests None lines

-- each line that is not blank is a request, a submit's line with its text
abbrev pub EachLineHasItsText : Type 0
EachLineHasItsText = (line : List ℕ) (lines : List (List ℕ)) → requests None (line ∷ lines) ≡ requests_from (judged line) lines
