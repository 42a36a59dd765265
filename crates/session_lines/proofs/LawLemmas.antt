-- The laws of scripts.
use Rattle.std.proofs.Common.{◌≡◌, ℕ, Bool, true, false, cond, ◌==◌, List, [], ◌∷◌, Option, Some, None, refl, ap, ◌∙◌}
use Rattle.std.specs.List.{flat_map}
use Rattle.session_lines.specs.declared.line.SubmitLine.{SubmitLine}
use Rattle.session_lines.specs.declared.line.LineMeaning.{LineMeaning}
use Rattle.session_lines.specs.declared.line.LineMeaning.TheVariants.{Blank, Whole, Opens, Long, Bad}
use Rattle.session_lines.specs.Script.{TextData, onto, lines_of, judged, opened_text, with_line, outside_text, first_or, first, before, requests}
use Rattle.session_lines.specs.Laws.{from_first, EachInTurn, LinesAreBytes}
use Rattle.session_lines.proofs.ReadLemmas.{grown}

requests_first : (text : Option TextData) (lines : List (List ℕ)) → requests text lines ≡ from_first (first text lines)
requests_first None [] = refl
requests_first (Some text) [] = refl
requests_first None (line ∷ lines) = go (judged line) (requests_first None lines) (λ head. requests_first (Some (opened_text head)) lines)
  where
    go : (m : LineMeaning) → requests None lines ≡ from_first (first None lines)
        → ((head : SubmitLine) → requests (Some (opened_text head)) lines ≡ from_first (first (Some (opened_text head)) lines))
        → before (outside_text m).whole (requests (outside_text m).text lines)
        ≡ from_first (first_or (outside_text m).whole lines (first (outside_text m).text lines))
    go Blank later inside = later
    go (Whole request) later inside = refl
    go (Opens head) later inside = inside head
    go Long later inside = refl
    go (Bad who) later inside = refl
requests_first (Some text) (line ∷ lines) =
    let more : TextData = with_line text line in
    go more (more.left == 0) (requests_first (Some more) lines)
  where
    go : (more : TextData) (b : Bool) → requests (Some more) lines ≡ from_first (first (Some more) lines)
        → before (grown more b).whole (requests (grown more b).text lines)
        ≡ from_first (first_or (grown more b).whole lines (first (grown more b).text lines))
    go more true h = refl
    go more false h = h

pub each_in_turn : EachInTurn
each_in_turn script = requests_first None (lines_of script)

abbrev joined : List (List ℕ) → List ℕ
joined lines = flat_map (λ (line : List ℕ). line) lines

joined-onto : (x : ℕ) (lines : List (List ℕ)) → joined (onto x lines) ≡ x ∷ joined lines
joined-onto x [] = refl
joined-onto x (line ∷ lines) = refl

pub lines_are_bytes : LinesAreBytes
lines_are_bytes [] = refl
lines_are_bytes (x ∷ xs) = go (x == 10) (lines_are_bytes xs)
  where
    go : (b : Bool) → joined (lines_of xs) ≡ xs → joined (cond b ((x ∷ []) ∷ lines_of xs) (onto x (lines_of xs))) ≡ x ∷ xs
    go true h = ap (λ l. x ∷ l) h
    go false h = joined-onto x (lines_of xs) ∙ ap (λ l. x ∷ l) h
