-- The one pass over a script's lines is what two recursions were: the first request, and all requests.
use Rattle.std.proofs.Common.{◌≡◌, ℕ, Bool, true, false, ◌==◌, List, [], ◌∷◌, Option, Some, None, if◌then◌else◌, Ok, Err, refl, ap}
use Rattle.session_lines.specs.declared.request.LineFault.TheVariants.{TooLong, Syntax}
use Rattle.session_lines.specs.declared.line.SubmitLine.{SubmitLine}
use Rattle.session_lines.specs.declared.line.LineMeaning.{LineMeaning}
use Rattle.session_lines.specs.declared.line.LineMeaning.TheVariants.{Blank, Whole, Opens, Long, Bad}
use Rattle.session_lines.specs.Script.{TextData, Item, Found, found, plain, judged, opened_text, with_line, whole_text, cut_text, outside_text, first_or, first, before, requests}
use Rattle.session_lines.proofs.ReadLemmas.{grown}

-- what a line outside a text begins: blank lines belong to the request after them
abbrev begins : LineMeaning → List (List ℕ) → Option Found → (SubmitLine → Option Found) → Option Found
begins Blank lines later text = later
begins (Whole request) lines later text = found (plain (Ok request)) lines
begins (Opens head) lines later text = text head
begins Long lines later text = found (plain (Err (TooLong None))) lines
begins (Bad who) lines later text = found (plain (Err (Syntax who))) lines

abbrev old_first : Option TextData → List (List ℕ) → Option Found
old_first None [] = None
old_first (Some text) [] = found (cut_text text) []
old_first None (line ∷ lines) = begins (judged line) lines (old_first None lines) (λ head. old_first (Some (opened_text head)) lines)
old_first (Some text) (line ∷ lines) =
    let more : TextData = with_line text line in
    if more.left == 0 then found (whole_text more) lines else old_first (Some more) lines

-- what a line outside a text begins, in the list of all requests
abbrev heads : LineMeaning → List Item → (SubmitLine → List Item) → List Item
heads Blank later text = later
heads (Whole request) later text = plain (Ok request) ∷ later
heads (Opens head) later text = text head
heads Long later text = plain (Err (TooLong None)) ∷ later
heads (Bad who) later text = plain (Err (Syntax who)) ∷ later

abbrev old_requests : Option TextData → List (List ℕ) → List Item
old_requests None [] = []
old_requests (Some text) [] = cut_text text ∷ []
old_requests None (line ∷ lines) = heads (judged line) (old_requests None lines) (λ head. old_requests (Some (opened_text head)) lines)
old_requests (Some text) (line ∷ lines) =
    let more : TextData = with_line text line in
    if more.left == 0 then whole_text more ∷ old_requests None lines else old_requests (Some more) lines

pub requests_agree : (text : Option TextData) (lines : List (List ℕ)) → requests text lines ≡ old_requests text lines
requests_agree None [] = refl
requests_agree (Some text) [] = refl
requests_agree None (line ∷ lines) = go (judged line) (requests_agree None lines) (λ head. requests_agree (Some (opened_text head)) lines)
  where
    go : (m : LineMeaning) → requests None lines ≡ old_requests None lines
        → ((head : SubmitLine) → requests (Some (opened_text head)) lines ≡ old_requests (Some (opened_text head)) lines)
        → before (outside_text m).whole (requests (outside_text m).text lines) ≡ heads m (old_requests None lines) (λ head. old_requests (Some (opened_text head)) lines)
    go Blank later inside = later
    go (Whole request) later inside = ap (λ l. plain (Ok request) ∷ l) later
    go (Opens head) later inside = inside head
    go Long later inside = ap (λ l. plain (Err (TooLong None)) ∷ l) later
    go (Bad who) later inside = ap (λ l. plain (Err (Syntax who)) ∷ l) later
requests_agree (Some text) (line ∷ lines) =
    go (with_line text line) ((with_line text line).left == 0) (requests_agree None lines) (requests_agree (Some (with_line text line)) lines)
  where
    go : (more : TextData) (b : Bool) → requests None lines ≡ old_requests None lines → requests (Some more) lines ≡ old_requests (Some more) lines
        → before (grown more b).whole (requests (grown more b).text lines) ≡ (if b then whole_text more ∷ old_requests None lines else old_requests (Some more) lines)
    go more true later inside = ap (λ l. whole_text more ∷ l) later
    go more false later inside = inside

pub firsts_agree : (text : Option TextData) (lines : List (List ℕ)) → first text lines ≡ old_first text lines
firsts_agree None [] = refl
firsts_agree (Some text) [] = refl
firsts_agree None (line ∷ lines) = go (judged line) (firsts_agree None lines) (λ head. firsts_agree (Some (opened_text head)) lines)
  where
    go : (m : LineMeaning) → first None lines ≡ old_first None lines
        → ((head : SubmitLine) → first (Some (opened_text head)) lines ≡ old_first (Some (opened_text head)) lines)
        → first_or (outside_text m).whole lines (first (outside_text m).text lines) ≡ begins m lines (old_first None lines) (λ head. old_first (Some (opened_text head)) lines)
    go Blank later inside = later
    go (Whole request) later inside = refl
    go (Opens head) later inside = inside head
    go Long later inside = refl
    go (Bad who) later inside = refl
firsts_agree (Some text) (line ∷ lines) =
    go (with_line text line) ((with_line text line).left == 0) (firsts_agree (Some (with_line text line)) lines)
  where
    go : (more : TextData) (b : Bool) → first (Some more) lines ≡ old_first (Some more) lines
        → first_or (grown more b).whole lines (first (grown more b).text lines) ≡ (if b then found (whole_text more) lines else old_first (Some more) lines)
    go more true inside = refl
    go more false inside = inside
