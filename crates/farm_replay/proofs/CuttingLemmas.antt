-- Each line of a script has the text that it names.
use Rattle.std.proofs.Common.{◌≡◌, ℕ, ◌-◌, ◌<◌, ◌==◌, ◌||◌, ◌&&◌, nat_le, Bool, true, false, cond, List, [], ◌∷◌, ◌++◌, length, Option, Some, None, refl, sym, ap, ◌∙◌, arith, append_assoc}
use Rattle.std.specs.Prelude.{take, drop, ⊤, codes}
use Rattle.std.specs.List.{list_any, flat_map}
use Rattle.std.proofs.lemmas.Bool.{leb-true, leb-false, cond_both, and_parts}
use Rattle.std.proofs.lemmas.Bool.Decides.{nat_tests}
use Rattle.std.proofs.lemmas.List.{append-nil, take-append-drop, length-take-le}
use Rattle.psplib_mm.specs.Text.{words_of, is_same}
use Rattle.strategy.specs.declared.kind.Kind.{Kind}
use Rattle.session_lines.specs.declared.request.What.{What}
use Rattle.session_lines.specs.declared.line.SubmitLine.{SubmitLine}
use Rattle.session_lines.specs.declared.line.LineMeaning.{LineMeaning}
use Rattle.session_lines.specs.declared.line.LineMeaning.TheVariants.{Blank, Whole, Opens, Long, Bad}
use Rattle.session_lines.specs.RequestLine.{number_in, kind_in, name_in, tenant_in, what_in, turn_in, submit_of, submit_in, opens, asks, turn_for, line_for, meaning_in, meaning_of}
use Rattle.session_lines.specs.Script.{Item, TextData, After, shown, is_long, is_wordless, judged, opened_text, with_line, whole_text, cut_text, outside_text, before, requests}
use Rattle.farm_replay.specs.Cutting.{with_text, with_cut_text, requests_from, EachLineHasItsText}

abbrev joined : List (List ℕ) → List ℕ
joined lines = flat_map (λ (line : List ℕ). line) lines

-- a text with these lines more
abbrev fed : TextData → List (List ℕ) → TextData
fed text lines = record text { left = 0; is_long = text.is_long || list_any is_long lines; bytes = text.bytes ++ joined lines }

abbrev grown : TextData → Bool → After
grown text whole = cond whole (record { text = None; whole = Some (whole_text text) }) (record { text = Some text; whole = None })

abbrev goes : TextData → List (List ℕ) → Bool → List Item
goes text lines whole = before (grown text whole).whole (requests (grown text whole).text lines)

or_more : (a b c : Bool) → ((a || b) || c) ≡ (a || (b || c))
or_more true b c = refl
or_more false b c = refl

or_none : (a : Bool) → (a || false) ≡ a
or_none true = refl
or_none false = refl

is_none : (left : ℕ) → left ≡ 1 → (left - 1 == 0) ≡ true
is_none left h = ap (λ n. n - 1 == 0) h

is_some : (left : ℕ) → 1 < left → (left - 1 == 0) ≡ false
is_some left h = grind (arith, nat_tests)

-- a text of these bytes
abbrev text_of : SubmitLine → Bool → List ℕ → TextData
text_of head long bytes = record { head = head; left = 0; is_long = long; bytes = bytes }

same_text : (head : SubmitLine) (l m : Bool) (b c : List ℕ) → l ≡ m → b ≡ c → text_of head l b ≡ text_of head m c
same_text head l m b c same equal = ap (λ x. text_of head x b) same ∙ ap (λ x. text_of head m x) equal

fed_more : (text : TextData) (line : List ℕ) (lines : List (List ℕ)) → fed (with_line text line) lines ≡ fed text (line ∷ lines)
fed_more text line lines =
    same_text text.head _ _ _ _ (or_more text.is_long (is_long line) (list_any is_long lines)) (append_assoc text.bytes line (joined lines))

whole_none : (text : TextData) → whole_text (fed text []) ≡ whole_text text
whole_none text = ap whole_text (same_text text.head _ _ _ _ (or_none text.is_long) (append-nil text.bytes))

whole_with : (text : TextData) (more rest : List (List ℕ)) → length more ≡ text.left → 0 < text.left
    → requests (Some text) (more ++ rest) ≡ whole_text (fed text more) ∷ requests None rest
whole_with text [] rest h some = absurd (omega arith)
whole_with text (line ∷ []) rest h some =
    ap (goes (with_line text line) rest) (is_none text.left (sym h))
    ∙ ap (λ (item : Item). item ∷ requests None rest) (sym (whole_none (with_line text line)) ∙ ap whole_text (fed_more text line []))
whole_with text (line ∷ next ∷ more) rest h some =
    ap (goes (with_line text line) ((next ∷ more) ++ rest)) (is_some text.left (omega arith))
    ∙ whole_with (with_line text line) (next ∷ more) rest (omega arith) (omega arith)
    ∙ ap (λ t. whole_text t ∷ requests None rest) (fed_more text line (next ∷ more))

cut_with : (text : TextData) (lines : List (List ℕ)) → length lines < text.left → requests (Some text) lines ≡ cut_text (fed text lines) ∷ []
cut_with text [] h = ap (λ l. cut_text (record text { is_long = l }) ∷ []) (sym (or_none text.is_long))
cut_with text (line ∷ lines) h =
    ap (goes (with_line text line) lines) (is_some text.left (omega arith))
    ∙ cut_with (with_line text line) lines (omega arith)
    ∙ ap (λ t. cut_text t ∷ []) (fed_more text line lines)

opened_with : (head : SubmitLine) (lines : List (List ℕ)) → 0 < head.lines → requests (Some (opened_text head)) lines ≡ requests_from (Opens head) lines
opened_with head lines some = go (nat_le head.lines (length lines)) refl
  where
    n : ℕ
    n = head.lines

    go : (b : Bool) → nat_le n (length lines) ≡ b
        → requests (Some (opened_text head)) lines
        ≡ cond b (with_text head (take n lines) ∷ requests None (drop n lines)) (with_cut_text head lines ∷ [])
    go true h =
        ap (requests (Some (opened_text head))) (sym (take-append-drop n lines))
        ∙ whole_with (opened_text head) (take n lines) (drop n lines) (length-take-le n lines (leb-true n (length lines) h)) some
    go false h = cut_with (opened_text head) lines (leb-false n (length lines) h)

-- a submit's line names at least one line
abbrev NamesLines : LineMeaning → Type 0
NamesLines Blank = ⊤
NamesLines (Whole request) = ⊤
NamesLines (Opens head) = 0 < head.lines
NamesLines Long = ⊤
NamesLines (Bad who) = ⊤

opens_names : (who : List ℕ) (kind : Option Kind) (quanta lines : Option ℕ) → NamesLines (opens who (submit_of kind quanta lines))
opens_names who None quanta lines = tt
opens_names who (Some kind) None lines = tt
opens_names who (Some kind) (Some quanta) None = tt
opens_names who (Some kind) (Some quanta) (Some lines) =
    cond_both (nat_le 1 lines && nat_le lines 20000) (Some (kind, quanta, lines)) None (λ o. NamesLines (opens who o))
    (λ h. leb-true 1 lines (and_parts (nat_le 1 lines) (nat_le lines 20000) h).0) (λ _. tt)

submit_names : (who : List ℕ) (words : List (List ℕ)) → NamesLines (opens who (submit_in words))
submit_names who [] = tt
submit_names who (kind ∷ []) = tt
submit_names who (kind ∷ quanta ∷ []) = tt
submit_names who (kind ∷ quanta ∷ lines ∷ []) = opens_names who (kind_in kind) (number_in quanta) (number_in lines)
submit_names who (kind ∷ quanta ∷ lines ∷ other ∷ more) = tt

line_names : (who : Option (List ℕ)) (first : List ℕ) (words : List (List ℕ)) → NamesLines (line_for who first words)
line_names None first [] = tt
line_names None first (name ∷ words) = go (name_in name) (turn_in first words)
  where
    go : (who : Option (List ℕ)) (what : Option What) → NamesLines (turn_for who what)
    go None what = tt
    go (Some who) None = tt
    go (Some who) (Some what) = tt
line_names (Some who) first [] = tt
line_names (Some who) first (verb ∷ words) =
    cond_both (is_same verb (codes "submit")) (opens who (submit_in words)) (asks who (what_in verb words)) NamesLines (λ _. submit_names who words) (λ _. go (what_in verb words))
  where
    go : (what : Option What) → NamesLines (asks who what)
    go None = tt
    go (Some what) = tt

words_name : (words : List (List ℕ)) → NamesLines (meaning_in words)
words_name [] = tt
words_name (first ∷ words) = line_names (tenant_in first) first words

judged_names : (line : List ℕ) → NamesLines (judged line)
judged_names line =
    cond_both (is_long line) (cond (is_wordless line) Blank Long) (meaning_of (shown line)) NamesLines
    (λ _. cond_both (is_wordless line) Blank Long NamesLines (λ _. tt) (λ _. tt)) (λ _. words_name (words_of (shown line)))

pub each_line_has_its_text : EachLineHasItsText
each_line_has_its_text line lines = go (judged line) (judged_names line)
  where
    go : (m : LineMeaning) → NamesLines m → before (outside_text m).whole (requests (outside_text m).text lines) ≡ requests_from m lines
    go Blank some = refl
    go (Whole request) some = refl
    go (Opens head) some = opened_with head lines some
    go Long some = refl
    go (Bad who) some = refl
