-- What a script submits is a project.
use Rattle.std.proofs.Common.{◌≡◌, ℕ, ◌==◌, ◌&&◌, Bool, true, false, List, [], ◌∷◌, length, Option, Some, None, refl, sym, subst}
use Rattle.std.specs.Prelude.{Result, Ok, Err, ⊤, IsTrue, option_map, if◌then◌else◌, codes}
use Rattle.mrcpsp.specs.Project.{ProjectData, is_project}
use Rattle.psplib_mm.specs.Laws.{ReadingGivesProjects}
use Rattle.psplib_mm.specs.Reading.{reading}
use Rattle.psplib_mm.specs.Text.{words_of, is_same}
use Rattle.psplib_mm.specs.declared.fault.MmFault.{MmFault}
use Rattle.strategy.specs.declared.kind.Kind.{Kind}
use Rattle.session_lines.specs.declared.line.SubmitLine.{SubmitLine}
use Rattle.session_lines.specs.declared.line.LineMeaning.{LineMeaning}
use Rattle.session_lines.specs.declared.line.LineMeaning.TheVariants.{Blank, Whole, Opens, Long, Bad}
use Rattle.session_lines.specs.declared.request.Request.{Request}
use Rattle.session_lines.specs.declared.request.What.{What}
use Rattle.session_lines.specs.declared.request.What.TheVariants.{Submit, Fund, Status, Fetch, Cancel, Forget, Ledger, Take, Give, Turn}
use Rattle.session_lines.specs.declared.request.LineFault.{LineFault}
use Rattle.session_lines.specs.declared.request.LineFault.TheVariants.{TooLong, Syntax}
use Rattle.session_lines.specs.RequestLine.{name_in, tenant_in, one_number, two_numbers, what_in, turn_in, submit_in, opens, asks, own_line, turn_for, turn_line, line_for, meaning_in, meaning_of}
use Rattle.session_lines.specs.Script.{shown, is_long, is_wordless, judged, TextData, opened_text, with_line, Item, submitted, whole_text, cut_text, outside_text, before, requests, requests_of, lines_of}
use Rattle.session_lines.proofs.ReadLemmas.{grown}
use Rattle.farm_replay.specs.Output.{Marked, items_of}

-- what is submitted is a project
abbrev pub IsPlannedWhat : What → Type 0
IsPlannedWhat (Submit kind quanta project) = IsTrue (is_project project)
IsPlannedWhat what = ⊤

abbrev pub IsPlannedRequest : Result Request LineFault → Type 0
IsPlannedRequest (Ok request) = IsPlannedWhat request.what
IsPlannedRequest (Err fault) = ⊤

abbrev pub ArePlanned : List Marked → Type 0
ArePlanned [] = ⊤
ArePlanned (m ∷ ms) = IsPlannedRequest m.item.answer × ArePlanned ms

-- ---- lines ask for no project of their own

abbrev IsPlannedIf : Option What → Type 0
IsPlannedIf None = ⊤
IsPlannedIf (Some what) = IsPlannedWhat what

by_test : (b : Bool) (one other : Option What) → IsPlannedIf one → IsPlannedIf other → IsPlannedIf (if b then one else other)
by_test true one other h k = h
by_test false one other h k = k

by_map : {A : Type 0} (f : A → What) → ((a : A) → IsPlannedWhat (f a)) → (o : Option A) → IsPlannedIf (option_map f o)
by_map f h None = tt
by_map f h (Some a) = h a

what_planned : (verb : List ℕ) (words : List (List ℕ)) → IsPlannedIf (what_in verb words)
what_planned verb words =
    by_test (is_same verb (codes "fund")) _ _ (by_map (λ (p : ℕ × ℕ). Fund p.0 p.1) (λ p. tt) (two_numbers words))
    (by_test (is_same verb (codes "status")) _ _ (by_map Status (λ n. tt) (one_number words))
    (by_test (is_same verb (codes "result")) _ _ (by_map Fetch (λ n. tt) (one_number words))
    (by_test (is_same verb (codes "cancel")) _ _ (by_map Cancel (λ n. tt) (one_number words))
    (by_test (is_same verb (codes "forget")) _ _ (by_map Forget (λ n. tt) (one_number words))
    (by_test (is_same verb (codes "ledger") && (length words == 0)) (Some Ledger) None tt tt)))))

turn_planned : (verb : List ℕ) (words : List (List ℕ)) → IsPlannedIf (turn_in verb words)
turn_planned verb words =
    by_test (is_same verb (codes "take")) _ _ (by_map (λ (p : ℕ × ℕ). Take p.0 p.1) (λ p. tt) (two_numbers words))
    (by_test (is_same verb (codes "give")) _ _ (by_map Give (λ n. tt) (one_number words))
    (by_test (is_same verb (codes "turn")) (option_map (λ (p : ℕ × ℕ). Turn p.0 p.1) (two_numbers words)) None (by_map (λ (p : ℕ × ℕ). Turn p.0 p.1) (λ p. tt) (two_numbers words)) tt))

abbrev IsPlannedMeaning : LineMeaning → Type 0
IsPlannedMeaning Blank = ⊤
IsPlannedMeaning (Whole request) = IsPlannedWhat request.what
IsPlannedMeaning (Opens head) = ⊤
IsPlannedMeaning Long = ⊤
IsPlannedMeaning (Bad who) = ⊤

asks_planned : (who : List ℕ) (what : Option What) → IsPlannedIf what → IsPlannedMeaning (asks who what)
asks_planned who None h = tt
asks_planned who (Some what) h = h

opens_planned : (who : List ℕ) (submit : Option (Kind × ℕ × ℕ)) → IsPlannedMeaning (opens who submit)
opens_planned who None = tt
opens_planned who (Some submit) = tt

one_planned : (b : Bool) (one other : LineMeaning) → IsPlannedMeaning one → IsPlannedMeaning other → IsPlannedMeaning (if b then one else other)
one_planned true one other h k = h
one_planned false one other h k = k

own_planned : (who : List ℕ) (words : List (List ℕ)) → IsPlannedMeaning (own_line who words)
own_planned who [] = tt
own_planned who (verb ∷ words) = one_planned (is_same verb (codes "submit")) (opens who (submit_in words)) (asks who (what_in verb words)) (opens_planned who (submit_in words)) (asks_planned who (what_in verb words) (what_planned verb words))

for_planned : (who : Option (List ℕ)) (what : Option What) → IsPlannedIf what → IsPlannedMeaning (turn_for who what)
for_planned None what h = tt
for_planned (Some who) None h = tt
for_planned (Some who) (Some what) h = h

worker_planned : (verb : List ℕ) (words : List (List ℕ)) → IsPlannedMeaning (turn_line verb words)
worker_planned verb [] = tt
worker_planned verb (name ∷ words) = for_planned (name_in name) (turn_in verb words) (turn_planned verb words)

line_planned : (who : Option (List ℕ)) (first : List ℕ) (words : List (List ℕ)) → IsPlannedMeaning (line_for who first words)
line_planned None first words = worker_planned first words
line_planned (Some who) first words = own_planned who words

words_planned : (words : List (List ℕ)) → IsPlannedMeaning (meaning_in words)
words_planned [] = tt
words_planned (first ∷ words) = line_planned (tenant_in first) first words

judged_planned : (line : List ℕ) → IsPlannedMeaning (judged line)
judged_planned line =
    one_planned (is_long line) (if is_wordless line then Blank else Long) (meaning_of (shown line))
    (one_planned (is_wordless line) Blank Long tt tt)
    (words_planned (words_of (shown line)))

-- ---- texts spell projects

read_planned : ReadingGivesProjects → (head : SubmitLine) (text : List ℕ) (read : Result ProjectData MmFault) → reading text ≡ read → IsPlannedRequest (submitted head read)
read_planned projects head text (Ok project) is = projects text project is
read_planned projects head text (Err why) is = tt

abbrev AreItemsPlanned : List Item → Type 0
AreItemsPlanned [] = ⊤
AreItemsPlanned (item ∷ items) = IsPlannedRequest item.answer × AreItemsPlanned items

text_planned : ReadingGivesProjects → (text : TextData) → IsPlannedRequest (whole_text text).answer
text_planned projects text =
    elim text.is_long as (λ b. IsPlannedRequest (if b then Err (TooLong (Some text.head.who)) else submitted text.head (reading text.bytes))) [
      | true ↦ tt
      | false ↦ read_planned projects text.head text.bytes (reading text.bytes) refl
    ]

cut_planned : (text : TextData) → IsPlannedRequest (cut_text text).answer
cut_planned text = elim text.is_long as (λ b. IsPlannedRequest (if b then Err (TooLong (Some text.head.who)) else Err (Syntax (Some text.head.who)))) [ true ↦ tt | false ↦ tt ]

lines_planned : ReadingGivesProjects → (text : Option TextData) (lines : List (List ℕ)) → AreItemsPlanned (requests text lines)
lines_planned projects None [] = tt
lines_planned projects (Some text) [] = (cut_planned text, tt)
lines_planned projects None (line ∷ lines) =
    go (judged line) (judged_planned line) (lines_planned projects None lines) (λ head. lines_planned projects (Some (opened_text head)) lines)
  where
    go : (meaning : LineMeaning) → IsPlannedMeaning meaning → AreItemsPlanned (requests None lines) → ((head : SubmitLine) → AreItemsPlanned (requests (Some (opened_text head)) lines))
        → AreItemsPlanned (before (outside_text meaning).whole (requests (outside_text meaning).text lines))
    go Blank h later inside = later
    go (Whole request) h later inside = (h, later)
    go (Opens head) h later inside = inside head
    go Long h later inside = (tt, later)
    go (Bad who) h later inside = (tt, later)
lines_planned projects (Some text) (line ∷ lines) =
    let more : TextData = with_line text line in
    elim (more.left == 0) as (λ b. AreItemsPlanned (before (grown more b).whole (requests (grown more b).text lines))) [
      | true ↦ (text_planned projects more, lines_planned projects None lines)
      | false ↦ lines_planned projects (Some more) lines
    ]

marked_planned : (ms : List Marked) → AreItemsPlanned (items_of ms) → ArePlanned ms
marked_planned [] h = tt
marked_planned (m ∷ ms) h = (h.0, marked_planned ms h.1)

-- the requests of a script submit projects
pub script_planned : ReadingGivesProjects → (script : List ℕ) (ms : List Marked) → items_of ms ≡ requests_of script → ArePlanned ms
script_planned projects script ms is = marked_planned ms (subst AreItemsPlanned (sym is) (lines_planned projects None (lines_of script)))
