-- Why a line's bytes tell whose it is.
use Rattle.std.proofs.Common.{◌≡◌, ℕ, ◌==◌, ◌&&◌, nat_le, Bool, true, false, List, [], ◌∷◌, ◌++◌, length, Option, Some, None, refl, sym, ap, ◌∙◌, subst, arith, append_assoc}
use Rattle.std.specs.Prelude.{Result, Ok, Err, IfSome, ⊤, if◌then◌else◌, codes}
use Rattle.std.specs.List.{list_all}
use Rattle.std.proofs.lemmas.Bool.{and_parts}
use Rattle.std.proofs.lemmas.Bool.Decides.{nat_tests}
use Rattle.mrcpsp.specs.Project.{ProjectData}
use Rattle.psplib_mm.specs.Reading.{reading}
use Rattle.psplib_mm.specs.Text.{words_of, is_same}
use Rattle.psplib_mm.specs.declared.fault.MmFault.{MmFault}
use Rattle.strategy.specs.declared.kind.Kind.{Kind}
use Rattle.farm_core.specs.Config.{ConfigData}
use Rattle.farm_core.specs.Name.{is_letter, is_mark, begins_well, is_name, same_bytes}
use Rattle.session_lines.specs.declared.line.SubmitLine.{SubmitLine}
use Rattle.session_lines.specs.declared.line.LineMeaning.{LineMeaning}
use Rattle.session_lines.specs.declared.line.LineMeaning.TheVariants.{Blank, Whole, Opens, Long, Bad}
use Rattle.session_lines.specs.declared.request.What.{What}
use Rattle.session_lines.specs.declared.request.Request.{Request}
use Rattle.session_lines.specs.declared.request.LineFault.{LineFault}
use Rattle.session_lines.specs.declared.request.LineFault.TheVariants.{TooLong, Syntax}
use Rattle.session_lines.specs.declared.said.Said.{Said}
use Rattle.session_lines.specs.ReplyText.{who_text, said_text}
use Rattle.session_lines.specs.RequestLine.{name_in, tenant_in, what_in, turn_in, submit_in, opens, asks, own_line, turn_for, turn_line, line_for, meaning_in, meaning_of}
use Rattle.session_lines.specs.Script.{shown, is_long, is_wordless, judged, TextData, opened_text, with_line, Item, submitted, whole_text, cut_text, outside_text, before, requests, lines_of, requests_of}
use Rattle.session_lines.proofs.ReadLemmas.{grown}
use Rattle.farm_replay.specs.Output.{Parts, Saying, who_in, Marked, next, items_of, opening, lines_for, line_text}
use Rattle.farm_replay.specs.Isolation.{is_of}
use Rattle.farm_replay.specs.Begins.{begins_with, LinesTellWhose}
use Rattle.farm_replay.proofs.IsolationLemmas.{next_who}

-- ---- bytes

mark_is_no_space : (b : ℕ) → is_mark b ≡ true → (b == 32) ≡ false
mark_is_no_space b h = grind (arith, nat_tests)

space_is_no_mark : (b : ℕ) → is_mark b ≡ true → (32 == b) ≡ false
space_is_no_mark b h = grind (arith, nat_tests)

eq_swapped : (a b : ℕ) → (a == b) ≡ (b == a)
eq_swapped a b = grind (arith, nat_tests)

-- names that are followed by a space
begin_same : (name other rest : List ℕ) → list_all is_mark name ≡ true → list_all is_mark other ≡ true → begins_with (name ++ 32 ∷ []) (other ++ 32 ∷ rest) ≡ same_bytes other name
begin_same [] [] rest h k = refl
begin_same [] (y ∷ other) rest h k = ap (λ b. b && true) (space_is_no_mark y (and_parts (is_mark y) (list_all is_mark other) k).0)
begin_same (x ∷ name) [] rest h k = ap (λ b. b && begins_with (name ++ 32 ∷ []) rest) (mark_is_no_space x (and_parts (is_mark x) (list_all is_mark name) h).0)
begin_same (x ∷ name) (y ∷ other) rest h k =
    ap (λ b. b && begins_with (name ++ 32 ∷ []) (other ++ 32 ∷ rest)) (eq_swapped x y)
    ∙ ap (λ b. (y == x) && b) (begin_same name other rest (and_parts (is_mark x) (list_all is_mark name) h).1 (and_parts (is_mark y) (list_all is_mark other) k).1)

letter_is_no_mark : (x : ℕ) → is_letter x ≡ true → (x == 63) ≡ false
letter_is_no_mark x h = grind (arith, nat_tests)

begin_none : (name rest : List ℕ) → begins_well name ≡ true → begins_with (name ++ 32 ∷ []) (63 ∷ 32 ∷ rest) ≡ false
begin_none [] rest h = absurd (cc)
begin_none (x ∷ name) rest h = ap (λ b. b && begins_with (name ++ 32 ∷ []) (32 ∷ rest)) (letter_is_no_mark x h)

pub name_parts : (name : List ℕ) → is_name name ≡ true → (begins_well name ≡ true) × (list_all is_mark name ≡ true)
unfolding is_name
name_parts name h = let p = and_parts (nat_le (length name) 32) (begins_well name && list_all is_mark name) h in and_parts (begins_well name) (list_all is_mark name) p.1

abbrev pub IsNamed : Option (List ℕ) → Type 0
IsNamed None = ⊤
IsNamed (Some who) = is_name who ≡ true

pub line_begins : (name : List ℕ) → is_name name ≡ true → (who : Option (List ℕ)) (words : Said) → IsNamed who → begins_with (who_text (Some name)) (line_text (record { who = who; said = words })) ≡ is_of name who
line_begins name ok None words h = begin_none name (said_text words ++ 10 ∷ []) (name_parts name ok).0
line_begins name ok (Some other) words h =
    ap (begins_with (name ++ 32 ∷ [])) (append_assoc (other ++ 32 ∷ []) (said_text words) (10 ∷ []) ∙ append_assoc other (32 ∷ []) (said_text words ++ 10 ∷ []))
    ∙ begin_same name other (said_text words ++ 10 ∷ []) (name_parts name ok).1 (name_parts other h).1

-- ---- the requests of a script have well-formed names

-- and a submit's text is that of the tenant whose request it is
abbrev pub IsNamedItem : Item → Type 0
IsNamedItem item = IsNamed (who_in item.answer) × IfSome item.submits (λ who. who_in item.answer ≡ Some who)

name_named : (word : List ℕ) → IsNamed (name_in word)
name_named word = elim (is_name word) as (λ b. is_name word ≡ b → IsNamed (if b then Some word else None)) [ true ↦ λ h. h | false ↦ λ h. tt ] refl

tenant_named : (word : List ℕ) → IsNamed (tenant_in word)
tenant_named [] = tt
tenant_named (b ∷ name) = elim (b == 64) as (λ t. IsNamed (if t then name_in name else None)) [ true ↦ name_named name | false ↦ tt ]

abbrev IsNamedMeaning : LineMeaning → Type 0
IsNamedMeaning Blank = ⊤
IsNamedMeaning (Whole request) = is_name request.who ≡ true
IsNamedMeaning (Opens head) = is_name head.who ≡ true
IsNamedMeaning Long = ⊤
IsNamedMeaning (Bad who) = IsNamed who

one_named : (b : Bool) (one other : LineMeaning) → IsNamedMeaning one → IsNamedMeaning other → IsNamedMeaning (if b then one else other)
one_named true one other h k = h
one_named false one other h k = k

asks_named : (who : List ℕ) (what : Option What) → is_name who ≡ true → IsNamedMeaning (asks who what)
asks_named who None h = h
asks_named who (Some what) h = h

opens_named : (who : List ℕ) (submit : Option (Kind × ℕ × ℕ)) → is_name who ≡ true → IsNamedMeaning (opens who submit)
opens_named who None h = h
opens_named who (Some submit) h = h

own_named : (who : List ℕ) (words : List (List ℕ)) → is_name who ≡ true → IsNamedMeaning (own_line who words)
own_named who [] h = h
own_named who (verb ∷ words) h =
    one_named (is_same verb (codes "submit")) (opens who (submit_in words)) (asks who (what_in verb words)) (opens_named who (submit_in words) h) (asks_named who (what_in verb words) h)

for_named : (who : Option (List ℕ)) (what : Option What) → IsNamed who → IsNamedMeaning (turn_for who what)
for_named None what h = tt
for_named (Some who) None h = tt
for_named (Some who) (Some what) h = h

worker_named : (verb : List ℕ) (words : List (List ℕ)) → IsNamedMeaning (turn_line verb words)
worker_named verb [] = tt
worker_named verb (name ∷ words) = for_named (name_in name) (turn_in verb words) (name_named name)

line_named : (who : Option (List ℕ)) (first : List ℕ) (words : List (List ℕ)) → IsNamed who → IsNamedMeaning (line_for who first words)
line_named None first words h = worker_named first words
line_named (Some who) first words h = own_named who words h

words_named : (words : List (List ℕ)) → IsNamedMeaning (meaning_in words)
words_named [] = tt
words_named (first ∷ words) = line_named (tenant_in first) first words (tenant_named first)

judged_named : (line : List ℕ) → IsNamedMeaning (judged line)
judged_named line =
    one_named (is_long line) (if is_wordless line then Blank else Long) (meaning_of (shown line))
    (one_named (is_wordless line) Blank Long tt tt)
    (words_named (words_of (shown line)))

submitted_who : (head : SubmitLine) (read : Result ProjectData MmFault) → who_in (submitted head read) ≡ Some head.who
submitted_who head (Ok project) = refl
submitted_who head (Err why) = refl

text_named : (text : TextData) (answer : Result Request LineFault) → is_name text.head.who ≡ true → who_in answer ≡ Some text.head.who → IsNamedItem (record { submits = Some text.head.who; answer = answer })
text_named text answer h own = (subst IsNamed (sym own) h, own)

whole_named : (text : TextData) → is_name text.head.who ≡ true → IsNamedItem (whole_text text)
whole_named text h = text_named text (whole_text text).answer h
    (elim text.is_long as (λ b. who_in (if b then Err (TooLong (Some text.head.who)) else submitted text.head (reading text.bytes)) ≡ Some text.head.who) [
      | true ↦ refl
      | false ↦ submitted_who text.head (reading text.bytes)
    ])

cut_named : (text : TextData) → is_name text.head.who ≡ true → IsNamedItem (cut_text text)
cut_named text h = text_named text (cut_text text).answer h
    (elim text.is_long as (λ b. who_in (if b then Err (TooLong (Some text.head.who)) else Err (Syntax (Some text.head.who))) ≡ Some text.head.who) [ true ↦ refl | false ↦ refl ])

abbrev pub AreNamed : List Item → Type 0
AreNamed [] = ⊤
AreNamed (item ∷ items) = IsNamedItem item × AreNamed items

abbrev IsNamedText : Option TextData → Type 0
IsNamedText None = ⊤
IsNamedText (Some text) = is_name text.head.who ≡ true

lines_named : (text : Option TextData) (lines : List (List ℕ)) → IsNamedText text → AreNamed (requests text lines)
lines_named None [] h = tt
lines_named (Some text) [] h = (cut_named text h, tt)
lines_named None (line ∷ lines) h =
    go (judged line) (judged_named line) (lines_named None lines tt) (λ head named. lines_named (Some (opened_text head)) lines named)
  where
    go : (meaning : LineMeaning) → IsNamedMeaning meaning → AreNamed (requests None lines) → ((head : SubmitLine) → is_name head.who ≡ true → AreNamed (requests (Some (opened_text head)) lines))
        → AreNamed (before (outside_text meaning).whole (requests (outside_text meaning).text lines))
    go Blank h later inside = later
    go (Whole request) h later inside = ((h, tt), later)
    go (Opens head) h later inside = inside head h
    go Long h later inside = ((tt, tt), later)
    go (Bad who) h later inside = ((h, tt), later)
lines_named (Some text) (line ∷ lines) h =
    let more : TextData = with_line text line in
    elim (more.left == 0) as (λ b. AreNamed (before (grown more b).whole (requests (grown more b).text lines))) [
      | true ↦ (whole_named more h, lines_named None lines tt)
      | false ↦ lines_named (Some more) lines h
    ]

-- ---- lines

pub next_named : (config : ConfigData) (parts : Parts) (m : Marked) → IsNamedItem m.item → IsNamed (next config parts m).line.who
next_named config parts m h = subst IsNamed (sym (next_who config parts m)) h.0

pub script_named : (script : List ℕ) → AreNamed (requests_of script)
script_named script = lines_named None (lines_of script) tt

line_at : (config : ConfigData) (parts : Parts) (ms : List Marked) → AreNamed (items_of ms) → (before behind : List Saying) (line : Saying) → lines_for config parts ms ≡ before ++ line ∷ behind → IsNamed line.who
line_at config parts [] h [] behind line is = absurd (cc)
line_at config parts [] h (l ∷ before) behind line is = absurd (cc)
line_at config parts (m ∷ ms) h [] behind line is =
    let same : (next config parts m).line ≡ line = cc in
    subst IsNamed (sym (next_who config parts m) ∙ ap (λ (l : Saying). l.who) same) h.0.0
line_at config parts (m ∷ ms) h (l ∷ before) behind line is = line_at config (next config parts m).parts ms h.1 before behind line (cc)

pub lines_tell_whose : LinesTellWhose
lines_tell_whose config script requests is name ok before behind line at =
    line_begins name ok line.who line.said (line_at config (opening config) requests (subst AreNamed (sym is) (lines_named None (lines_of script) tt)) before behind line at)
