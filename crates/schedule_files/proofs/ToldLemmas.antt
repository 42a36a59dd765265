-- A line of JSON holds nothing as words or as rows, and so holds the schedule that its value has.
use Rattle.std.proofs.Common.{◌≡◌, inl, inr, ℕ, zero, suc, ◌+◌, ◌-◌, ◌<◌, ◌≤◌, ◌^◌, ◌==◌, not, Bool, true, false, cond, List, [], ◌∷◌, ◌++◌, length, length-append, take, drop, get_or, append_assoc, refl, sym, ap, ◌∙◌, arith, ne_eqb, Option, Some, None, IsUtf8, codes, decimal, slice_index, subst}
use Rattle.std.specs.Char.{is_ascii_digit, is_ascii_whitespace, is_ascii_graphic, digit_value}
use Rattle.std.specs.List.{filter, list_any, slice_split, position_or_len, suffix_len}
use Rattle.std.specs.Option.{option_map_or}
use Rattle.std.proofs.lemmas.Bool.{or_parts, eqb-false}
use Rattle.std.proofs.lemmas.Bool.Decides.{nat_tests}
use Rattle.std.proofs.lemmas.Fmt.{decimal_is_IsNumeral}
use Rattle.std.proofs.lemmas.List.{append-nil, drop_all, get_or-append_right}
use Rattle.std.proofs.lemmas.Str.{IsUtf8-from_ascii}
use Rattle.mrcpsp.specs.Schedule.{ScheduleData}
use Rattle.schedule_json.specs.ScheduleJson.{place_json, places_json, next_json, schedule_json, number_json}
use Rattle.json.specs.Json as json
use Rattle.json.specs.Print.{print, print_from}
use Rattle.json.specs.Tree.{json_tokens, members_depth, MembersHaveNumbers}
use Rattle.serde_json.specs.Read.{read}
use Rattle.schedule_files.specs.Laws.{AreCounted, IsWritable, ArrayIsTold}
use Rattle.schedule_files.specs.Places.{placed_from, IsUntold}
use Rattle.schedule_files.specs.ScheduleJson.{BeginsLastLine, IsJsonOf, TellsJson}
use Rattle.schedule_files.specs.ScheduleRows.{has_digit, words_of, rows_of, number_of, number_in, before, place_at, places_at, last_number, last_words}
use Rattle.schedule_files.specs.ScheduleText.{TellsWords, TellsRows, Tells}
use Rattle.schedule_files.specs.declared.places.ScheduleEntry.{ScheduleEntry}
use Rattle.schedule_files.specs.declared.reading.TheConstants.{MOST_BYTES}
use Rattle.schedule_files.proofs.OrderLemmas.{placed_length}
use Rattle.schedule_files.proofs.LineLemmas.{two_unread}
use Rattle.schedule_files.proofs.ObjectLemmas.{schedule_tree, array_printed, array_is, line_of}
use Rattle.schedule_files.proofs.ReadingLemmas.{some_of, some_is_not_none, told_last, same_size}
use Rattle.schedule_files.proofs.WrittenLemmas.{Fails, fails_append, fails_digits, split_mid, split_whole, words_mid, words_whole}

-- ---- bytes

-- a byte that is no letter, digit or mark of ASCII
abbrev pub is_odd : ℕ → Bool
is_odd b = not (is_ascii_graphic b)

-- the text has letters, digits and marks of ASCII alone
abbrev pub IsPlain : List ℕ → Type 0
IsPlain xs = Fails is_odd xs

-- a text whose bytes are known is plain by `refl`
pub plain : (xs : List ℕ) → list_any is_odd xs ≡ false → IsPlain xs
plain [] h = tt
plain (x ∷ xs) h = let p = or_parts (is_odd x) (list_any is_odd xs) h in (p.0, plain xs p.1)

digit_plain : (c : ℕ) → digit_value c < 10 → is_odd c ≡ false
digit_plain c h = grind (arith, nat_tests)

pub decimal_plain : (n : ℕ) → n < 2 ^ 64 → IsPlain (decimal n)
decimal_plain n h = fails_digits is_odd digit_plain (decimal n) (decimal_is_IsNumeral n h).0.1

pub number_plain : (n : Option ℕ) → ((m : ℕ) → n ≡ Some m → m < 2 ^ 64) → IsPlain (number_json n)
number_plain None h = plain (codes "null") refl
number_plain (Some m) h = decimal_plain m (h m refl)

pub then_plain : (xs ys : List ℕ) → IsPlain xs → IsPlain ys → IsPlain (xs ++ ys)
then_plain xs ys h k = fails_append is_odd xs ys h k

place_plain : (j mode start : ℕ) → j < 2 ^ 64 → mode < 2 ^ 64 → start < 2 ^ 64 → IsPlain (place_json j mode start)
place_plain j mode start a b c =
    let activity = codes "{\"activity\":" ++ decimal j in
    let first = then_plain (codes "{\"activity\":") (decimal j) (plain (codes "{\"activity\":") refl) (decimal_plain j a) in
    let named = then_plain activity (codes ",\"mode\":") first (plain (codes ",\"mode\":") refl) in
    let chosen = activity ++ codes ",\"mode\":" ++ decimal mode in
    let second = then_plain (activity ++ codes ",\"mode\":") (decimal mode) named (decimal_plain mode b) in
    let begun = then_plain chosen (codes ",\"start\":") second (plain (codes ",\"start\":") refl) in
    let third = then_plain (chosen ++ codes ",\"start\":") (decimal start) begun (decimal_plain start c) in
    then_plain (chosen ++ codes ",\"start\":" ++ decimal start) (codes "}") third (plain (codes "}") refl)

comma_plain : (b : Bool) → IsPlain (cond b [] (codes ","))
comma_plain true = tt
comma_plain false = plain (codes ",") refl

places_plain : (i : ℕ) (modes starts : List ℕ) → i + length modes ≤ 4294967295 → AreCounted modes → AreCounted starts → IsPlain (places_json i modes starts)
places_plain i [] starts few a b = tt
places_plain i (mode ∷ modes) [] few a b = tt
places_plain i (mode ∷ modes) (start ∷ starts) few a b =
    then_plain (next_json i mode start) (places_json (i + 1) modes starts)
    (then_plain (cond (i == 0) [] (codes ",")) (place_json (i + 1) mode start) (comma_plain (i == 0)) (place_plain (i + 1) mode start (omega arith) (omega (arith, a.0)) (omega (arith, b.0))))
    (places_plain (i + 1) modes starts (omega arith) a.1 b.1)

pub schedule_plain : (s : ScheduleData) → IsWritable s → IsPlain (schedule_json (Some s))
schedule_plain s can =
    then_plain (codes "[" ++ places_json 0 s.modes s.starts) (codes "]")
    (then_plain (codes "[") (places_json 0 s.modes s.starts) (plain (codes "[") refl) (places_plain 0 s.modes s.starts (omega (arith, can.few)) can.modes can.starts))
    (plain (codes "]") refl)

low : (b : ℕ) → is_odd b ≡ false → b < 128
low b h = grind (arith, nat_tests)

not_blank : (b : ℕ) → is_odd b ≡ false → is_ascii_whitespace b ≡ false
not_blank b h = grind (arith, nat_tests)

not_feed : (b : ℕ) → is_odd b ≡ false → (b == 10) ≡ false
not_feed b h = grind (arith, nat_tests)

fails_too : (p q : ℕ → Bool) → ((b : ℕ) → p b ≡ false → q b ≡ false) → (xs : List ℕ) → Fails p xs → Fails q xs
fails_too p q each [] h = tt
fails_too p q each (x ∷ xs) h = (each x h.0, fails_too p q each xs h.1)

line_low : (xs : List ℕ) → IsPlain xs → (i : ℕ) → slice_index (xs ++ 10 ∷ []) i < 128
line_low [] h zero = omega arith
line_low [] h (suc i) = omega arith
line_low (x ∷ xs) h zero = low x h.0
line_low (x ∷ xs) h (suc i) = line_low xs h.1 i

pub line_utf8 : (xs : List ℕ) → IsPlain xs → IsUtf8 (xs ++ 10 ∷ [])
line_utf8 xs h = IsUtf8-from_ascii (xs ++ 10 ∷ []) (line_low xs h)

-- ---- no words and no rows

-- a byte with which no number begins, and which ends none
pub record Opens (x : ℕ) : Type 0 where
  pub digit : is_ascii_digit x ≡ false
  pub blank : is_ascii_whitespace x ≡ false
  pub colon : (x == 58) ≡ false
  pub comma : (x == 44) ≡ false

pub brace : Opens 123
brace = record { digit = refl; blank = refl; colon = refl; comma = refl }

pub bracket : Opens 91
bracket = record { digit = refl; blank = refl; colon = refl; comma = refl }

no_digits : (x k : ℕ) (xs : List ℕ) → Opens x → number_of (take k (x ∷ xs)) ≡ None
no_digits x zero xs o = refl
no_digits x (suc k) xs o = rw (ne_eqb (suc (length (take k xs))) 0 (λ e. omega (arith, e)), o.digit) refl

no_number : (x : ℕ) (xs : List ℕ) → Opens x → number_in (x ∷ xs) ≡ None
no_number x xs o = rw o.blank (no_digits x (length (x ∷ xs) - suffix_len is_ascii_whitespace (x ∷ xs)) xs o)

before_opens : (x mark : ℕ) (xs : List ℕ) → (x == mark) ≡ false → before mark (x ∷ xs) ≡ x ∷ before mark xs
before_opens x mark xs h = let e : 1 + position_or_len (λ b. b == mark) xs ≡ suc (position_or_len (λ b. b == mark) xs) = omega arith in rw (h, e) refl

no_place : (x mark : ℕ) (xs : List ℕ) → Opens x → (x == mark) ≡ false → place_at mark (x ∷ xs) ≡ None
no_place x mark xs o h = rw (before_opens x mark xs h, no_number x (before mark xs) o) refl

-- words whose last one is no place
no_words : (text last : List ℕ) (front : List (List ℕ)) → words_of text ≡ front ++ last ∷ [] → place_at 58 last ≡ None → IsUntold (TellsWords text)
no_words text last front all none s t =
    let words = front ++ last ∷ [] in
    let end : get_or words (length words - 1) [] ≡ last =
    let at : length words - 1 ≡ length front = omega (arith, length-append front (last ∷ [])) in
    let first : length front - length front ≡ 0 = omega arith in
    ap (λ i. get_or words i []) at ∙ get_or-append_right front (last ∷ []) (length front) (length front) [] refl (omega arith) ∙ ap (λ i. get_or (last ∷ []) i []) first in
    let number : last_number (words_of text) ≡ 0 = ap last_number all ∙ ap (λ w. option_map_or (λ (p : ScheduleEntry). p.activity) (place_at 58 w) 0) end ∙ ap (λ o. option_map_or (λ (p : ScheduleEntry). p.activity) o 0) none in
    let empty : last_words (words_of text) ≡ [] = ap (λ n. drop (length (words_of text) - n) (words_of text)) number ∙ drop_all (length (words_of text) - 0) (words_of text) (omega arith) in
    let told : t.words ≡ [] = sym (told_last text s t) ∙ empty in
    let places : placed_from 1 s.modes s.starts ≡ [] = some_of [] (placed_from 1 s.modes s.starts) [] (sym t.places ∙ ap (places_at 58) told) in
    absurd (omega (arith, ap length places, placed_length 1 s.modes s.starts t.even, t.some))

-- rows whose first one is no place
no_row : (x : ℕ) (xs text : List ℕ) (b : Bool) (rows : List (List ℕ)) → Opens x → rows_of text ≡ cond b ((x ∷ xs) ∷ []) [] → IsUntold (TellsRows text)
no_row x xs text true rows o is s t = some_is_not_none t.places (sym t.rows ∙ ap (places_at 44) is ∙ rw (no_place x 44 xs o o.comma) refl)
no_row x xs text false rows o is s t =
    let none : t.places ≡ [] = some_of [] t.places [] (sym t.rows ∙ ap (places_at 44) is) in
    absurd (omega (arith, same_size t.places s t.each, ap length none, t.some))

feed_last : (p : ℕ → Bool) → p 10 ≡ true → (xs : List ℕ) → Fails p xs → slice_split p (xs ++ 10 ∷ []) ≡ xs ∷ [] ∷ []
feed_last p h xs none = split_mid p xs 10 [] h ∙ ap (λ l. l ++ slice_split p []) (split_whole p xs none)

row_or_none : (b : Bool) (x : ℕ) (xs : List ℕ) → has_digit (x ∷ xs) ≡ b → filter has_digit ((x ∷ xs) ∷ [] ∷ []) ≡ cond b ((x ∷ xs) ∷ []) []
row_or_none true x xs e = rw e refl
row_or_none false x xs e = rw e refl

one_row : (x : ℕ) (xs : List ℕ) → IsPlain (x ∷ xs) → rows_of ((x ∷ xs) ++ 10 ∷ []) ≡ cond (has_digit (x ∷ xs)) ((x ∷ xs) ∷ []) []
one_row x xs h = ap (filter has_digit) (feed_last (λ b. b == 10) refl (x ∷ xs) (fails_too is_odd (λ b. b == 10) not_feed (x ∷ xs) h)) ∙ row_or_none (has_digit (x ∷ xs)) x xs refl

one_word : (x : ℕ) (xs : List ℕ) → IsPlain (x ∷ xs) → words_of ((x ∷ xs) ++ 10 ∷ []) ≡ (x ∷ xs) ∷ []
one_word x xs h =
    words_mid (x ∷ xs) 10 [] refl
    ∙ ap (λ l. l ++ words_of []) (words_whole (x ∷ xs) (omega arith) (fails_too is_odd is_ascii_whitespace not_blank (x ∷ xs) h))

-- ---- the line

-- a plain line that begins with a bracket holds the schedule of its value
pub line_told : (x : ℕ) (xs : List ℕ) (s : ScheduleData) → Opens x → IsPlain (x ∷ xs) → length ((x ∷ xs) ++ 10 ∷ []) ≤ MOST_BYTES → IsJsonOf ((x ∷ xs) ++ 10 ∷ []) s → Tells ((x ∷ xs) ++ 10 ∷ []) s
line_told x xs s o h short json =
    let text = (x ∷ xs) ++ 10 ∷ [] in
    let words = no_words text (x ∷ xs) [] (one_word x xs h) (no_place x 58 xs o o.colon) in
    let rows = no_row x xs text (has_digit (x ∷ xs)) (rows_of text) o (one_row x xs h) in
    record { short = short; ways = inr (words, inr (rows, inl (inl json))) }

-- ---- several lines

-- an object on a line
pub record IsObject (line : List ℕ) : Type 0 where
  pub members : json.Members
  pub numbers : MembersHaveNumbers members
  pub shallow : members_depth members ≤ 126
  pub printed : print (json_tokens (json.object members)) ≡ line
  pub rest : List ℕ
  pub begins : line ≡ 123 ∷ rest
  pub plain : IsPlain line

abbrev pub AreObjects : List (List ℕ) → Type 0
AreObjects [] = Unit {0}
AreObjects (line ∷ lines) = IsObject line × AreObjects lines

-- lines with a line feed behind each
abbrev pub with_feeds : List (List ℕ) → List ℕ
with_feeds [] = []
with_feeds (line ∷ lines) = line ++ 10 ∷ with_feeds lines

-- lines and a last one
abbrev pub lines_text : List (List ℕ) → List ℕ → List ℕ
lines_text lines last = with_feeds lines ++ (last ++ 10 ∷ [])

first_line : (line : List ℕ) (lines : List (List ℕ)) (last : List ℕ) → lines_text (line ∷ lines) last ≡ line ++ 10 ∷ lines_text lines last
first_line line lines last = append_assoc line (10 ∷ with_feeds lines) (last ++ 10 ∷ [])

some_byte : (line : List ℕ) → IsObject line → 0 < length line
some_byte line o = omega (arith, ap length o.begins)

words_in : (lines : List (List ℕ)) (last : List ℕ) → AreObjects lines → IsObject last → words_of (lines_text lines last) ≡ lines ++ last ∷ []
words_in [] last h o =
    words_mid last 10 [] refl ∙ ap (λ l. l ++ words_of []) (words_whole last (some_byte last o) (fails_too is_odd is_ascii_whitespace not_blank last o.plain))
words_in (line ∷ lines) last h o =
    ap words_of (first_line line lines last)
    ∙ words_mid line 10 (lines_text lines last) refl
    ∙ ap (λ l. l ++ words_of (lines_text lines last)) (words_whole line (some_byte line h.0) (fails_too is_odd is_ascii_whitespace not_blank line h.0.plain))
    ∙ ap (λ l. line ∷ l) (words_in lines last h.1 o)

lines_in : (lines : List (List ℕ)) (last : List ℕ) → AreObjects lines → IsObject last → slice_split (λ b. b == 10) (lines_text lines last) ≡ lines ++ last ∷ [] ∷ []
lines_in [] last h o = feed_last (λ b. b == 10) refl last (fails_too is_odd (λ b. b == 10) not_feed last o.plain)
lines_in (line ∷ lines) last h o =
    ap (slice_split (λ b. b == 10)) (first_line line lines last)
    ∙ split_mid (λ b. b == 10) line 10 (lines_text lines last) refl
    ∙ ap (λ l. l ++ slice_split (λ b. b == 10) (lines_text lines last)) (split_whole (λ b. b == 10) line (fails_too is_odd (λ b. b == 10) not_feed line h.0.plain))
    ∙ ap (λ l. line ∷ l) (lines_in lines last h.1 o)

-- each row begins with a brace
abbrev AreBraced : List (List ℕ) → Type 0
AreBraced [] = Unit {0}
AreBraced (row ∷ rows) = ((rest : List ℕ) × (row ≡ 123 ∷ rest)) × AreBraced rows

kept_braced : (b : Bool) (line : List ℕ) (rows : List (List ℕ)) → IsObject line → AreBraced rows → AreBraced (cond b (line ∷ rows) rows)
kept_braced true line rows o h = ((o.rest, o.begins), h)
kept_braced false line rows o h = h

rows_braced : (lines : List (List ℕ)) (last : List ℕ) → AreObjects lines → IsObject last → AreBraced (filter has_digit (lines ++ last ∷ [] ∷ []))
rows_braced [] last h o = kept_braced (has_digit last) last [] o tt
rows_braced (line ∷ lines) last h o = kept_braced (has_digit line) line (filter has_digit (lines ++ last ∷ [] ∷ [])) h.0 (rows_braced lines last h.1 o)

no_braced : (text : List ℕ) (rows : List (List ℕ)) → rows_of text ≡ rows → AreBraced rows → IsUntold (TellsRows text)
no_braced text [] is h s t =
    let none : t.places ≡ [] = some_of [] t.places [] (sym t.rows ∙ ap (places_at 44) is) in
    absurd (omega (arith, same_size t.places s t.each, ap length none, t.some))
no_braced text (row ∷ rows) is h s t =
    let first : place_at 44 row ≡ None = ap (place_at 44) h.0.1 ∙ no_place 123 44 h.0.0 brace refl in
    some_is_not_none t.places (sym t.rows ∙ ap (places_at 44) is ∙ rw first refl)

-- a text of objects begins with a brace
begins_braced : (lines : List (List ℕ)) (last : List ℕ) → AreObjects lines → IsObject last → (rest : List ℕ) × (lines_text lines last ≡ 123 ∷ rest)
begins_braced [] last h o = (o.rest ++ 10 ∷ [], ap (λ l. l ++ 10 ∷ []) o.begins)
begins_braced (line ∷ lines) last h o = (h.0.rest ++ 10 ∷ lines_text lines last, first_line line lines last ∙ ap (λ l. l ++ 10 ∷ lines_text lines last) h.0.begins)

no_json : (line : List ℕ) (lines : List (List ℕ)) (last : List ℕ) → IsObject line → AreObjects lines → IsObject last → IsUntold (IsJsonOf (lines_text (line ∷ lines) last))
no_json line lines last one h o s j =
    let more = begins_braced lines last h o in
    let text = first_line line lines last ∙ ap (λ l. line ++ 10 ∷ l) more.1 ∙ ap (λ l. l ++ 10 ∷ 123 ∷ more.0) (sym one.printed) in
    some_is_not_none j.value (sym j.read ∙ ap read text ∙ two_unread one.members more.0 one.numbers one.shallow)

-- the lines before the last one end with a line feed
ends_fed : (line : List ℕ) (lines : List (List ℕ)) → (front : List ℕ) × (with_feeds (line ∷ lines) ≡ front ++ 10 ∷ [])
ends_fed line [] = (line, refl)
ends_fed line (next ∷ lines) =
    let rest = ends_fed next lines in
    (line ++ 10 ∷ rest.0, ap (λ l. line ++ 10 ∷ l) rest.1 ∙ sym (append_assoc line (10 ∷ rest.0) (10 ∷ [])))

no_feed : (line : List ℕ) (k : ℕ) → IsPlain line → k < length line → get_or (line ++ 10 ∷ []) k 0 ≡ 10 → ⊥
no_feed [] k h below e = absurd (omega arith)
no_feed (x ∷ xs) zero h below e = eqb-false x 10 (not_feed x h.0) e
no_feed (x ∷ xs) (suc k) h below e = no_feed xs k h.1 (omega arith) e

last_begins : (line : List ℕ) (lines : List (List ℕ)) (last : List ℕ) → IsObject last → BeginsLastLine (lines_text (line ∷ lines) last) (length (with_feeds (line ∷ lines)))
last_begins line lines last o =
    let front = with_feeds (line ∷ lines) in
    let back = last ++ 10 ∷ [] in
    let text = front ++ back in
    let all : length text ≡ length front + (length last + 1) = omega (arith, length-append front back, length-append last (10 ∷ [])) in
    let fed = ends_fed line lines in
    let size : length front ≡ length fed.0 + 1 = omega (arith, ap length fed.1, length-append fed.0 (10 ∷ [])) in
    record {
      inside = omega (arith, all);
      behind = λ before is.
          let at : before ≡ length fed.0 = omega (arith, is, size) in
          let first : length fed.0 - length fed.0 ≡ 0 = omega arith in
          let whole : text ≡ fed.0 ++ 10 ∷ back = ap (λ l. l ++ back) fed.1 ∙ append_assoc fed.0 (10 ∷ []) back in
          ap (λ l. get_or l before 0) whole ∙ ap (λ i. get_or (fed.0 ++ 10 ∷ back) i 0) at
          ∙ get_or-append_right fed.0 (10 ∷ back) (length fed.0) (length fed.0) 0 refl (omega arith) ∙ ap (λ i. get_or (10 ∷ back) i 0) first;
      last = λ k from within e.
          let there = get_or-append_right front back (length front) k 0 refl from in
          no_feed last (k - length front) o.plain (omega (arith, all, from, within)) (sym there ∙ e);
    }

drop_lines : (front back : List ℕ) → drop (length front) (front ++ back) ≡ back
drop_lines [] back = refl
drop_lines (x ∷ front) back = drop_lines front back

in_json : (lines : List (List ℕ)) (last : List ℕ) (s : ScheduleData) → AreObjects lines → IsObject last → IsJsonOf (last ++ 10 ∷ []) s → TellsJson (lines_text lines last) s
in_json [] last s h o is = inl is
in_json (line ∷ lines) last s h o is =
    let front = with_feeds (line ∷ lines) in
    inr (no_json line lines last h.0 h.1 o, (length front, last_begins line lines last o, subst (λ (l : List ℕ). IsJsonOf l s) (sym (drop_lines front (last ++ 10 ∷ []))) is))

-- several objects tell the schedule of the last one
pub lines_told : (lines : List (List ℕ)) (last : List ℕ) (s : ScheduleData) → AreObjects lines → IsObject last → length (lines_text lines last) ≤ MOST_BYTES → IsJsonOf (last ++ 10 ∷ []) s
    → Tells (lines_text lines last) s
lines_told lines last s h o short is =
    let text = lines_text lines last in
    let words = no_words text last lines (words_in lines last h o) (ap (place_at 58) o.begins ∙ no_place 123 58 o.rest brace refl) in
    let rows = no_braced text (filter has_digit (lines ++ last ∷ [] ∷ [])) (ap (filter has_digit) (lines_in lines last h o)) (rows_braced lines last h o) in
    record { short = short; ways = inr (words, inr (rows, inl (in_json lines last s h o is))) }

-- ---- the array alone

array_text : (s : ScheduleData) → print (json_tokens (schedule_tree s)) ≡ schedule_json (Some s)
unfolding print_from
array_text s = ap (λ l. 91 ∷ l) (ap (print_from false) (sym (append-nil _)) ∙ array_printed s.modes s.starts [])

pub array_told : ArrayIsTold
array_told s can short =
    let utf8 : IsUtf8 (line_of (schedule_tree s)) = subst (λ (l : List ℕ). IsUtf8 (l ++ 10 ∷ [])) (sym (array_text s)) (line_utf8 (schedule_json (Some s)) (schedule_plain s can)) in
    let json = subst (λ (l : List ℕ). IsJsonOf (l ++ 10 ∷ []) s) (array_text s) (array_is s can utf8) in
    line_told 91 (places_json 0 s.modes s.starts ++ codes "]") s bracket (schedule_plain s can) short json
