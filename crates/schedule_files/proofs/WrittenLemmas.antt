-- The words that are written for a schedule are read as its places.
use Rattle.std.proofs.Common.{◌≡◌, inl, ℕ, zero, suc, ◌+◌, ◌-◌, ◌<◌, ◌≤◌, ◌^◌, ◌==◌, Bool, true, false, cond, min, List, [], ◌∷◌, ◌++◌, length, take, drop, get_or, refl, sym, ap, ◌∙◌, arith, append_assoc, decimal, ne_eqb, Option, Some}
use Rattle.std.specs.Char.{is_ascii_digit, is_ascii_whitespace, digit_value}
use Rattle.std.specs.List.{filter, list_all, suffix_len, position_or_len, slice_split, onto_first}
use Rattle.std.specs.Str.Parse.{AllDigits, digits_value}
use Rattle.std.proofs.lemmas.Bool.Decides.{nat_tests}
use Rattle.std.proofs.lemmas.Fmt.{decimal_is_IsNumeral}
use Rattle.std.proofs.lemmas.List.{append-nil, take_at}
use Rattle.std.proofs.lemmas.List.Elements.{filter-append}
use Rattle.std.proofs.lemmas.List.Splits.{length-slice_split}
use Rattle.std.proofs.lemmas.List.Sums.{suffix_len-take_no}
use Rattle.mrcpsp.specs.Schedule.{ScheduleData}
use Rattle.schedule_files.specs.Places.{◌>>=◌, placed_from}
use Rattle.schedule_files.specs.ScheduleRows.{is_word, words_of, number_of, number_in, without_front, before, behind, place_at, places_at}
use Rattle.schedule_files.specs.Laws.{AreCounted, WordsAreTold}
use Rattle.schedule_files.specs.ScheduleText.{place_text, places_text, schedule_text, TellsWords}
use Rattle.schedule_files.specs.declared.places.ScheduleEntry.{ScheduleEntry}

-- no element passes the test
abbrev pub Fails : (ℕ → Bool) → List ℕ → Type 0
Fails p [] = Unit {0}
Fails p (x ∷ xs) = (p x ≡ false) × Fails p xs

pub fails_append : (p : ℕ → Bool) (xs ys : List ℕ) → Fails p xs → Fails p ys → Fails p (xs ++ ys)
fails_append p [] ys h k = k
fails_append p (x ∷ xs) ys h k = (h.0, fails_append p xs ys h.1 k)

pub fails_digits : (p : ℕ → Bool) → ((c : ℕ) → digit_value c < 10 → p c ≡ false) → (ds : List ℕ) → AllDigits 10 ds → Fails p ds
fails_digits p each [] h = tt
fails_digits p each (d ∷ ds) h = (each d h.0, fails_digits p each ds h.1)

fails_at : (p : ℕ → Bool) (xs : List ℕ) (k : ℕ) → Fails p xs → k < length xs → p (get_or xs k 0) ≡ false
fails_at p [] k h below = absurd (omega arith)
fails_at p (x ∷ xs) zero h below = h.0
fails_at p (x ∷ xs) (suc k) h below = fails_at p xs k h.1 (omega arith)

-- ---- digits

no_blank : (c : ℕ) → digit_value c < 10 → is_ascii_whitespace c ≡ false
no_blank c h = grind (arith, nat_tests)

no_colon : (c : ℕ) → digit_value c < 10 → (c == 58) ≡ false
no_colon c h = grind (arith, nat_tests)

a_digit : (c : ℕ) → digit_value c < 10 → is_ascii_digit c ≡ true
a_digit c h = grind (arith, nat_tests)

all_digits : (ds : List ℕ) → AllDigits 10 ds → list_all is_ascii_digit ds ≡ true
all_digits [] h = refl
all_digits (d ∷ ds) h = rw (a_digit d h.0) (all_digits ds h.1)

pub blanks_in : (n : ℕ) → n < 2 ^ 64 → Fails is_ascii_whitespace (decimal n)
blanks_in n h = fails_digits is_ascii_whitespace no_blank (decimal n) (decimal_is_IsNumeral n h).0.1

colons_in : (n : ℕ) → n < 2 ^ 64 → Fails (λ b. b == 58) (decimal n)
colons_in n h = fails_digits (λ b. b == 58) no_colon (decimal n) (decimal_is_IsNumeral n h).0.1

-- ---- splits

onto_append : (x : ℕ) (parts more : List (List ℕ)) → 0 < length parts → onto_first x (parts ++ more) ≡ onto_first x parts ++ more
onto_append x [] more h = absurd (omega arith)
onto_append x (part ∷ parts) more h = refl

split_step : (b : Bool) (x : ℕ) (parts more whole : List (List ℕ)) → whole ≡ parts ++ more → 0 < length parts
    → cond b ([] ∷ whole) (onto_first x whole) ≡ cond b ([] ∷ parts) (onto_first x parts) ++ more
split_step true x parts more whole e some = ap (λ l. [] ∷ l) e
split_step false x parts more whole e some = ap (onto_first x) e ∙ onto_append x parts more some

pub split_mid : (p : ℕ → Bool) (xs : List ℕ) (y : ℕ) (ys : List ℕ) → p y ≡ true → slice_split p (xs ++ y ∷ ys) ≡ slice_split p xs ++ slice_split p ys
split_mid p [] y ys h = rw h refl
split_mid p (x ∷ xs) y ys h =
    let i = split_mid p xs y ys h in
    let some : 0 < length (slice_split p xs) = omega (arith, length-slice_split p xs) in
    split_step (p x) x (slice_split p xs) (slice_split p ys) (slice_split p (xs ++ y ∷ ys)) i some

pub split_whole : (p : ℕ → Bool) (xs : List ℕ) → Fails p xs → slice_split p xs ≡ xs ∷ []
split_whole p [] h = refl
split_whole p (x ∷ xs) h = rw h.0 (ap (onto_first x) (split_whole p xs h.1))

-- the words of two texts with white space between them
pub words_mid : (xs : List ℕ) (y : ℕ) (ys : List ℕ) → is_ascii_whitespace y ≡ true → words_of (xs ++ y ∷ ys) ≡ words_of xs ++ words_of ys
words_mid xs y ys h = ap (filter is_word) (split_mid is_ascii_whitespace xs y ys h) ∙ filter-append is_word (slice_split is_ascii_whitespace xs) (slice_split is_ascii_whitespace ys)

word_kept : (x : ℕ) (xs : List ℕ) → filter is_word ((x ∷ xs) ∷ []) ≡ (x ∷ xs) ∷ []
word_kept x xs = rw (ne_eqb (suc (length xs)) 0 (λ e. omega (arith, e))) refl

one_word : (xs : List ℕ) → 0 < length xs → filter is_word (xs ∷ []) ≡ xs ∷ []
one_word [] h = absurd (omega arith)
one_word (x ∷ xs) h = word_kept x xs

pub words_whole : (xs : List ℕ) → 0 < length xs → Fails is_ascii_whitespace xs → words_of xs ≡ xs ∷ []
words_whole xs some h = ap (filter is_word) (split_whole is_ascii_whitespace xs h) ∙ one_word xs some

-- ---- marks

mark_at : (p : ℕ → Bool) (xs : List ℕ) (y : ℕ) (ys : List ℕ) → Fails p xs → p y ≡ true → position_or_len p (xs ++ y ∷ ys) ≡ length xs
mark_at p [] y ys h e = rw e refl
mark_at p (x ∷ xs) y ys h e = let r = mark_at p xs y ys h.1 e in rw h.0 (omega (arith, r))

before_mark : (xs ys : List ℕ) → Fails (λ b. b == 58) xs → before 58 (xs ++ 58 ∷ ys) ≡ xs
before_mark xs ys h =
    let at = mark_at (λ b. b == 58) xs 58 ys h refl in
    ap (λ n. take n (xs ++ 58 ∷ ys)) at ∙ take_at xs (58 ∷ ys) (length xs) refl

behind_one : (xs ys : List ℕ) → drop (length xs + 1) (xs ++ 58 ∷ ys) ≡ ys
behind_one [] ys = refl
behind_one (x ∷ xs) ys = let e : suc (length xs) + 1 ≡ suc (length xs + 1) = omega arith in rw e (behind_one xs ys)

behind_mark : (xs ys : List ℕ) → Fails (λ b. b == 58) xs → behind 58 (xs ++ 58 ∷ ys) ≡ ys
behind_mark xs ys h =
    let at = mark_at (λ b. b == 58) xs 58 ys h refl in
    ap (λ n. drop (n + 1) (xs ++ 58 ∷ ys)) at ∙ behind_one xs ys

-- ---- numbers

no_front : (xs : List ℕ) → Fails is_ascii_whitespace xs → without_front xs ≡ xs
no_front [] h = refl
no_front (x ∷ xs) h = rw h.0 refl

no_back : (xs : List ℕ) → 0 < length xs → Fails is_ascii_whitespace xs → suffix_len is_ascii_whitespace xs ≡ 0
no_back xs some h =
    let whole = append-nil xs in
    let front : take (length xs) xs ≡ xs = ap (take (length xs)) (sym whole) ∙ take_at xs [] (length xs) refl in
    ap (suffix_len is_ascii_whitespace) (sym front)
    ∙ suffix_len-take_no is_ascii_whitespace xs (length xs) 0 some (omega arith) (fails_at is_ascii_whitespace xs (length xs - 1) h (omega arith))

number_is : (xs : List ℕ) (n : ℕ) → 0 < length xs → AllDigits 10 xs → digits_value 10 xs ≡ n → n ≤ 4294967295 → number_of xs ≡ Some n
number_is [] n some h e small = absurd (omega arith)
number_is (x ∷ xs) n some h e small = rw (ne_eqb (suc (length xs)) 0 (λ z. omega (arith, z)), all_digits (x ∷ xs) h) (ap Some (ap (min 4294967295) e ∙ omega arith))

pub number_read : (n : ℕ) → n ≤ 4294967295 → number_in (decimal n) ≡ Some n
number_read n small =
    let wide : n < 2 ^ 64 = omega arith in
    let d = decimal_is_IsNumeral n wide in
    let blanks = blanks_in n wide in
    let some : 0 < length (decimal n) = d.0.0 in
    let none = no_back (decimal n) some blanks in
    let end : length (decimal n) - suffix_len is_ascii_whitespace (decimal n) ≡ length (decimal n) = omega (arith, none) in
    let back = ap (λ k. take k (decimal n)) end in
    let whole : take (length (decimal n)) (decimal n) ≡ decimal n = ap (take (length (decimal n))) (sym (append-nil (decimal n))) ∙ take_at (decimal n) [] (length (decimal n)) refl in
    ap (λ l. number_of (take (length l - suffix_len is_ascii_whitespace l) l)) (no_front (decimal n) blanks)
    ∙ ap number_of (back ∙ whole)
    ∙ number_is (decimal n) n some d.0.1 d.1 small

-- ---- words

-- the word of activity j
abbrev pub word_text : ℕ → ℕ → ℕ → List ℕ
word_text j mode start = decimal j ++ 58 ∷ (decimal mode ++ 58 ∷ decimal start)

abbrev entry_of : Option ℕ → Option ℕ → Option ℕ → Option ScheduleEntry
entry_of a b c = do
  activity ← a
  mode ← b
  start ← c
  Some (record { activity = activity; mode = mode; start = start })

place_parts : (a b c : List ℕ) → Fails (λ x. x == 58) a → Fails (λ x. x == 58) b
    → place_at 58 (a ++ 58 ∷ (b ++ 58 ∷ c)) ≡ entry_of (number_in a) (number_in b) (number_in c)
place_parts a b c h k =
    let rest = b ++ 58 ∷ c in
    let first = before_mark a rest h in
    let behind_first = behind_mark a rest h in
    let second = ap (before 58) behind_first ∙ before_mark b c k in
    let third = ap (behind 58) behind_first ∙ behind_mark b c k in
    ap (λ l. entry_of (number_in l) (number_in (before 58 (behind 58 (a ++ 58 ∷ rest)))) (number_in (behind 58 (behind 58 (a ++ 58 ∷ rest))))) first
    ∙ ap (λ l. entry_of (number_in a) (number_in l) (number_in (behind 58 (behind 58 (a ++ 58 ∷ rest))))) second
    ∙ ap (λ l. entry_of (number_in a) (number_in b) (number_in l)) third

place_read : (j mode start : ℕ) → j ≤ 4294967295 → mode ≤ 4294967295 → start ≤ 4294967295 → place_at 58 (word_text j mode start) ≡ Some (record { activity = j; mode = mode; start = start })
place_read j mode start a b c =
    place_parts (decimal j) (decimal mode) (decimal start) (colons_in j (omega arith)) (colons_in mode (omega arith))
    ∙ ap (λ o. entry_of o (number_in (decimal mode)) (number_in (decimal start))) (number_read j a)
    ∙ ap (λ o. entry_of (Some j) o (number_in (decimal start))) (number_read mode b)
    ∙ ap (entry_of (Some j) (Some mode)) (number_read start c)

-- the words of activities, from number j on
abbrev word_texts : ℕ → List ℕ → List ℕ → List (List ℕ)
word_texts j [] starts = []
word_texts j (mode ∷ modes) [] = []
word_texts j (mode ∷ modes) (start ∷ starts) = word_text j mode start ∷ word_texts (j + 1) modes starts

places_read : (j : ℕ) (modes starts : List ℕ) → j + length modes ≤ 4294967296 → AreCounted modes → AreCounted starts → places_at 58 (word_texts j modes starts) ≡ Some (placed_from j modes starts)
places_read j [] starts few a b = refl
places_read j (mode ∷ modes) [] few a b = refl
places_read j (mode ∷ modes) (start ∷ starts) few a b =
    rw (place_read j mode start (omega arith) a.0 b.0) (rw (places_read (j + 1) modes starts (omega arith) a.1 b.1) refl)

-- a text that begins with white space
abbrev BeginsBlank : List ℕ → Type 0
BeginsBlank [] = ⊥
BeginsBlank (y ∷ ys) = is_ascii_whitespace y ≡ true

words_then : (xs rest : List ℕ) → BeginsBlank rest → words_of (xs ++ rest) ≡ words_of xs ++ words_of rest
words_then xs [] h = absurd h
words_then xs (y ∷ ys) h = words_mid xs y ys h ∙ ap (λ l. words_of xs ++ l) (sym (words_mid [] y ys h))

blank_first : (j : ℕ) (modes starts : List ℕ) → BeginsBlank (places_text j modes starts ++ 10 ∷ [])
blank_first j [] starts = refl
blank_first j (mode ∷ modes) [] = refl
blank_first j (mode ∷ modes) (start ∷ starts) = refl

some_word : (xs ys : List ℕ) → 0 < length (xs ++ 58 ∷ ys)
some_word [] ys = omega arith
some_word (x ∷ xs) ys = omega arith

word_whole : (j mode start : ℕ) → j < 2 ^ 64 → mode < 2 ^ 64 → start < 2 ^ 64 → words_of (word_text j mode start) ≡ word_text j mode start ∷ []
word_whole j mode start a b c =
    words_whole (word_text j mode start) (some_word (decimal j) (decimal mode ++ 58 ∷ decimal start))
    (fails_append is_ascii_whitespace (decimal j) (58 ∷ (decimal mode ++ 58 ∷ decimal start)) (blanks_in j a)
    (refl, fails_append is_ascii_whitespace (decimal mode) (58 ∷ decimal start) (blanks_in mode b) (refl, blanks_in start c)))

place_front : (j mode start : ℕ) (rest : List ℕ) → place_text j mode start ++ rest ≡ 32 ∷ (word_text j mode start ++ rest)
place_front j mode start rest = simp append_assoc

words_read : (j : ℕ) (modes starts : List ℕ) → j + length modes ≤ 4294967296 → AreCounted modes → AreCounted starts → words_of (places_text j modes starts ++ 10 ∷ []) ≡ word_texts j modes starts
words_read j [] starts few a b = refl
words_read j (mode ∷ modes) [] few a b = refl
words_read j (mode ∷ modes) (start ∷ starts) few a b =
    let word = word_text j mode start in
    let rest = places_text (j + 1) modes starts ++ 10 ∷ [] in
    let whole = append_assoc (place_text j mode start) (places_text (j + 1) modes starts) (10 ∷ []) in
    ap words_of whole
    ∙ ap words_of (place_front j mode start rest)
    ∙ words_mid [] 32 (word ++ rest) refl
    ∙ words_then word rest (blank_first (j + 1) modes starts)
    ∙ ap (λ l. l ++ words_of rest) (word_whole j mode start (omega arith) (omega (arith, a.0)) (omega (arith, b.0)))
    ∙ ap (λ l. word ∷ l) (words_read (j + 1) modes starts (omega arith) a.1 b.1)

-- the schedule that is written at the end of a text is read
pub written_told : (front : List ℕ) (s : ScheduleData) → length s.modes ≡ length s.starts → 0 < length s.modes → length s.modes < 4294967296 → AreCounted s.modes → AreCounted s.starts
    → TellsWords (front ++ (schedule_text s ++ 10 ∷ [])) s
written_told front s even some few a b = record {
  front = words_of front;
  words = word_texts 1 s.modes s.starts;
  ends = words_then front (schedule_text s ++ 10 ∷ []) (blank_first 1 s.modes s.starts) ∙ ap (λ l. words_of front ++ l) (words_read 1 s.modes s.starts (omega arith) a b);
  places = places_read 1 s.modes s.starts (omega arith) a b;
  even = even;
  some = some;
}

pub words_are_told : WordsAreTold
words_are_told front s can short = record { short = short; ways = inl (written_told front s can.even can.some (omega (arith, can.few)) can.modes can.starts) }
