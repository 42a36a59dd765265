-- Words and rows of a text: that a text which holds a schedule is found to hold one.
use Rattle.std.proofs.Common.{◌≡◌, ◌⊎◌, ⊎_elim, inr, ℕ, zero, suc, ◌+◌, ◌-◌, ◌<◌, List, [], ◌∷◌, ◌++◌, length, length-append, take, drop, get_or, refl, sym, ap, ◌∙◌, arith, subst, Option, Some, None, IfSome, IfNone, Result, Ok, Err, IfOk}
use Rattle.std.proofs.lemmas.List.{get_or-append_right, take-append-drop}
use Rattle.std.proofs.lemmas.List.Sorted.{length_permutation}
use Rattle.std.proofs.lemmas.Option.{none-some}
use Rattle.std.specs.Option.{option_map_or}
use Rattle.mrcpsp.specs.Schedule.{ScheduleData}
use Rattle.schedule_files.specs.Places.{◌>>=◌, placed_from, ArePlaces, IsStrayAt, IsUntold}
use Rattle.schedule_files.specs.ScheduleRows.{words_of, rows_of, place_at, places_at, last_number, last_words}
use Rattle.schedule_files.specs.ScheduleText.{TellsWords, TellsRows, TellsJsonOrTable, TellsSomehow, Tells}
use Rattle.schedule_files.specs.declared.places.ScheduleEntry.{ScheduleEntry}
use Rattle.schedule_files.proofs.OrderLemmas.{placed_length, placed_number, no_stray}

pub some_of : {A : Type 0} (d x y : A) → Some x ≡ Some y → x ≡ y
some_of d x y e = ap (λ o. option_map_or (λ v. v) o d) e

pub some_is_not_none : {A : Type 0} (x : A) → Some x ≡ None → ⊥
some_is_not_none x e = none-some x (sym e)

-- the first part of a list that is read is read, and so are the others
record IsRead (first : Option ScheduleEntry) (rest : Option (List ScheduleEntry)) (all : List ScheduleEntry) : Type 0 where
  pub place : ScheduleEntry
  pub places : List ScheduleEntry
  pub one : first ≡ Some place
  pub others : rest ≡ Some places
  pub is : all ≡ place ∷ places

read_parts : (first : Option ScheduleEntry) (rest : Option (List ScheduleEntry)) (all : List ScheduleEntry)
    → (first >>= (λ place. rest >>= (λ places. Some (place ∷ places)))) ≡ Some all → IsRead first rest all
read_parts None rest all e = absurd (some_is_not_none all (sym e))
read_parts (Some x) None all e = absurd (some_is_not_none all (sym e))
read_parts (Some x) (Some xs) all e = record { place = x; places = xs; one = refl; others = refl; is = sym (some_of [] (x ∷ xs) all e) }

-- one place for each text
pub places_length : (mark : ℕ) (texts : List (List ℕ)) (places : List ScheduleEntry) → places_at mark texts ≡ Some places → length places ≡ length texts
places_length mark [] places e = ap length (sym (some_of [] [] places e))
places_length mark (text ∷ texts) places e =
    let r = read_parts (place_at mark text) (places_at mark texts) places e in
    ap length r.is ∙ ap suc (places_length mark texts r.places r.others)

-- each text is its place
pub place_each : (mark : ℕ) (texts : List (List ℕ)) (places : List ScheduleEntry) (k : ℕ) (d : ScheduleEntry) → places_at mark texts ≡ Some places → k < length texts
    → place_at mark (get_or texts k []) ≡ Some (get_or places k d)
place_each mark [] places k d e h = absurd (omega arith)
place_each mark (text ∷ texts) places zero d e h =
    let r = read_parts (place_at mark text) (places_at mark texts) places e in
    r.one ∙ ap Some (sym (ap (λ l. get_or l 0 d) r.is))
place_each mark (text ∷ texts) places (suc k) d e h =
    let r = read_parts (place_at mark text) (places_at mark texts) places e in
    place_each mark texts r.places k d r.others (omega arith) ∙ ap Some (sym (ap (λ l. get_or l (suc k) d) r.is))

drop_front : {A : Type 0} (front back : List A) (n : ℕ) → n ≡ length front → drop n (front ++ back) ≡ back
drop_front [] back n e = let z : n ≡ 0 = e in rw z refl
drop_front (x ∷ front) back zero e = absurd (omega (arith, e))
drop_front (x ∷ front) back (suc n) e = drop_front front back n (omega (arith, e))

-- the last words of a text that holds a schedule are those that hold it
pub told_last : (text : List ℕ) (s : ScheduleData) (t : TellsWords text s) → last_words (words_of text) ≡ t.words
told_last text s t =
    let d : ScheduleEntry = record { activity = 0; mode = 0; start = 0 } in
    let places = placed_from 1 s.modes s.starts in
    let some = t.some in
    let n : length t.words ≡ length s.modes = sym (places_length 58 t.words places t.places) ∙ placed_length 1 s.modes s.starts t.even in
    let all : length (words_of text) ≡ length t.front + length t.words = ap length t.ends ∙ length-append t.front t.words in
    let last : get_or (words_of text) (length (words_of text) - 1) [] ≡ get_or t.words (length t.words - 1) [] =
    let at : length (words_of text) - 1 ≡ length t.front + (length t.words - 1) = omega (arith, all, n, some) in
    ap (λ i. get_or (words_of text) i []) at ∙ ap (λ l. get_or l (length t.front + (length t.words - 1)) []) t.ends ∙ get_or-append_right t.front t.words (length t.front) (length t.front + (length t.words - 1)) [] refl (omega arith)
    ∙ ap (λ i. get_or t.words i []) (omega arith) in
    let number : last_number (words_of text) ≡ length t.words =
    let a = place_each 58 t.words places (length t.words - 1) d t.places (omega (arith, n, some)) in
    let b = placed_number 1 (length t.words - 1) s.modes s.starts d t.even (omega (arith, n, some)) in
    ap (λ w. option_map_or (λ (p : ScheduleEntry). p.activity) (place_at 58 w) 0) last ∙ ap (λ o. option_map_or (λ (p : ScheduleEntry). p.activity) o 0) a ∙ omega (arith, b, n, some) in
    ap (λ k. drop (length (words_of text) - k) (words_of text)) number
    ∙ ap (λ l. drop (length (words_of text) - length t.words) l) t.ends
    ∙ drop_front t.front t.words (length (words_of text) - length t.words) (omega (arith, all))

-- words that are no places tell nothing
pub words_unread : (text : List ℕ) (words : List (List ℕ)) → words ≡ last_words (words_of text) → places_at 58 words ≡ None → (s : ScheduleData) → TellsWords text s → ⊥
words_unread text words is none s t = some_is_not_none (placed_from 1 s.modes s.starts) (sym t.places ∙ ap (places_at 58) (sym (told_last text s t) ∙ sym is) ∙ none)

-- words whose places are in order tell the schedule of these
pub words_told : (text : List ℕ) (all words : List (List ℕ)) (entries : List ScheduleEntry) (found result : Option ScheduleData) → all ≡ words_of text → words ≡ last_words all → places_at 58 words ≡ Some entries
    → IfSome found (λ s. (length s.modes ≡ length s.starts) × (entries ≡ placed_from 1 s.modes s.starts)) → IfSome result (λ s. (found ≡ Some s) × (0 < length s.modes)) → IfSome result (λ s. TellsWords text s)
words_told text all words entries found None whole is read placed some = tt
words_told text all words entries None (Some s) whole is read placed some = absurd (some_is_not_none s (sym some.0))
words_told text all words entries (Some x) (Some s) whole is read placed some =
    let same : x ≡ s = some_of s x s some.0 in
    let now : (length s.modes ≡ length s.starts) × (entries ≡ placed_from 1 s.modes s.starts) = subst (λ (y : ScheduleData). (length y.modes ≡ length y.starts) × (entries ≡ placed_from 1 y.modes y.starts)) same placed in
    record {
      front = take (length all - last_number all) all;
      words = words;
      ends = sym whole ∙ sym (take-append-drop (length all - last_number all) all) ∙ ap (λ l. take (length all - last_number all) all ++ l) (sym is);
      places = read ∙ ap Some now.1;
      even = now.0;
      some = some.1;
    }

told_entries : (text : List ℕ) (words : List (List ℕ)) (entries : List ScheduleEntry) (s : ScheduleData) → words ≡ last_words (words_of text) → places_at 58 words ≡ Some entries
    → TellsWords text s → entries ≡ placed_from 1 s.modes s.starts
told_entries text words entries s is read t =
    some_of [] entries (placed_from 1 s.modes s.starts) (sym read ∙ ap (places_at 58) (is ∙ told_last text s t) ∙ t.places)

-- if no schedule with an activity was found, the words tell none
pub words_none : (text : List ℕ) (words : List (List ℕ)) (entries : List ScheduleEntry) (found result : Option ScheduleData) → words ≡ last_words (words_of text) → places_at 58 words ≡ Some entries
    → IfNone found ((place : ℕ) × IsStrayAt entries place) → IfSome found (λ s. (length s.modes ≡ length s.starts) × (entries ≡ placed_from 1 s.modes s.starts))
    → IfNone result (IfSome found (λ s. length s.modes ≡ 0)) → IfNone result ((s : ScheduleData) → TellsWords text s → ⊥)
words_none text words entries found (Some x) is read stray placed none = tt
words_none text words entries None None is read stray placed none = λ s t. no_stray entries stray.0 s.modes s.starts stray.1 t.even (told_entries text words entries s is read t)
words_none text words entries (Some x) None is read stray placed none = λ s t.
    let a = ap length placed.1 ∙ placed_length 1 x.modes x.starts placed.0 in
    let b = ap length (told_entries text words entries s is read t) ∙ placed_length 1 s.modes s.starts t.even in
    let empty : length x.modes ≡ 0 = none in
    absurd (omega (arith, a, b, empty, t.some))

pub rows_unread : (text : List ℕ) (rows : List (List ℕ)) → rows ≡ rows_of text → places_at 44 rows ≡ None → (s : ScheduleData) → TellsRows text s → ⊥
rows_unread text rows is none s t = some_is_not_none t.places (sym t.rows ∙ ap (places_at 44) (sym is) ∙ none)

pub rows_told : (text : List ℕ) (rows : List (List ℕ)) (entries : List ScheduleEntry) (found result : Option ScheduleData) → rows ≡ rows_of text → places_at 44 rows ≡ Some entries
    → IfSome found (λ s. ArePlaces entries s) → IfSome result (λ s. (found ≡ Some s) × (0 < length s.modes)) → IfSome result (λ s. TellsRows text s)
rows_told text rows entries found None is read told some = tt
rows_told text rows entries None (Some s) is read told some = absurd (some_is_not_none s (sym some.0))
rows_told text rows entries (Some x) (Some s) is read told some =
    record { places = entries; rows = ap (places_at 44) (sym is) ∙ read; each = subst (λ (y : ScheduleData). ArePlaces entries y) (some_of s x s some.0) told; some = some.1 }

pub same_size : (entries : List ScheduleEntry) (s : ScheduleData) → ArePlaces entries s → length entries ≡ length s.modes
same_size entries s told = sym (length_permutation entries (placed_from 1 s.modes s.starts) told.whole) ∙ placed_length 1 s.modes s.starts told.even

row_entries : (text : List ℕ) (rows : List (List ℕ)) (entries : List ScheduleEntry) (s : ScheduleData) → rows ≡ rows_of text → places_at 44 rows ≡ Some entries → (t : TellsRows text s) → t.places ≡ entries
row_entries text rows entries s is read t = some_of [] t.places entries (sym t.rows ∙ ap (places_at 44) (sym is) ∙ read)

pub rows_none : (text : List ℕ) (rows : List (List ℕ)) (entries : List ScheduleEntry) (found result : Option ScheduleData) → rows ≡ rows_of text → places_at 44 rows ≡ Some entries
    → IfNone found ((s : ScheduleData) → ArePlaces entries s → ⊥) → IfSome found (λ s. ArePlaces entries s)
    → IfNone result (IfSome found (λ s. length s.modes ≡ 0)) → IfNone result ((s : ScheduleData) → TellsRows text s → ⊥)
rows_none text rows entries found (Some x) is read never told none = tt
rows_none text rows entries None None is read never told none = λ s t. never s (subst (λ l. ArePlaces l s) (row_entries text rows entries s is read t) t.each)
rows_none text rows entries (Some x) None is read never told none = λ s t.
    let a = same_size entries x told in
    let b = same_size t.places s t.each in
    let c = ap length (row_entries text rows entries s is read t) in
    let empty : length x.modes ≡ 0 = none in
    absurd (omega (arith, a, b, c, empty, t.some))

-- what a text holds as JSON or as a table, if it holds nothing as words or rows
pub json_way : {E : Type 0} (text : List ℕ) (r : Result (Option ScheduleData) E) → IsUntold (TellsWords text) → IsUntold (TellsRows text) → IfOk r (λ found. IfSome found (λ s. TellsJsonOrTable text s))
    → IfOk r (λ found. IfSome found (λ s. TellsSomehow text s))
json_way text (Ok (Some s)) words rows json = inr (words, inr (rows, json))
json_way text (Ok None) words rows json = tt
json_way text (Err e) words rows json = tt

-- a text that holds no schedule of any form holds none
pub no_way : {E : Type 0} (text : List ℕ) (r : Result (Option ScheduleData) E) → IsUntold (TellsWords text) → IsUntold (TellsRows text) → IfOk r (λ found. IfNone found (IsUntold (TellsJsonOrTable text)))
    → IfOk r (λ found. IfNone found (IsUntold (TellsSomehow text)))
no_way text (Ok (Some s)) words rows json = tt
no_way text (Ok None) words rows json = λ s t.
    ⊎_elim (λ (w : TellsWords text s). words s w)
    (λ (o : IsUntold (TellsWords text) × (TellsRows text s ⊎ (IsUntold (TellsRows text) × TellsJsonOrTable text s))).
    ⊎_elim (λ (x : TellsRows text s). rows s x) (λ (j : IsUntold (TellsRows text) × TellsJsonOrTable text s). json s j.1) o.1)
    t
no_way text (Err e) words rows json = tt

pub one_way : {E : Type 0} (text : List ℕ) (r : Result (Option ScheduleData) E) → IfOk r (λ found. IfNone found (IsUntold (TellsSomehow text))) → IfOk r (λ found. IfNone found (IsUntold (Tells text)))
one_way text (Ok (Some s)) never = tt
one_way text (Ok None) never = λ s t. never s t.ways
one_way text (Err e) never = tt
