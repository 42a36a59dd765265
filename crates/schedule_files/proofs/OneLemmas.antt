-- A text holds at most one schedule.
use Rattle.std.proofs.Common.{◌≡◌, inl, inr, ℕ, zero, suc, ◌+◌, ◌<◌, ◌==◌, cond, List, [], ◌∷◌, length, drop, get_or, sum_by, refl, sym, ap, ◌∙◌, arith, subst}
use Rattle.std.proofs.lemmas.Bool.Decides.{nat_tests}
use Rattle.std.specs.Option.{option_and_then}
use Rattle.std.proofs.lemmas.List.Sums.{sum_by-cons}
use Rattle.std.specs.List.Sorted.{IsPermutation}
use Rattle.std.proofs.lemmas.List.Sorted.{length_permutation, sum_by-IsPermutation, IsPermutation-sym, IsPermutation-trans, IsPermutation-refl}
use Rattle.serde_json.specs.Data.{Data}
use Rattle.mrcpsp.specs.Schedule.{ScheduleData}
use Rattle.schedule_files.specs.Places.{placed_from, ArePlaces}
use Rattle.schedule_files.specs.ScheduleRows.{places_at}
use Rattle.schedule_files.specs.ScheduleJson.{BeginsLastLine, IsJsonOf, TellsJson, places_of, array_of}
use Rattle.schedule_files.specs.ScheduleText.{TellsWords, TellsRows, TellsJsonOrTable, TellsSomehow, Tells}
use Rattle.schedule_files.specs.ScheduleTable.{TellsTable, table_places}
use Rattle.schedule_files.proofs.TableLemmas.{one_table}
use Rattle.schedule_files.specs.declared.places.ScheduleEntry.{ScheduleEntry}
use Rattle.schedule_files.proofs.OrderLemmas.{placed_length}
use Rattle.schedule_files.proofs.JsonLemmas.{one_last_line}
use Rattle.schedule_files.proofs.ReadingLemmas.{told_last, some_of}

-- what is picked of the place of activity i, and 0 of another
abbrev value_at : (ℕ → ℕ → ℕ) → ℕ → ScheduleEntry → ℕ
value_at pick i place = cond (place.activity == i) (pick place.mode place.start) 0

value_here : (pick : ℕ → ℕ → ℕ) (i j m s : ℕ) → j ≡ i → value_at pick i (record { activity = j; mode = m; start = s }) ≡ pick m s
value_here pick i j m s e = grind (arith, nat_tests)

value_elsewhere : (pick : ℕ → ℕ → ℕ) (i j m s : ℕ) → (j ≡ i → ⊥) → value_at pick i (record { activity = j; mode = m; start = s }) ≡ 0
value_elsewhere pick i j m s ne = grind (arith, nat_tests)

none_above : (pick : ℕ → ℕ → ℕ) (i j : ℕ) (modes starts : List ℕ) → i < j → sum_by (value_at pick i) (placed_from j modes starts) ≡ 0
none_above pick i j [] starts h = refl
none_above pick i j (m ∷ modes) [] h = refl
none_above pick i j (m ∷ modes) (s ∷ starts) h =
    let first = value_elsewhere pick i j m s (λ e. omega (arith, e, h)) in
    let rest = none_above pick i (j + 1) modes starts (omega arith) in
    omega (arith, sum_by-cons (value_at pick i) (record { activity = j; mode = m; start = s }) (placed_from (j + 1) modes starts), first, rest)

-- the sum of what is picked of one activity is what its place has
picked : (pick : ℕ → ℕ → ℕ) (k i j : ℕ) (modes starts : List ℕ) → pick 0 0 ≡ 0 → i ≡ k + j → length modes ≡ length starts
    → sum_by (value_at pick i) (placed_from j modes starts) ≡ pick (get_or modes k 0) (get_or starts k 0)
picked pick k i j [] [] none e even = sym none
picked pick k i j [] (s ∷ starts) none e even = absurd (omega (arith, even))
picked pick k i j (m ∷ modes) [] none e even = absurd (omega (arith, even))
picked pick zero i j (m ∷ modes) (s ∷ starts) none e even =
    let first = value_here pick i j m s (omega (arith, e)) in
    let rest = none_above pick i (j + 1) modes starts (omega (arith, e)) in
    omega (arith, sum_by-cons (value_at pick i) (record { activity = j; mode = m; start = s }) (placed_from (j + 1) modes starts), first, rest)
picked pick (suc k) i j (m ∷ modes) (s ∷ starts) none e even =
    let first = value_elsewhere pick i j m s (λ same. omega (arith, e, same)) in
    let rest = picked pick k i (j + 1) modes starts none (omega (arith, e)) (omega (arith, even)) in
    sum_by-cons (value_at pick i) (record { activity = j; mode = m; start = s }) (placed_from (j + 1) modes starts) ∙ omega (arith, first, rest)

same_lists : (xs ys : List ℕ) → length xs ≡ length ys → ((k : ℕ) → get_or xs k 0 ≡ get_or ys k 0) → xs ≡ ys
same_lists [] [] n each = refl
same_lists [] (y ∷ ys) n each = absurd (omega (arith, n))
same_lists (x ∷ xs) [] n each = absurd (omega (arith, n))
same_lists (x ∷ xs) (y ∷ ys) n each =
    let first : x ≡ y = each 0 in
    let rest = same_lists xs ys (omega (arith, n)) (λ k. each (suc k)) in
    ap (λ z. z ∷ xs) first ∙ ap (λ l. y ∷ l) rest

-- schedules with the same places in any order
one_placed : (s t : ScheduleData) → length s.modes ≡ length s.starts → length t.modes ≡ length t.starts → IsPermutation (placed_from 1 s.modes s.starts) (placed_from 1 t.modes t.starts) → s ≡ t
one_placed s t even other same =
    let n = length_permutation (placed_from 1 s.modes s.starts) (placed_from 1 t.modes t.starts) same in
    let a = placed_length 1 s.modes s.starts even in
    let b = placed_length 1 t.modes t.starts other in
    let size : length s.modes ≡ length t.modes = omega (arith, n, a, b) in
    let modes : s.modes ≡ t.modes = same_lists s.modes t.modes size (λ k.
    sym (picked (λ m x. m) k (k + 1) 1 s.modes s.starts refl refl even)
    ∙ sym (sum_by-IsPermutation (value_at (λ m x. m) (k + 1)) (placed_from 1 s.modes s.starts) (placed_from 1 t.modes t.starts) same)
    ∙ picked (λ m x. m) k (k + 1) 1 t.modes t.starts refl refl other) in
    let starts : s.starts ≡ t.starts = same_lists s.starts t.starts (omega (arith, size, even, other)) (λ k.
    sym (picked (λ m x. x) k (k + 1) 1 s.modes s.starts refl refl even)
    ∙ sym (sum_by-IsPermutation (value_at (λ m x. x) (k + 1)) (placed_from 1 s.modes s.starts) (placed_from 1 t.modes t.starts) same)
    ∙ picked (λ m x. x) k (k + 1) 1 t.modes t.starts refl refl other) in
    ap (λ l. record { modes = l; starts = s.starts }) modes ∙ ap (λ l. record { modes = t.modes; starts = l }) starts

one_of_places : (places : List ScheduleEntry) (s t : ScheduleData) → ArePlaces places s → ArePlaces places t → s ≡ t
one_of_places places s t one other =
    one_placed s t one.even other.even
    (IsPermutation-trans (placed_from 1 s.modes s.starts) places (placed_from 1 t.modes t.starts) (IsPermutation-sym places (placed_from 1 s.modes s.starts) one.whole) other.whole)

one_of_words : (text : List ℕ) (s t : ScheduleData) → TellsWords text s → TellsWords text t → s ≡ t
one_of_words text s t one other =
    let words : one.words ≡ other.words = sym (told_last text s one) ∙ told_last text t other in
    let places : placed_from 1 s.modes s.starts ≡ placed_from 1 t.modes t.starts = some_of [] (placed_from 1 s.modes s.starts) (placed_from 1 t.modes t.starts) (sym one.places ∙ ap (places_at 58) words ∙ other.places) in
    one_placed s t one.even other.even (subst (λ (l : List ScheduleEntry). IsPermutation (placed_from 1 s.modes s.starts) l) places (IsPermutation-refl (placed_from 1 s.modes s.starts)))

one_of_rows : (text : List ℕ) (s t : ScheduleData) → TellsRows text s → TellsRows text t → s ≡ t
one_of_rows text s t one other =
    let places : other.places ≡ one.places = some_of [] other.places one.places (sym other.rows ∙ one.rows) in
    one_of_places one.places s t one.each (subst (λ (l : List ScheduleEntry). ArePlaces l t) places other.each)

one_of_json : (text : List ℕ) (s t : ScheduleData) → IsJsonOf text s → IsJsonOf text t → s ≡ t
one_of_json text s t one other =
    let value : other.value ≡ one.value = some_of one.value other.value one.value (sym other.read ∙ one.read) in
    let told = sym other.told ∙ ap (λ (v : Data). option_and_then places_of (array_of v)) value ∙ one.told in
    let places : other.places ≡ one.places = some_of [] other.places one.places told in
    one_of_places one.places s t one.each (subst (λ (l : List ScheduleEntry). ArePlaces l t) places other.each)

one_of_lines : (text : List ℕ) (a b : ℕ) (s t : ScheduleData) → BeginsLastLine text a → BeginsLastLine text b → IsJsonOf (drop a text) s → IsJsonOf (drop b text) t → s ≡ t
one_of_lines text a b s t first other one two =
    one_of_json (drop a text) s t one (subst (λ (n : ℕ). IsJsonOf (drop n text) t) (one_last_line text b a other first) two)

one_in_json : (text : List ℕ) (s t : ScheduleData) → TellsJson text s → TellsJson text t → s ≡ t
one_in_json text s t (inl a) (inl b) = one_of_json text s t a b
one_in_json text s t (inl a) (inr (none, (start, begins, b))) = absurd (none s a)
one_in_json text s t (inr (none, (start, begins, a))) (inl b) = absurd (none t b)
one_in_json text s t (inr (none, (x, begins, a))) (inr (never, (y, others, b))) = one_of_lines text x y s t begins others a b

one_of_table : (text : List ℕ) (s t : ScheduleData) → TellsTable text s → TellsTable text t → s ≡ t
one_of_table text s t one other =
    let rows = one_table text other.rows one.rows other.are one.are in
    let places : other.places ≡ one.places = some_of [] other.places one.places (sym other.told ∙ ap table_places rows ∙ one.told) in
    one_of_places one.places s t one.each (subst (λ (l : List ScheduleEntry). ArePlaces l t) places other.each)

one_in_either : (text : List ℕ) (s t : ScheduleData) → TellsJsonOrTable text s → TellsJsonOrTable text t → s ≡ t
one_in_either text s t (inl a) (inl b) = one_in_json text s t a b
one_in_either text s t (inl a) (inr (none, b)) = absurd (none s a)
one_in_either text s t (inr (none, a)) (inl b) = absurd (none t b)
one_in_either text s t (inr (none, a)) (inr (never, b)) = one_of_table text s t a b

one_somehow : (text : List ℕ) (s t : ScheduleData) → TellsSomehow text s → TellsSomehow text t → s ≡ t
one_somehow text s t (inl a) (inl b) = one_of_words text s t a b
one_somehow text s t (inl a) (inr (none, b)) = absurd (none s a)
one_somehow text s t (inr (none, a)) (inl b) = absurd (none t b)
one_somehow text s t (inr (none, inl a)) (inr (never, inl b)) = one_of_rows text s t a b
one_somehow text s t (inr (none, inl a)) (inr (never, inr (unread, b))) = absurd (unread s a)
one_somehow text s t (inr (none, inr (unread, a))) (inr (never, inl b)) = absurd (unread t b)
one_somehow text s t (inr (none, inr (unread, a))) (inr (never, inr (unseen, b))) = one_in_either text s t a b

pub tells_one : (text : List ℕ) (s t : ScheduleData) → Tells text s → Tells text t → s ≡ t
tells_one text s t a b = one_somehow text s t a.ways b.ways
