-- The JSON of a schedule, and that it is read as the schedule's places.
use Rattle.std.proofs.Common.{◌≡◌, ℕ, ◌+◌, ◌<◌, ◌≤◌, ◌^◌, Bool, true, false, cond, List, [], ◌∷◌, ◌++◌, length, refl, sym, ap, ◌∙◌, arith, append_assoc, ne_eqb, Some, codes, decimal, option_map, option_and_then, IsUtf8}
use Rattle.std.proofs.lemmas.List.Sorted.{IsPermutation-refl}
use Rattle.json.specs.Token.{Token}
use Rattle.json.specs.Json as json
use Rattle.json.specs.Print.{escape_byte, print_from, print}
use Rattle.json.specs.Tree.{json_tokens, items_tokens, depth, items_depth, members_depth, HasNumbers, ItemsHaveNumbers, MembersHaveNumbers}
use Rattle.json.proofs.Printed.Decimals.{IsNumber-decimal}
use Rattle.serde_json.specs.Data.{Data, unsigned, number, array, object, Items, no_items, item, Members, no_members, member}
use Rattle.serde_json.specs.Read.{of_json, of_items, of_members}
use Rattle.serde_json.specs.Find.{get_member}
use Rattle.serde_json.proofs.Numbers.{number_of-decimal}
use Rattle.mrcpsp.specs.Schedule.{ScheduleData}
use Rattle.schedule_json.specs.ScheduleJson.{place_json, places_json, comma_before}
use Rattle.schedule_files.specs.Laws.{AreCounted, IsWritable}
use Rattle.schedule_files.specs.Places.{◌>>=◌, counted, placed_from}
use Rattle.schedule_files.specs.ScheduleJson.{place_of, places_of, IsJsonOf}
use Rattle.schedule_files.specs.declared.places.ScheduleEntry.{ScheduleEntry}
use Rattle.schedule_files.proofs.LineLemmas.{line_read}

-- ---- trees

abbrev pub numeral : ℕ → json.Json
numeral n = json.number (decimal n)

abbrev pub place_tree : ℕ → ℕ → ℕ → json.Json
place_tree j mode start = json.object (json.member (codes "activity") (numeral j) (json.member (codes "mode") (numeral mode) (json.member (codes "start") (numeral start) json.no_members)))

-- the objects of activities behind i others
abbrev pub items_tree : ℕ → List ℕ → List ℕ → json.Items
items_tree i [] starts = json.no_items
items_tree i (mode ∷ modes) [] = json.no_items
items_tree i (mode ∷ modes) (start ∷ starts) = json.item (place_tree (i + 1) mode start) (items_tree (i + 1) modes starts)

abbrev pub schedule_tree : ScheduleData → json.Json
schedule_tree s = json.array (items_tree 0 s.modes s.starts)

-- ---- their text

place_printed : (c : Bool) (j mode start : ℕ) (ts : List Token)
    → print_from c (json_tokens (place_tree j mode start) ++ ts) ≡ cond c (44 ∷ []) [] ++ (place_json j mode start ++ print_from true ts)
unfolding print_from escape_byte
place_printed true j mode start ts = simp append_assoc
place_printed false j mode start ts = simp append_assoc

comma_behind : (i : ℕ) → comma_before (i + 1) ≡ 44 ∷ []
comma_behind i = rw (ne_eqb (i + 1) 0 (λ e. omega (arith, e))) refl

items_printed : (i : ℕ) (modes starts : List ℕ) (ts : List Token)
    → print_from true (items_tokens (items_tree (i + 1) modes starts) ++ ts) ≡ places_json (i + 1) modes starts ++ 93 ∷ print_from true ts
unfolding print_from
items_printed i [] starts ts = refl
items_printed i (mode ∷ modes) [] ts = refl
items_printed i (mode ∷ modes) (start ∷ starts) ts =
    let place = place_json (i + 1 + 1) mode start in
    let more = places_json (i + 1 + 1) modes starts in
    let rest = items_tokens (items_tree (i + 1 + 1) modes starts) in
    ap (print_from true) (append_assoc (json_tokens (place_tree (i + 1 + 1) mode start)) rest ts)
    ∙ place_printed true (i + 1 + 1) mode start (rest ++ ts)
    ∙ ap (λ l. 44 ∷ (place ++ l)) (items_printed (i + 1) modes starts ts)
    ∙ sym (ap (λ l. ((l ++ place) ++ more) ++ 93 ∷ print_from true ts) (comma_behind i) ∙ ap (λ l. 44 ∷ l) (append_assoc place more (93 ∷ print_from true ts)))

-- the array of a schedule
pub array_printed : (modes starts : List ℕ) (ts : List Token) → print_from false (items_tokens (items_tree 0 modes starts) ++ ts) ≡ places_json 0 modes starts ++ 93 ∷ print_from true ts
unfolding print_from
array_printed [] starts ts = refl
array_printed (mode ∷ modes) [] ts = refl
array_printed (mode ∷ modes) (start ∷ starts) ts =
    let place = place_json 1 mode start in
    let more = places_json 1 modes starts in
    let rest = items_tokens (items_tree 1 modes starts) in
    ap (print_from false) (append_assoc (json_tokens (place_tree 1 mode start)) rest ts)
    ∙ place_printed false 1 mode start (rest ++ ts)
    ∙ ap (λ l. place ++ l) (items_printed 0 modes starts ts)
    ∙ sym (append_assoc place more (93 ∷ print_from true ts))

-- ---- their numbers and depth

numbers_in : (i : ℕ) (modes starts : List ℕ) → i + length modes ≤ 4294967295 → AreCounted modes → AreCounted starts → ItemsHaveNumbers (items_tree i modes starts)
numbers_in i [] starts few a b = tt
numbers_in i (mode ∷ modes) [] few a b = tt
numbers_in i (mode ∷ modes) (start ∷ starts) few a b =
    let x : i + 1 < 2 ^ 64 = omega arith in
    let y : mode < 2 ^ 64 = omega (arith, a.0) in
    let z : start < 2 ^ 64 = omega (arith, b.0) in
    ((IsNumber-decimal (i + 1) x, (IsNumber-decimal mode y, (IsNumber-decimal start z, tt))), numbers_in (i + 1) modes starts (omega arith) a.1 b.1)

pub tree_numbers : (s : ScheduleData) → IsWritable s → HasNumbers (schedule_tree s)
tree_numbers s can = numbers_in 0 s.modes s.starts (omega (arith, can.few)) can.modes can.starts

depth_in : (i : ℕ) (modes starts : List ℕ) → items_depth (items_tree i modes starts) ≤ 1
depth_in i [] starts = omega arith
depth_in i (mode ∷ modes) [] = omega arith
depth_in i (mode ∷ modes) (start ∷ starts) = let rest = depth_in (i + 1) modes starts in omega (arith, rest)

pub tree_depth : (s : ScheduleData) → depth (schedule_tree s) ≤ 2
tree_depth s = let d = depth_in 0 s.modes s.starts in omega (arith, d)

-- ---- their data

abbrev pub place_data : ℕ → ℕ → ℕ → Data
place_data j mode start = object (member (codes "activity") (number (unsigned j)) (member (codes "mode") (number (unsigned mode)) (member (codes "start") (number (unsigned start)) no_members)))

abbrev pub items_data : ℕ → List ℕ → List ℕ → Items
items_data i [] starts = no_items
items_data i (mode ∷ modes) [] = no_items
items_data i (mode ∷ modes) (start ∷ starts) = item (place_data (i + 1) mode start) (items_data (i + 1) modes starts)

abbrev pub schedule_data : ScheduleData → Data
schedule_data s = array (items_data 0 s.modes s.starts)

place_read : (j mode start : ℕ) → j < 2 ^ 64 → mode < 2 ^ 64 → start < 2 ^ 64 → of_json (place_tree j mode start) ≡ Some (place_data j mode start)
place_read j mode start a b c = rw (number_of-decimal j a, number_of-decimal mode b, number_of-decimal start c) refl

items_read : (i : ℕ) (modes starts : List ℕ) → i + length modes ≤ 4294967295 → AreCounted modes → AreCounted starts → of_items (items_tree i modes starts) ≡ Some (items_data i modes starts)
items_read i [] starts few a b = refl
items_read i (mode ∷ modes) [] few a b = refl
items_read i (mode ∷ modes) (start ∷ starts) few a b =
    ap (λ o. option_and_then (λ d. option_map (item d) (of_items (items_tree (i + 1) modes starts))) o) (place_read (i + 1) mode start (omega arith) (omega (arith, a.0)) (omega (arith, b.0)))
    ∙ ap (option_map (item (place_data (i + 1) mode start))) (items_read (i + 1) modes starts (omega arith) a.1 b.1)

pub tree_read : (s : ScheduleData) → IsWritable s → of_json (schedule_tree s) ≡ Some (schedule_data s)
tree_read s can = ap (option_map array) (items_read 0 s.modes s.starts (omega (arith, can.few)) can.modes can.starts)

-- ---- their places

counted_is : (n : ℕ) → n ≤ 4294967295 → counted n ≡ n
counted_is n h = omega arith

entry_read : (j mode start : ℕ) → j ≤ 4294967295 → mode ≤ 4294967295 → start ≤ 4294967295 → place_of (place_data j mode start) ≡ Some (record { activity = j; mode = mode; start = start })
entry_read j mode start a b c =
    ap (λ n. Some (record { activity = n; mode = counted mode; start = counted start })) (counted_is j a)
    ∙ ap (λ n. Some (record { activity = j; mode = n; start = counted start })) (counted_is mode b)
    ∙ ap (λ n. Some (record { activity = j; mode = mode; start = n })) (counted_is start c)

places_read : (i : ℕ) (modes starts : List ℕ) → i + length modes ≤ 4294967295 → AreCounted modes → AreCounted starts → places_of (items_data i modes starts) ≡ Some (placed_from (i + 1) modes starts)
places_read i [] starts few a b = refl
places_read i (mode ∷ modes) [] few a b = refl
places_read i (mode ∷ modes) (start ∷ starts) few a b =
    let place : ScheduleEntry = record { activity = i + 1; mode = mode; start = start } in
    ap (λ o. o >>= (λ p. places_of (items_data (i + 1) modes starts) >>= (λ ps. Some (p ∷ ps)))) (entry_read (i + 1) mode start (omega arith) a.0 b.0)
    ∙ ap (λ o. o >>= (λ ps. Some (place ∷ ps))) (places_read (i + 1) modes starts (omega arith) a.1 b.1)

-- ---- objects and the array alone

-- the object that these members are, with a line feed behind it
abbrev pub line_of : json.Json → List ℕ
line_of j = print (json_tokens j) ++ 10 ∷ []

-- an object with the schedule at its key is the JSON of the schedule
pub object_is : (ms : json.Members) (found : Members) (s : ScheduleData) → IsWritable s → IsUtf8 (line_of (json.object ms)) → MembersHaveNumbers ms → members_depth ms ≤ 126
    → of_members ms no_members ≡ Some found → get_member (codes "schedule") found ≡ Some (schedule_data s) → IsJsonOf (line_of (json.object ms)) s
object_is ms found s can utf8 numbers shallow is at = record {
  utf8 = utf8;
  value = object found;
  read = line_read (json.object ms) (object found) numbers (omega arith) (ap (option_map object) is);
  places = placed_from 1 s.modes s.starts;
  told = rw at (places_read 0 s.modes s.starts (omega (arith, can.few)) can.modes can.starts);
  each = record { even = can.even; whole = IsPermutation-refl (placed_from 1 s.modes s.starts) };
}

-- the array alone is the JSON of the schedule
pub array_is : (s : ScheduleData) → IsWritable s → IsUtf8 (line_of (schedule_tree s)) → IsJsonOf (line_of (schedule_tree s)) s
array_is s can utf8 =
    let shallow = tree_depth s in
    record {
      utf8 = utf8;
      value = schedule_data s;
      read = line_read (schedule_tree s) (schedule_data s) (tree_numbers s can) (omega (arith, shallow)) (tree_read s can);
      places = placed_from 1 s.modes s.starts;
      told = places_read 0 s.modes s.starts (omega (arith, can.few)) can.modes can.starts;
      each = record { even = can.even; whole = IsPermutation-refl (placed_from 1 s.modes s.starts) };
    }
