-- The JSON of a result and of a better schedule holds the schedule.
use Rattle.std.proofs.Common.{◌≡◌, ℕ, ◌<◌, ◌≤◌, ◌^◌, false, List, [], ◌∷◌, ◌++◌, length, drop, refl, sym, ap, ◌∙◌, subst, arith, append_assoc, codes, decimal, Option, Some, None, IfSome, IsUtf8, option_map, option_and_then}
use Rattle.std.specs.List.{list_any}
use Rattle.json.specs.Token.{Token}
use Rattle.json.specs.Json as json
use Rattle.json.specs.Print.{escape, escape_byte, print_from, print}
use Rattle.json.specs.Tree.{json_tokens, depth, HasNumbers}
use Rattle.json.proofs.Printed.Decimals.{IsNumber-decimal}
use Rattle.serde_json.specs.Data.{Data, unsigned, null, number, string, Members, no_members, put}
use Rattle.serde_json.specs.Read.{of_json, of_members}
use Rattle.serde_json.proofs.Numbers.{number_of-decimal}
use Rattle.serde_json.proofs.Views.{get_member-put}
use Rattle.mrcpsp.specs.Schedule.{ScheduleData}
use Rattle.schedule_json.specs.ScheduleJson.{number_json, places_json, schedule_json}
use Rattle.schedule_files.specs.Laws.{IsWritable}
use Rattle.schedule_files.specs.ScheduleJson.{IsJsonOf}
use Rattle.schedule_files.specs.ScheduleText.{Tells}
use Rattle.schedule_files.specs.declared.reading.TheConstants.{MOST_BYTES}
use Rattle.schedule_files.proofs.ObjectLemmas.{numeral, schedule_tree, schedule_data, array_printed, tree_numbers, tree_depth, tree_read, object_is, line_of}
use Rattle.schedule_files.proofs.ToldLemmas.{is_odd, IsPlain, plain, decimal_plain, number_plain, schedule_plain, then_plain, line_utf8, IsObject, AreObjects, with_feeds, lines_told}
use Rattle.strategy.specs.declared.verdict.Verdict.{Verdict}
use Rattle.strategy.specs.declared.verdict.Verdict.TheVariants.{Going, Optimal, Infeasible, Ended}
use Rattle.strategy.specs.VerdictText.{verdict_text}
use Rattle.solve_cli.specs.FoundText.{object_json, found_json}
use Rattle.solve_cli.specs.Laws.{Improvement, improvements_json, CanBeWritten, JsonTellsTheBest, BetterJsonTells, AllJsonTells}

-- ---- numbers that may be missing

abbrev number_tree : Option ℕ → json.Json
number_tree None = json.null
number_tree (Some n) = numeral n

abbrev number_data : Option ℕ → Data
number_data None = null
number_data (Some n) = number (unsigned n)

number_read : (n : Option ℕ) → IfSome n (λ m. m < 2 ^ 64) → of_json (number_tree n) ≡ Some (number_data n)
number_read None h = refl
number_read (Some n) h = ap (option_map number) (number_of-decimal n h)

number_is : (n : Option ℕ) → IfSome n (λ m. m < 2 ^ 64) → HasNumbers (number_tree n)
number_is None h = tt
number_is (Some n) h = IsNumber-decimal n h

number_flat : (n : Option ℕ) → depth (number_tree n) ≡ 0
number_flat None = refl
number_flat (Some n) = refl

-- ---- the object

abbrev members_of : ℕ → Option ℕ → List ℕ → ScheduleData → json.Members
members_of nodes makespan word s =
    json.member (codes "nodes") (numeral nodes) (json.member (codes "makespan") (number_tree makespan) (json.member (codes "verdict") (json.string word) (json.member (codes "schedule") (schedule_tree s) json.no_members)))

abbrev object_text : ℕ → Option ℕ → List ℕ → ScheduleData → List ℕ
object_text nodes makespan word s =
    codes "{\"nodes\":" ++ decimal nodes ++ codes ",\"makespan\":" ++ number_json makespan ++ codes ",\"verdict\":\"" ++ word ++ codes "\",\"schedule\":" ++ schedule_json (Some s) ++ codes "}"

join : (a nodes b makespan c word d array places close last : List ℕ)
    → a ++ nodes ++ b ++ makespan ++ c ++ word ++ d ++ (array ++ places ++ close) ++ last
    ≡ a ++ (nodes ++ (b ++ (makespan ++ (c ++ (word ++ (d ++ (array ++ (places ++ (close ++ last)))))))))
join a nodes b makespan c word d array places close last = simp append_assoc

-- the text of a result from its parts, with the schedule's places
joined : (nodes makespan word places : List ℕ)
    → codes "{\"nodes\":" ++ (nodes ++ (codes ",\"makespan\":" ++ (makespan ++ (codes ",\"verdict\":\"" ++ ((word ++ 34 ∷ []) ++ (codes ",\"schedule\":" ++ (codes "[" ++ (places ++ (codes "]" ++ codes "}")))))))))
    ≡ codes "{\"nodes\":" ++ nodes ++ codes ",\"makespan\":" ++ makespan ++ codes ",\"verdict\":\"" ++ word ++ codes "\",\"schedule\":" ++ (codes "[" ++ places ++ codes "]") ++ codes "}"
joined nodes makespan word places =
    let rest = codes ",\"schedule\":" ++ (codes "[" ++ (places ++ (codes "]" ++ codes "}"))) in
    ap (λ l. codes "{\"nodes\":" ++ (nodes ++ (codes ",\"makespan\":" ++ (makespan ++ (codes ",\"verdict\":\"" ++ l))))) (append_assoc word (34 ∷ []) rest)
    ∙ sym (join (codes "{\"nodes\":") nodes (codes ",\"makespan\":") makespan (codes ",\"verdict\":\"") word (codes "\",\"schedule\":") (codes "[") places (codes "]") (codes "}"))

object_printed : (nodes : ℕ) (makespan : Option ℕ) (word : List ℕ) (s : ScheduleData) → escape word ≡ word → print (json_tokens (json.object (members_of nodes makespan word s))) ≡ object_text nodes makespan word s
unfolding print_from escape_byte
object_printed nodes None word s same = rw (array_printed s.modes s.starts (Token.end_object ∷ []), same) (joined (decimal nodes) (codes "null") word (places_json 0 s.modes s.starts))
object_printed nodes (Some m) word s same = rw (array_printed s.modes s.starts (Token.end_object ∷ []), same) (joined (decimal nodes) (decimal m) word (places_json 0 s.modes s.starts))

-- the members before the schedule
abbrev front_data : ℕ → Option ℕ → List ℕ → Members
front_data nodes makespan word = put (codes "verdict") (string word) (put (codes "makespan") (number_data makespan) (put (codes "nodes") (number (unsigned nodes)) no_members))

members_read : (nodes : ℕ) (makespan : Option ℕ) (word : List ℕ) (s : ScheduleData) → nodes < 2 ^ 64 → IfSome makespan (λ m. m < 2 ^ 64) → IsWritable s
    → of_members (members_of nodes makespan word s) no_members ≡ Some (put (codes "schedule") (schedule_data s) (front_data nodes makespan word))
members_read nodes makespan word s n m can =
    let last = json.member (codes "schedule") (schedule_tree s) json.no_members in
    let later = json.member (codes "verdict") (json.string word) last in
    let rest = json.member (codes "makespan") (number_tree makespan) later in
    let first = put (codes "nodes") (number (unsigned nodes)) no_members in
    ap (λ o. option_and_then (λ d. of_members rest (put (codes "nodes") d no_members)) (option_map number o)) (number_of-decimal nodes n)
    ∙ ap (option_and_then (λ d. of_members later (put (codes "makespan") d first))) (number_read makespan m)
    ∙ ap (option_and_then (λ d. Some (put (codes "schedule") d (front_data nodes makespan word)))) (tree_read s can)

object_plain : (nodes : ℕ) (makespan : Option ℕ) (word : List ℕ) (s : ScheduleData) → nodes < 2 ^ 64 → ((m : ℕ) → makespan ≡ Some m → m < 2 ^ 64) → list_any is_odd word ≡ false → IsWritable s
    → IsPlain (object_text nodes makespan word s)
object_plain nodes makespan word s n m w can =
    let a = codes "{\"nodes\":" ++ decimal nodes in
    let b = a ++ codes ",\"makespan\":" in
    let c = b ++ number_json makespan in
    let d = c ++ codes ",\"verdict\":\"" in
    let e = d ++ word in
    let f = e ++ codes "\",\"schedule\":" in
    let g = f ++ schedule_json (Some s) in
    let one = then_plain (codes "{\"nodes\":") (decimal nodes) (plain (codes "{\"nodes\":") refl) (decimal_plain nodes n) in
    let two = then_plain a (codes ",\"makespan\":") one (plain (codes ",\"makespan\":") refl) in
    let three = then_plain b (number_json makespan) two (number_plain makespan m) in
    let four = then_plain c (codes ",\"verdict\":\"") three (plain (codes ",\"verdict\":\"") refl) in
    let five = then_plain d word four (plain word w) in
    let six = then_plain e (codes "\",\"schedule\":") five (plain (codes "\",\"schedule\":") refl) in
    let seven = then_plain f (schedule_json (Some s)) six (schedule_plain s can) in
    then_plain g (codes "}") seven (plain (codes "}") refl)

some_below : (makespan : Option ℕ) → IfSome makespan (λ m. m < 2 ^ 64) → (m : ℕ) → makespan ≡ Some m → m < 2 ^ 64
some_below makespan h m is = subst (λ (o : Option ℕ). IfSome o (λ x. x < 2 ^ 64)) is h

-- the object is on a line, and its value is the schedule's
is_object : (nodes : ℕ) (makespan : Option ℕ) (word : List ℕ) (s : ScheduleData) → nodes < 2 ^ 64 → IfSome makespan (λ m. m < 2 ^ 64) → escape word ≡ word → list_any is_odd word ≡ false → IsWritable s
    → IsObject (object_text nodes makespan word s)
is_object nodes makespan word s n m same odd can = record {
  members = members_of nodes makespan word s;
  numbers = (IsNumber-decimal nodes n, (number_is makespan m, (tt, (tree_numbers s can, tt))));
  shallow = let a = number_flat makespan in let b = tree_depth s in omega (arith, a, b);
  printed = object_printed nodes makespan word s same;
  rest = drop 1 (object_text nodes makespan word s);
  begins = refl;
  plain = object_plain nodes makespan word s n (some_below makespan m) odd can;
}

is_json : (nodes : ℕ) (makespan : Option ℕ) (word : List ℕ) (s : ScheduleData) → nodes < 2 ^ 64 → IfSome makespan (λ m. m < 2 ^ 64) → escape word ≡ word → list_any is_odd word ≡ false → IsWritable s
    → IsJsonOf (object_text nodes makespan word s ++ 10 ∷ []) s
unfolding is_object
is_json nodes makespan word s n m same odd can =
    let text = object_text nodes makespan word s in
    let o = is_object nodes makespan word s n m same odd can in
    let utf8 : IsUtf8 (line_of (json.object o.members)) = subst (λ (l : List ℕ). IsUtf8 (l ++ 10 ∷ [])) (sym o.printed) (line_utf8 text o.plain) in
    let found = put (codes "schedule") (schedule_data s) (front_data nodes makespan word) in
    let json = object_is o.members found s can utf8 o.numbers o.shallow (members_read nodes makespan word s n m can) (get_member-put (codes "schedule") (schedule_data s) (front_data nodes makespan word)) in
    subst (λ (l : List ℕ). IsJsonOf (l ++ 10 ∷ []) s) o.printed json

-- the object of a result with a best schedule holds it
object_tells : (nodes : ℕ) (makespan : Option ℕ) (word : List ℕ) (s : ScheduleData) → nodes < 2 ^ 64 → IfSome makespan (λ m. m < 2 ^ 64) → escape word ≡ word → list_any is_odd word ≡ false
    → IsWritable s → length (object_json nodes makespan word (Some s)) ≤ MOST_BYTES → Tells (object_json nodes makespan word (Some s)) s
object_tells nodes makespan word s n m same odd can short =
    lines_told [] (object_text nodes makespan word s) s tt (is_object nodes makespan word s n m same odd can) short (is_json nodes makespan word s n m same odd can)

-- ---- a result and a better schedule

word_unescaped : (v : Verdict) → escape (verdict_text v) ≡ verdict_text v
unfolding escape_byte
word_unescaped Going = refl
word_unescaped Optimal = refl
word_unescaped Infeasible = refl
word_unescaped Ended = refl

word_plain : (v : Verdict) → list_any is_odd (verdict_text v) ≡ false
word_plain Going = refl
word_plain Optimal = refl
word_plain Infeasible = refl
word_plain Ended = refl

pub json_tells : JsonTellsTheBest
json_tells found best is can nodes makespan short =
    let word = verdict_text found.verdict in
    let same : found_json found ≡ object_json found.nodes found.makespan word (Some best) = ap (λ (o : Option ScheduleData). object_json found.nodes found.makespan word o) is in
    subst (λ (l : List ℕ). Tells l best) (sym same)
    (object_tells found.nodes found.makespan word best nodes makespan (word_unescaped found.verdict) (word_plain found.verdict) can (subst (λ (l : List ℕ). length l ≤ MOST_BYTES) same short))

pub better_json_tells : BetterJsonTells
better_json_tells nodes makespan best can n m short = object_tells nodes (Some makespan) (codes "open") best n m (word_unescaped Going) (word_plain Going) can short

-- ---- better schedules, and a result behind them

abbrev texts : List Improvement → List (List ℕ)
texts [] = []
texts (b ∷ bs) = object_text b.nodes (Some b.makespan) (codes "open") b.schedule ∷ texts bs

are_objects : (bs : List Improvement) → CanBeWritten bs → AreObjects (texts bs)
are_objects [] h = tt
are_objects (b ∷ bs) h = (is_object b.nodes (Some b.makespan) (codes "open") b.schedule h.0.0 h.0.1 (word_unescaped Going) (word_plain Going) h.0.2, are_objects bs h.1)

lines_are : (bs : List Improvement) → improvements_json bs ≡ with_feeds (texts bs)
lines_are [] = refl
lines_are (b ∷ bs) =
    let text = object_text b.nodes (Some b.makespan) (codes "open") b.schedule in
    append_assoc text (10 ∷ []) (improvements_json bs) ∙ ap (λ l. text ++ 10 ∷ l) (lines_are bs)

pub all_json_tells : AllJsonTells
all_json_tells before found best is each can n m short =
    let word = verdict_text found.verdict in
    let text = object_text found.nodes found.makespan word best in
    let front = lines_are before in
    let same : improvements_json before ++ found_json found ≡ with_feeds (texts before) ++ (text ++ 10 ∷ []) =
    ap (λ (o : Option ScheduleData). improvements_json before ++ object_json found.nodes found.makespan word o) is ∙ ap (λ l. l ++ (text ++ 10 ∷ [])) front in
    subst (λ (l : List ℕ). Tells l best) (sym same)
    (lines_told (texts before) text best (are_objects before each) (is_object found.nodes found.makespan word best n m (word_unescaped found.verdict) (word_plain found.verdict) can)
    (subst (λ (l : List ℕ). length l ≤ MOST_BYTES) same short)
    (is_json found.nodes found.makespan word best n m (word_unescaped found.verdict) (word_plain found.verdict) can))
