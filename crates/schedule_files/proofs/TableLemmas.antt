-- Tables of CSV: that a text has one list of rows, and that a table which holds a schedule is found
-- to hold one.
use Rattle.std.proofs.Common.{◌≡◌, ⊎_elim, inr, ℕ, ◌<◌, List, [], ◌∷◌, length, refl, sym, ap, ◌∙◌, arith, subst, Option, Some, None, IfSome, IfNone, Result, Ok, Err, IfOk}
use Rattle.csv.specs.Machine.{Read, next_record}
use Rattle.csv.specs.Reading.{Reached, strip_bom}
use Rattle.csv.specs.declared.parser.Config.{Config}
use Rattle.csv.specs.declared.parser.State.{State}
use Rattle.csv.specs.declared.parser.State.TheVariants as st
use Rattle.mrcpsp.specs.Schedule.{ScheduleData}
use Rattle.schedule_files.specs.Places.{ArePlaces, IsUntold}
use Rattle.schedule_files.specs.ScheduleJson.{TellsJson}
use Rattle.schedule_files.specs.ScheduleTable.{config_of, mark_of, AreRowsOf, table_places, TellsTable}
use Rattle.schedule_files.specs.ScheduleText.{TellsJsonOrTable}
use Rattle.schedule_files.specs.declared.places.ScheduleEntry.{ScheduleEntry}
use Rattle.schedule_files.proofs.ReadingLemmas.{some_of, some_is_not_none, same_size}

one_from : (cfg : Config) (s : State) (xs : List ℕ) (a b : List (List (List ℕ))) (s2 t2 : State) (ys zs : List ℕ) → Reached cfg s xs a s2 ys → next_record cfg s2 [] [] ys ≡ None
    → Reached cfg s xs b t2 zs → next_record cfg t2 [] [] zs ≡ None → a ≡ b
unfolding Reached
one_from cfg s xs [] [] s2 t2 ys zs h none k never = refl
one_from cfg s xs [] (q ∷ b) s2 t2 ys zs h none k never =
    let here : next_record cfg s [] [] xs ≡ None = ap (λ (v : State). next_record cfg v [] [] xs) h.0 ∙ ap (λ l. next_record cfg s2 [] [] l) h.1 ∙ none in
    absurd (some_is_not_none k.0 (sym k.1 ∙ here))
one_from cfg s xs (r ∷ a) [] s2 t2 ys zs h none k never =
    let here : next_record cfg s [] [] xs ≡ None = ap (λ (v : State). next_record cfg v [] [] xs) k.0 ∙ ap (λ l. next_record cfg t2 [] [] l) k.1 ∙ never in
    absurd (some_is_not_none h.0 (sym h.1 ∙ here))
one_from cfg s xs (r ∷ a) (q ∷ b) s2 t2 ys zs h none k never =
    let same : k.0 ≡ h.0 = some_of h.0 k.0 h.0 (sym k.1 ∙ h.1) in
    let first : r ≡ q = h.2 ∙ sym (k.2 ∙ ap (λ (p : Read). p.0) same) in
    let more : Reached cfg h.0.1 h.0.2 b t2 zs = subst (λ (p : Read). Reached cfg p.1 p.2 b t2 zs) same k.3 in
    let rest = one_from cfg h.0.1 h.0.2 a b s2 t2 ys zs h.3 none more never in
    ap (λ x. x ∷ a) first ∙ ap (λ l. q ∷ l) rest

-- a text has one list of rows
pub one_table : (text : List ℕ) (a b : List (List (List ℕ))) → AreRowsOf text a → AreRowsOf text b → a ≡ b
one_table text a b h k = one_from (config_of (mark_of text)) st.StartRecord (strip_bom text) a b h.0 k.0 h.1 k.1 h.2 h.3 k.2 k.3

pub table_unread : (text : List ℕ) (rows : List (List (List ℕ))) → AreRowsOf text rows → table_places rows ≡ None → IsUntold (TellsTable text)
table_unread text rows are none s t = some_is_not_none t.places (sym t.told ∙ ap table_places (one_table text t.rows rows t.are are) ∙ none)

pub table_told : (text : List ℕ) (rows : List (List (List ℕ))) (entries : List ScheduleEntry) (found result : Option ScheduleData) → AreRowsOf text rows → table_places rows ≡ Some entries
    → IfSome found (λ s. ArePlaces entries s) → IfSome result (λ s. (found ≡ Some s) × (0 < length s.modes)) → IfSome result (λ s. TellsTable text s)
table_told text rows entries found None are read told some = tt
table_told text rows entries None (Some s) are read told some = absurd (some_is_not_none s (sym some.0))
table_told text rows entries (Some x) (Some s) are read told some =
    record { rows = rows; are = are; places = entries; told = read; each = subst (λ (y : ScheduleData). ArePlaces entries y) (some_of s x s some.0) told; some = some.1 }

table_entries : (text : List ℕ) (rows : List (List (List ℕ))) (entries : List ScheduleEntry) (s : ScheduleData) → AreRowsOf text rows → table_places rows ≡ Some entries → (t : TellsTable text s) → t.places ≡ entries
table_entries text rows entries s are read t = some_of [] t.places entries (sym t.told ∙ ap table_places (one_table text t.rows rows t.are are) ∙ read)

pub table_none : (text : List ℕ) (rows : List (List (List ℕ))) (entries : List ScheduleEntry) (found result : Option ScheduleData) → AreRowsOf text rows → table_places rows ≡ Some entries
    → IfNone found ((s : ScheduleData) → ArePlaces entries s → ⊥) → IfSome found (λ s. ArePlaces entries s)
    → IfNone result (IfSome found (λ s. length s.modes ≡ 0)) → IfNone result (IsUntold (TellsTable text))
table_none text rows entries found (Some x) are read never told none = tt
table_none text rows entries None None are read never told none = λ s t. never s (subst (λ l. ArePlaces l s) (table_entries text rows entries s are read t) t.each)
table_none text rows entries (Some x) None are read never told none = λ s t.
    let a = same_size entries x told in
    let b = same_size t.places s t.each in
    let c = ap length (table_entries text rows entries s are read t) in
    let empty : length x.modes ≡ 0 = none in
    absurd (omega (arith, a, b, c, empty, t.some))

-- what a text holds as a table, if it holds nothing as JSON
pub table_way : {E : Type 0} (text : List ℕ) (r : Result (Option ScheduleData) E) → IsUntold (TellsJson text) → IfOk r (λ found. IfSome found (λ s. TellsTable text s))
    → IfOk r (λ found. IfSome found (λ s. TellsJsonOrTable text s))
table_way text (Ok (Some s)) json table = inr (json, table)
table_way text (Ok None) json table = tt
table_way text (Err e) json table = tt

pub neither_way : {E : Type 0} (text : List ℕ) (r : Result (Option ScheduleData) E) → IsUntold (TellsJson text) → IfOk r (λ found. IfNone found (IsUntold (TellsTable text)))
    → IfOk r (λ found. IfNone found (IsUntold (TellsJsonOrTable text)))
neither_way text (Ok (Some s)) json table = tt
neither_way text (Ok None) json table = λ s t. ⊎_elim (λ (j : TellsJson text s). json s j) (λ (o : IsUntold (TellsJson text) × TellsTable text s). table s o.1) t
neither_way text (Err e) json table = tt
