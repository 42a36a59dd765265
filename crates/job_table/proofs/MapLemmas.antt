-- The rows of a map of jobs, once one has changed, has come or is gone.
use Rattle.std.proofs.Common.{◌≡◌, ℕ, ◌==◌, Bool, true, false, cond, ◌&&◌, List, [], ◌∷◌, length, Option, Some, None, option_map, refl, sym, ap, ◌∙◌, subst, arith}
use Rattle.std.specs.Map.{lookup, keys_of}
use Rattle.std.specs.List.{IsDistinct, AllByRecursion}
use Rattle.std.proofs.lemmas.Map.Keys.{IsDistinct-head, IsDistinct-tail}
use Rattle.std.proofs.lemmas.Bool.{and_parts, eqb-true}
use Rattle.std.proofs.lemmas.Bool.Decides.{nat_tests}
use Rattle.job_table.specs.Table.{Row, JobData, is_key, find_row, put_row, drop_row, add_row}
use Rattle.job_table.specs.Kept.{row_of, rows_of, AreNamed}
use Rattle.job_table.proofs.RowLemmas.{put_same, put_other, drop_same, drop_other, add_same, add_other, add_length}
use Rattle.job_table.proofs.OrderLemmas.{InOrder, order_apart, put_order, drop_order, add_order, same_rows}

abbrev pub Jobs : Type 0
Jobs = List ((ℕ × ℕ) × JobData)

-- a job under a number
abbrev under : ℕ → JobData → JobData
under s job = record job { seq = s }

pub rows_order : (es : Jobs) → InOrder (rows_of es)
rows_order [] = tt
rows_order (e ∷ es) =
    let t = e.0.0 in
    let s = e.0.1 in
    let order = rows_order es in
    add_order (row_of e) (drop_row t s (rows_of es)) (drop_same t s (rows_of es) (order_apart (rows_of es) order)) (drop_order t s (rows_of es) order)

other_row : (t s u n : ℕ) → is_key t s (u, n) ≡ false → ((u == t) && (n == s)) ≡ false
other_row t s u n e = grind (arith, nat_tests)

find_case : (t s : ℕ) (e : (ℕ × ℕ) × JobData) (es : Jobs) (b : Bool) → is_key t s e.0 ≡ b → find_row t s (rows_of es) ≡ option_map (under s) (lookup (is_key t s) es)
    → find_row t s (rows_of (e ∷ es)) ≡ option_map (under s) (cond b (Some e.1) (lookup (is_key t s) es))
find_case t s e es true is later =
    let parts = and_parts (t == e.0.0) (s == e.0.1) is in
    let t_is : t ≡ e.0.0 = eqb-true t e.0.0 parts.0 in
    let s_is : s ≡ e.0.1 = eqb-true s e.0.1 parts.1 in
    let none = drop_same e.0.0 e.0.1 (rows_of es) (order_apart (rows_of es) (rows_order es)) in
    let here : find_row e.0.0 e.0.1 (rows_of (e ∷ es)) ≡ Some (under e.0.1 e.1) = add_same (row_of e) (drop_row e.0.0 e.0.1 (rows_of es)) none in
    subst (λ n. find_row t n (rows_of (e ∷ es)) ≡ Some (under n e.1)) (sym s_is) (subst (λ u. find_row u e.0.1 (rows_of (e ∷ es)) ≡ Some (under e.0.1 e.1)) (sym t_is) here)
find_case t s e es false is later =
    add_other t s (row_of e) (drop_row e.0.0 e.0.1 (rows_of es)) (other_row t s e.0.0 e.0.1 is) ∙ drop_other e.0.0 e.0.1 t s (rows_of es) is ∙ later

rows_find : (t s : ℕ) (es : Jobs) → find_row t s (rows_of es) ≡ option_map (under s) (lookup (is_key t s) es)
rows_find t s [] = refl
rows_find t s (e ∷ es) = find_case t s e es (is_key t s e.0) refl (rows_find t s es)

under_own : (s : ℕ) (o found : Option JobData) → found ≡ o → ((job : JobData) → found ≡ Some job → job.seq ≡ s) → option_map (under s) o ≡ o
under_own s None found is named = refl
under_own s (Some job) found is named = ap (λ n. Some (under n job)) (sym (named job is))

-- what the map has at a key is found in the rows
pub named_find : (t s : ℕ) (es : Jobs) → AreNamed es → find_row t s (rows_of es) ≡ lookup (is_key t s) es
named_find t s es named = rows_find t s es ∙ under_own s (lookup (is_key t s) es) (lookup (is_key t s) es) refl (named t s)

-- the map has that job at a key, or none, and at others what it had
abbrev pub IsUpdate : ℕ → ℕ → Option JobData → Jobs → Jobs → Type 0
IsUpdate t s o es new = (u n : ℕ) → lookup (is_key u n) new ≡ cond (is_key t s (u, n)) o (lookup (is_key u n) es)

abbrev IsNumbered : ℕ → Option JobData → Type 0
IsNumbered s o = (job : JobData) → o ≡ Some job → job.seq ≡ s

named_case : (t s u n : ℕ) (b : Bool) → is_key t s (u, n) ≡ b → (o old : Option JobData) → IsNumbered s o → IsNumbered n old → IsNumbered n (cond b o old)
named_case t s u n true e o old new before job is = new job is ∙ eqb-true s n (and_parts (t == u) (s == n) e).1
named_case t s u n false e o old new before job is = before job is

pub named_update : (t s : ℕ) (o : Option JobData) (es new : Jobs) → AreNamed es → IsNumbered s o → IsUpdate t s o es new → AreNamed new
named_update t s o es new named numbered up u n job is = named_case t s u n (is_key t s (u, n)) refl o (lookup (is_key u n) es) numbered (named u n) job (sym (up u n) ∙ is)

-- what is found at a key that is the one that changes, or another
find_both : (t s u n : ℕ) (b : Bool) → is_key t s (u, n) ≡ b → (rows : List Row) (o old : Option JobData) → find_row t s rows ≡ o → (is_key u n (t, s) ≡ false → find_row u n rows ≡ old) → cond b o old ≡ find_row u n rows
find_both t s u n true e rows o old same other =
    let parts = and_parts (t == u) (s == n) e in
    subst (λ m. o ≡ find_row u m rows) (eqb-true s n parts.1) (subst (λ v. o ≡ find_row v s rows) (eqb-true t u parts.0) (sym same))
find_both t s u n false e rows o old same other = sym (other (other_row t s u n e))

pub rows_put : (t s : ℕ) (old then : JobData) (es new : Jobs) → AreNamed es → lookup (is_key t s) es ≡ Some old → then.seq ≡ s → IsUpdate t s (Some then) es new → rows_of new ≡ put_row t s then (rows_of es)
rows_put t s old then es new named found numbered up =
    let rows = rows_of es in
    let here : find_row t s rows ≡ Some old = named_find t s es named ∙ found in
    let news : AreNamed new = named_update t s (Some then) es new named (λ job is. let same : job ≡ then = cc in ap (λ (j : JobData). j.seq) same ∙ numbered) up in
    same_rows (rows_of new) (put_row t s then rows) (rows_order new) (put_order t s then rows numbered (rows_order es))
    (λ u n. named_find u n new news ∙ up u n ∙ find_both t s u n (is_key t s (u, n)) refl (put_row t s then rows) (Some then) (lookup (is_key u n) es) (put_same t s old then rows here numbered)
    (λ e. put_other t s u n then rows e numbered ∙ named_find u n es named))

pub rows_drop : (t s : ℕ) (es new : Jobs) → AreNamed es → IsUpdate t s None es new → rows_of new ≡ drop_row t s (rows_of es)
rows_drop t s es new named up =
    let rows = rows_of es in
    let news : AreNamed new = named_update t s None es new named (λ job is. absurd (cc)) up in
    same_rows (rows_of new) (drop_row t s rows) (rows_order new) (drop_order t s rows (rows_order es))
    (λ u n. named_find u n new news ∙ up u n ∙ find_both t s u n (is_key t s (u, n)) refl (drop_row t s rows) None (lookup (is_key u n) es) (drop_same t s rows (order_apart rows (rows_order es)))
    (λ e. drop_other t s u n rows e ∙ named_find u n es named))

pub rows_add : (t : ℕ) (job : JobData) (es new : Jobs) → AreNamed es → find_row t job.seq (rows_of es) ≡ None → IsUpdate t job.seq (Some job) es new
    → rows_of new ≡ add_row (record { tenant = t; job = job }) (rows_of es)
rows_add t job es new named none up =
    let rows = rows_of es in
    let row : Row = record { tenant = t; job = job } in
    let news : AreNamed new = named_update t job.seq (Some job) es new named (λ j is. let same : j ≡ job = cc in ap (λ (j : JobData). j.seq) same) up in
    same_rows (rows_of new) (add_row row rows) (rows_order new) (add_order row rows none (rows_order es))
    (λ u n. named_find u n new news ∙ up u n ∙ find_both t job.seq u n (is_key t job.seq (u, n)) refl (add_row row rows) (Some job) (lookup (is_key u n) es) (add_same row rows none)
    (λ e. add_other u n row rows (other_row u n t job.seq e) ∙ named_find u n es named))

-- a map without a key is as it was without it
pub rows_without : (t s : ℕ) (rows : List Row) → find_row t s rows ≡ None → drop_row t s rows ≡ rows
rows_without t s [] none = refl
rows_without t s (row ∷ rows) none = grind (arith, rows_without t s rows)

none_lookup : (t s : ℕ) (es : Jobs) → AllByRecursion (λ (y : ℕ × ℕ). is_key t s y ≡ false) (keys_of es) → lookup (is_key t s) es ≡ None
none_lookup t s [] all = refl
none_lookup t s (e ∷ es) all = let not = all.0 in rw not (none_lookup t s es all.1)

abbrev pub key_eq : ℕ × ℕ → ℕ × ℕ → Bool
key_eq x y = is_key x.0 x.1 y

-- as many rows as entries
pub rows_length : (es : Jobs) → IsDistinct key_eq (keys_of es) → length (rows_of es) ≡ length es
rows_length [] distinct = refl
rows_length (e ∷ es) distinct =
    let t = e.0.0 in
    let s = e.0.1 in
    let gone : lookup (is_key t s) es ≡ None = none_lookup t s es (IsDistinct-head key_eq e.0 (keys_of es) distinct) in
    let none : find_row t s (rows_of es) ≡ None = rows_find t s es ∙ ap (option_map (under s)) gone in
    let same = rows_without t s (rows_of es) none in
    let more = rows_length es (IsDistinct-tail key_eq e.0 (keys_of es) distinct) in
    omega (arith, add_length (row_of e) (drop_row t s (rows_of es)), ap length same, more)
