-- Rows in the order of tenants and numbers, and that these are one list for what is found in them.
use Rattle.std.proofs.Common.{◌≡◌, ℕ, ◌==◌, Bool, true, false, cond, List, [], ◌∷◌, Option, Some, None, refl, sym, ap, ◌∙◌, subst, arith}
use Rattle.std.proofs.lemmas.Bool.{cond_both, and_parts, eqb-true}
use Rattle.std.proofs.lemmas.Bool.Decides.{nat_tests}
use Rattle.job_table.specs.Table.{Row, JobData, is_row, find_row, put_row, drop_row, comes_before, add_row, AreApart}

-- all rows come after a tenant's number
abbrev pub AreAfter : ℕ → ℕ → List Row → Type 0
AreAfter t s [] = Unit {0}
AreAfter t s (row ∷ rows) = (comes_before t s row ≡ true) × AreAfter t s rows

-- each row comes after those before it
abbrev pub InOrder : List Row → Type 0
InOrder [] = Unit {0}
InOrder (row ∷ rows) = AreAfter row.tenant row.job.seq rows × InOrder rows

before_more : (t s : ℕ) (row next : Row) → comes_before t s row ≡ true → comes_before row.tenant row.job.seq next ≡ true → comes_before t s next ≡ true
before_more t s row next one two = grind (arith, nat_tests)

after_more : (t s : ℕ) (row : Row) (rows : List Row) → comes_before t s row ≡ true → AreAfter row.tenant row.job.seq rows → AreAfter t s rows
after_more t s row [] one all = tt
after_more t s row (next ∷ rows) one all = (before_more t s row next one all.0, after_more t s row rows one all.1)

before_not : (t s : ℕ) (row : Row) → comes_before t s row ≡ true → is_row t s row ≡ false
before_not t s row one = grind (arith, nat_tests)

-- what comes before all rows is not among them
pub after_none : (t s : ℕ) (rows : List Row) → AreAfter t s rows → find_row t s rows ≡ None
after_none t s [] all = refl
after_none t s (row ∷ rows) all = let not = before_not t s row all.0 in rw not (after_none t s rows all.1)

pub order_apart : (rows : List Row) → InOrder rows → AreApart rows
order_apart [] order = tt
order_apart (row ∷ rows) order = (after_none row.tenant row.job.seq rows order.0, order_apart rows order.1)

put_after : (u n t s : ℕ) (new : JobData) (rows : List Row) → new.seq ≡ s → AreAfter u n rows → AreAfter u n (put_row t s new rows)
put_after u n t s new [] named all = tt
put_after u n t s new (row ∷ rows) named all =
    cond_both (is_row t s row) (record { tenant = t; job = new } ∷ rows) (row ∷ put_row t s new rows) (AreAfter u n)
    (λ e. let parts = and_parts (row.tenant == t) (row.job.seq == s) e in
    let t_is : row.tenant ≡ t = eqb-true row.tenant t parts.0 in
    let s_is : row.job.seq ≡ new.seq = eqb-true row.job.seq s parts.1 ∙ sym named in
    let here : comes_before u n (record { tenant = t; job = new }) ≡ true = grind (arith, nat_tests) in
    (here, all.1))
    (λ e. (all.0, put_after u n t s new rows named all.1))

drop_after : (u n t s : ℕ) (rows : List Row) → AreAfter u n rows → AreAfter u n (drop_row t s rows)
drop_after u n t s [] all = tt
drop_after u n t s (row ∷ rows) all = cond_both (is_row t s row) rows (row ∷ drop_row t s rows) (AreAfter u n) (λ e. all.1) (λ e. (all.0, drop_after u n t s rows all.1))

add_after : (u n : ℕ) (new : Row) (rows : List Row) → comes_before u n new ≡ true → AreAfter u n rows → AreAfter u n (add_row new rows)
add_after u n new [] one all = (one, tt)
add_after u n new (row ∷ rows) one all =
    cond_both (comes_before new.tenant new.job.seq row) (new ∷ row ∷ rows) (row ∷ add_row new rows) (AreAfter u n) (λ e. (one, all)) (λ e. (all.0, add_after u n new rows one all.1))

pub put_order : (t s : ℕ) (new : JobData) (rows : List Row) → new.seq ≡ s → InOrder rows → InOrder (put_row t s new rows)
put_order t s new [] named order = tt
put_order t s new (row ∷ rows) named order =
    cond_both (is_row t s row) (record { tenant = t; job = new } ∷ rows) (row ∷ put_row t s new rows) InOrder
    (λ e. let parts = and_parts (row.tenant == t) (row.job.seq == s) e in
    let t_is : row.tenant ≡ t = eqb-true row.tenant t parts.0 in
    let s_is : row.job.seq ≡ new.seq = eqb-true row.job.seq s parts.1 ∙ sym named in
    (subst (λ n. AreAfter t n rows) s_is (subst (λ u. AreAfter u row.job.seq rows) t_is order.0), order.1))
    (λ e. (put_after row.tenant row.job.seq t s new rows named order.0, put_order t s new rows named order.1))

pub drop_order : (t s : ℕ) (rows : List Row) → InOrder rows → InOrder (drop_row t s rows)
drop_order t s [] order = tt
drop_order t s (row ∷ rows) order =
    cond_both (is_row t s row) rows (row ∷ drop_row t s rows) InOrder (λ e. order.1) (λ e. (drop_after row.tenant row.job.seq t s rows order.0, drop_order t s rows order.1))

-- of two different keys that do not come the one way round, the other comes first
other_way : (new row : Row) → is_row new.tenant new.job.seq row ≡ false → comes_before new.tenant new.job.seq row ≡ false → comes_before row.tenant row.job.seq new ≡ true
other_way new row not one = grind (arith, nat_tests)

not_first : (t s : ℕ) (row : Row) (rows : List Row) (b : Bool) → cond b (Some row.job) (find_row t s rows) ≡ None → (b ≡ false) × (find_row t s rows ≡ None)
not_first t s row rows true none = absurd (cc)
not_first t s row rows false none = (refl, none)

pub add_order : (new : Row) (rows : List Row) → find_row new.tenant new.job.seq rows ≡ None → InOrder rows → InOrder (add_row new rows)
add_order new [] none order = (tt, tt)
add_order new (row ∷ rows) none order =
    let apart = not_first new.tenant new.job.seq row rows (is_row new.tenant new.job.seq row) none in
    cond_both (comes_before new.tenant new.job.seq row) (new ∷ row ∷ rows) (row ∷ add_row new rows) InOrder
    (λ e. ((e, after_more new.tenant new.job.seq row rows e order.0), order))
    (λ e. (add_after row.tenant row.job.seq new rows (other_way new row apart.0 e) order.0, add_order new rows apart.1 order.1))

found_here : (row : Row) (rows : List Row) → find_row row.tenant row.job.seq (row ∷ rows) ≡ Some row.job
found_here row rows = grind (arith, nat_tests)

-- the same is found in both lists
abbrev pub FindSame : List Row → List Row → Type 0
FindSame xs ys = (t s : ℕ) → find_row t s xs ≡ find_row t s ys

-- the first of one list is found in the other, so it does not come before all of that
before_case : (row other : Row) (rows others : List Row) (b : Bool) → comes_before row.tenant row.job.seq other ≡ b
    → find_row row.tenant row.job.seq (row ∷ rows) ≡ find_row row.tenant row.job.seq (other ∷ others) → InOrder (other ∷ others) → b ≡ false
before_case row other rows others false e same order = refl
before_case row other rows others true e same order =
    let none : find_row row.tenant row.job.seq (other ∷ others) ≡ None = after_none row.tenant row.job.seq (other ∷ others) (e, after_more row.tenant row.job.seq other others e order.0) in
    let some : find_row row.tenant row.job.seq (row ∷ rows) ≡ Some row.job = found_here row rows in
    absurd (cc)

same_key : (row other : Row) → comes_before row.tenant row.job.seq other ≡ false → comes_before other.tenant other.job.seq row ≡ false → (row.tenant ≡ other.tenant) × (row.job.seq ≡ other.job.seq)
same_key row other one two = (grind (arith, nat_tests), grind (arith, nat_tests))

job_in : Option JobData → JobData → JobData
job_in None job = job
job_in (Some job) other = job

-- the first rows are one
same_first : (row other : Row) (rows others : List Row) → FindSame (row ∷ rows) (other ∷ others) → InOrder (row ∷ rows) → InOrder (other ∷ others) → row ≡ other
unfolding job_in
same_first row other rows others same one two =
    let a = before_case row other rows others (comes_before row.tenant row.job.seq other) refl (same row.tenant row.job.seq) two in
    let b = before_case other row others rows (comes_before other.tenant other.job.seq row) refl (sym (same other.tenant other.job.seq)) one in
    let key = same_key row other a b in
    let found : Some row.job ≡ Some other.job =
    sym (found_here row rows) ∙ same row.tenant row.job.seq ∙ ap (λ t. find_row t row.job.seq (other ∷ others)) key.0 ∙ ap (λ s. find_row other.tenant s (other ∷ others)) key.1 ∙ found_here other others in
    let job : row.job ≡ other.job = ap (λ o. job_in o row.job) found in
    ap (λ t. let r : Row = record { tenant = t; job = row.job } in r) key.0 ∙ ap (λ j. let r : Row = record { tenant = other.tenant; job = j } in r) job

same_case : (row : Row) (rows others : List Row) (t s : ℕ) (b : Bool) → is_row t s row ≡ b → find_row row.tenant row.job.seq rows ≡ None → find_row row.tenant row.job.seq others ≡ None
    → cond b (Some row.job) (find_row t s rows) ≡ cond b (Some row.job) (find_row t s others) → find_row t s rows ≡ find_row t s others
same_case row rows others t s false e none gone same = same
same_case row rows others t s true e none gone same =
    let parts = and_parts (row.tenant == t) (row.job.seq == s) e in
    let t_is : row.tenant ≡ t = eqb-true row.tenant t parts.0 in
    let s_is : row.job.seq ≡ s = eqb-true row.job.seq s parts.1 in
    let both : find_row row.tenant row.job.seq rows ≡ find_row row.tenant row.job.seq others = none ∙ sym gone in
    subst (λ n. find_row t n rows ≡ find_row t n others) s_is (subst (λ u. find_row u row.job.seq rows ≡ find_row u row.job.seq others) t_is both)

same_rest : (row : Row) (rows others : List Row) → InOrder (row ∷ rows) → InOrder (row ∷ others) → FindSame (row ∷ rows) (row ∷ others) → FindSame rows others
same_rest row rows others one two same t s =
    same_case row rows others t s (is_row t s row) refl (after_none row.tenant row.job.seq rows one.0) (after_none row.tenant row.job.seq others two.0) (same t s)

-- rows in order in which the same is found are the same rows
pub same_rows : (rows others : List Row) → InOrder rows → InOrder others → FindSame rows others → rows ≡ others
same_rows [] [] one two same = refl
same_rows [] (other ∷ others) one two same =
    let none : None ≡ find_row other.tenant other.job.seq (other ∷ others) = same other.tenant other.job.seq in
    let some : find_row other.tenant other.job.seq (other ∷ others) ≡ Some other.job = found_here other others in
    absurd (cc)
same_rows (row ∷ rows) [] one two same =
    let none : find_row row.tenant row.job.seq (row ∷ rows) ≡ None = same row.tenant row.job.seq in
    let some : find_row row.tenant row.job.seq (row ∷ rows) ≡ Some row.job = found_here row rows in
    absurd (cc)
same_rows (row ∷ rows) (other ∷ others) one two same =
    let first : row ≡ other = same_first row other rows others same one two in
    let two' : InOrder (row ∷ others) = subst (λ r. InOrder (r ∷ others)) (sym first) two in
    let same' : FindSame (row ∷ rows) (row ∷ others) = subst (λ r. FindSame (row ∷ rows) (r ∷ others)) (sym first) same in
    ap (λ r. r ∷ rows) first ∙ ap (λ rs. other ∷ rs) (same_rows rows others one.1 two'.1 (same_rest row rows others one two' same'))
