-- What is found in rows of which one has changed, is gone or has come, and how many of them wait.
use Rattle.std.proofs.Common.{◌≡◌, ℕ, ◌+◌, ◌==◌, ◌≤◌, Bool, true, false, cond, List, [], ◌∷◌, filter, length, Option, Some, None, refl, ap, ◌∙◌, arith}
use Rattle.std.proofs.lemmas.Bool.{and_parts, eqb-true}
use Rattle.std.proofs.lemmas.Bool.Decides.{nat_tests}
use Rattle.job_table.specs.Table.{Row, JobData, is_row, is_key, find_row, put_row, drop_row, comes_before, add_row, AreApart}

-- a job that waits, as a number
abbrev pub one_if : Bool → ℕ
one_if b = cond b 1 0

-- how many rows pass a test
unfoldable pub count_rows : (Row → Bool) → List Row → ℕ
count_rows p rows = length (filter p rows)

none_count : (p : Row → Bool) → count_rows p [] ≡ 0
unfolding count_rows
none_count p = refl

head_count : (p : Row → Bool) (row : Row) (rows : List Row) → count_rows p (row ∷ rows) ≡ count_rows p rows + one_if (p row)
unfolding count_rows
head_count p row rows = grind arith

job_in : Option JobData → JobData → JobData
job_in None other = other
job_in (Some job) other = job

-- the row that is found first
pub row_is : (t s : ℕ) (old : JobData) (row : Row) → is_row t s row ≡ true → Some row.job ≡ Some old → row ≡ record { tenant = t; job = old }
unfolding job_in
row_is t s old row e found =
    let parts = and_parts (row.tenant == t) (row.job.seq == s) e in
    let mine : row.tenant ≡ t = eqb-true row.tenant t parts.0 in
    let job : row.job ≡ old = ap (λ o. job_in o old) found in
    ap (λ n. let r : Row = record { tenant = n; job = row.job } in r) mine ∙ ap (λ j. let r : Row = record { tenant = t; job = j } in r) job

pub put_same : (t s : ℕ) (old new : JobData) (rows : List Row) → find_row t s rows ≡ Some old → new.seq ≡ s → find_row t s (put_row t s new rows) ≡ Some new
put_same t s old new [] found named = absurd (cc)
put_same t s old new (row ∷ rows) found named = grind (arith, nat_tests, put_same t s old new rows)

pub put_other : (t s u n : ℕ) (new : JobData) (rows : List Row) → is_key u n (t, s) ≡ false → new.seq ≡ s → find_row u n (put_row t s new rows) ≡ find_row u n rows
put_other t s u n new [] other named = refl
put_other t s u n new (row ∷ rows) other named = grind (arith, nat_tests, put_other t s u n new rows)

pub drop_other : (t s u n : ℕ) (rows : List Row) → is_key u n (t, s) ≡ false → find_row u n (drop_row t s rows) ≡ find_row u n rows
drop_other t s u n [] other = refl
drop_other t s u n (row ∷ rows) other = grind (arith, nat_tests, drop_other t s u n rows)

pub drop_same : (t s : ℕ) (rows : List Row) → AreApart rows → find_row t s (drop_row t s rows) ≡ None
drop_same t s [] apart = refl
drop_same t s (row ∷ rows) apart = grind (arith, nat_tests, drop_same t s rows apart.1, apart.0)

pub add_other : (u n : ℕ) (new : Row) (rows : List Row) → is_row u n new ≡ false → find_row u n (add_row new rows) ≡ find_row u n rows
add_other u n new [] other = grind (arith, nat_tests)
add_other u n new (row ∷ rows) other = grind (arith, nat_tests, add_other u n new rows)

pub add_same : (new : Row) (rows : List Row) → find_row new.tenant new.job.seq rows ≡ None → find_row new.tenant new.job.seq (add_row new rows) ≡ Some new.job
add_same new [] none = grind (arith, nat_tests)
add_same new (row ∷ rows) none = grind (arith, nat_tests, add_same new rows)

pub put_length : (t s : ℕ) (new : JobData) (rows : List Row) → length (put_row t s new rows) ≡ length rows
put_length t s new [] = refl
put_length t s new (row ∷ rows) = grind (arith, put_length t s new rows)

pub drop_length : (t s : ℕ) (job : JobData) (rows : List Row) → find_row t s rows ≡ Some job → length (drop_row t s rows) + 1 ≡ length rows
drop_length t s job [] found = absurd (cc)
drop_length t s job (row ∷ rows) found = grind (arith, drop_length t s job rows)

pub add_length : (new : Row) (rows : List Row) → length (add_row new rows) ≡ length rows + 1
add_length new [] = refl
add_length new (row ∷ rows) = grind (arith, add_length new rows)

put_head : (p : Row → Bool) (t s : ℕ) (old new : JobData) (row : Row) (rows : List Row) (b : Bool) → is_row t s row ≡ b
    → (find_row t s rows ≡ Some old → count_rows p (put_row t s new rows) + one_if (p (record { tenant = t; job = old })) ≡ count_rows p rows + one_if (p (record { tenant = t; job = new })))
    → cond b (Some row.job) (find_row t s rows) ≡ Some old
    → count_rows p (cond b (record { tenant = t; job = new } ∷ rows) (row ∷ put_row t s new rows)) + one_if (p (record { tenant = t; job = old })) ≡ count_rows p (row ∷ rows) + one_if (p (record { tenant = t; job = new }))
put_head p t s old new row rows true e later found =
    let same = row_is t s old row e found in
    let is : one_if (p row) ≡ one_if (p (record { tenant = t; job = old })) = ap (λ r. one_if (p r)) same in
    omega (arith, is, head_count p row rows, head_count p (record { tenant = t; job = new }) rows)
put_head p t s old new row rows false e later found = omega (arith, later found, head_count p row rows, head_count p row (put_row t s new rows))

pub put_count : (p : Row → Bool) (t s : ℕ) (old new : JobData) (rows : List Row) → find_row t s rows ≡ Some old
    → count_rows p (put_row t s new rows) + one_if (p (record { tenant = t; job = old })) ≡ count_rows p rows + one_if (p (record { tenant = t; job = new }))
put_count p t s old new [] found = absurd (cc)
put_count p t s old new (row ∷ rows) found = put_head p t s old new row rows (is_row t s row) refl (put_count p t s old new rows) found

drop_head : (p : Row → Bool) (t s : ℕ) (old : JobData) (row : Row) (rows : List Row) (b : Bool) → is_row t s row ≡ b
    → (find_row t s rows ≡ Some old → count_rows p (drop_row t s rows) + one_if (p (record { tenant = t; job = old })) ≡ count_rows p rows)
    → cond b (Some row.job) (find_row t s rows) ≡ Some old → count_rows p (cond b rows (row ∷ drop_row t s rows)) + one_if (p (record { tenant = t; job = old })) ≡ count_rows p (row ∷ rows)
drop_head p t s old row rows true e later found =
    let same = row_is t s old row e found in
    let is : one_if (p row) ≡ one_if (p (record { tenant = t; job = old })) = ap (λ r. one_if (p r)) same in
    omega (arith, is, head_count p row rows)
drop_head p t s old row rows false e later found = omega (arith, later found, head_count p row rows, head_count p row (drop_row t s rows))

pub drop_count : (p : Row → Bool) (t s : ℕ) (old : JobData) (rows : List Row) → find_row t s rows ≡ Some old
    → count_rows p (drop_row t s rows) + one_if (p (record { tenant = t; job = old })) ≡ count_rows p rows
drop_count p t s old [] found = absurd (cc)
drop_count p t s old (row ∷ rows) found = drop_head p t s old row rows (is_row t s row) refl (drop_count p t s old rows) found

add_head : (p : Row → Bool) (new row : Row) (rows : List Row) (b : Bool) → count_rows p (add_row new rows) ≡ count_rows p rows + one_if (p new)
    → count_rows p (cond b (new ∷ row ∷ rows) (row ∷ add_row new rows)) ≡ count_rows p (row ∷ rows) + one_if (p new)
add_head p new row rows true later = head_count p new (row ∷ rows)
add_head p new row rows false later = omega (arith, later, head_count p row rows, head_count p row (add_row new rows))

pub add_count : (p : Row → Bool) (new : Row) (rows : List Row) → count_rows p (add_row new rows) ≡ count_rows p rows + one_if (p new)
add_count p new [] = head_count p new []
add_count p new (row ∷ rows) = add_head p new row rows (comes_before new.tenant new.job.seq row) (add_count p new rows)

one_most : (b : Bool) → one_if b ≤ 1
one_most true = omega arith
one_most false = omega arith

pub most_rows : (p : Row → Bool) (rows : List Row) → count_rows p rows ≤ length rows
most_rows p [] = omega (arith, none_count p)
most_rows p (row ∷ rows) = omega (arith, head_count p row rows, most_rows p rows, one_most (p row))

-- where a row is found that does not pass, not all do
pub found_count : (p : Row → Bool) (t s : ℕ) (job : JobData) (rows : List Row) → find_row t s rows ≡ Some job → p (record { tenant = t; job = job }) ≡ false → count_rows p rows + 1 ≤ length rows
found_count p t s job rows found not =
    let gone = drop_count p t s job rows found in
    let none : one_if (p (record { tenant = t; job = job })) ≡ 0 = ap one_if not in
    omega (arith, gone, none, drop_length t s job rows found, most_rows p (drop_row t s rows))
