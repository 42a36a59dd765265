-- Where a new job stands among its tenant's, and who waits after a call.
use Rattle.std.proofs.Common.{◌≡◌, ◌≢◌, ℕ, ◌<◌, ◌≤◌, ◌==◌, Some, Bool, true, false, cond, List, [], ◌∷◌, ◌++◌, ◌⊎◌, inl, inr, ⊎_elim, refl, sym, ap, ◌∙◌, subst, arith}
use Rattle.std.proofs.lemmas.Bool.{cond_both, cond-true, eqb-true, eq-eqb, and_parts}
use Rattle.std.proofs.lemmas.Bool.Decides.{nat_tests}
use Rattle.job_table.specs.Table.{Row, JobData, is_row, TableData, find_row, put_row, drop_row, jobs_of, comes_before, add_row, is_key, is_waiting, does_wait, without, waiting_then, change_job}
use Rattle.farm_core.specs.World.{World, table_of, IsWithout, KeepsOrder, KeepsTurns}
use Rattle.job_table.proofs.RowLemmas.{put_same}
use Rattle.farm_core.specs.Farm.{AreFrom, AreOf}
use Rattle.farm_core.proofs.NeedLemmas.{AreBelow}

-- ---- rows that stand by their tenants

from_less : (m n : ℕ) (rows : List Row) → m ≤ n → AreFrom n rows → AreFrom m rows
from_less m n [] l all = tt
from_less m n (row ∷ rows) l all = (omega (arith, all.0), all.1)

pub put_from : (n t s : ℕ) (new : JobData) (rows : List Row) → AreFrom n rows → AreFrom n (put_row t s new rows)
put_from n t s new [] all = tt
put_from n t s new (row ∷ rows) all =
    cond_both (is_row t s row) (record { tenant = t; job = new } ∷ rows) (row ∷ put_row t s new rows) (AreFrom n)
    (λ is. let same : row.tenant ≡ t = eqb-true row.tenant t (and_parts (row.tenant == t) (row.job.seq == s) is).0 in subst (λ k. (n ≤ k) × AreFrom k rows) same all)
    (λ _. (all.0, put_from row.tenant t s new rows all.1))

pub drop_from : (n t s : ℕ) (rows : List Row) → AreFrom n rows → AreFrom n (drop_row t s rows)
drop_from n t s [] all = tt
drop_from n t s (row ∷ rows) all =
    cond_both (is_row t s row) rows (row ∷ drop_row t s rows) (AreFrom n) (λ _. from_less n row.tenant rows all.0 all.1) (λ _. (all.0, drop_from row.tenant t s rows all.1))

before_most : (t s : ℕ) (row : Row) → comes_before t s row ≡ true → t ≤ row.tenant
before_most t s row is = grind (arith, nat_tests)

behind_most : (t s : ℕ) (row : Row) → comes_before t s row ≡ false → row.tenant ≤ t
behind_most t s row not = grind (arith, nat_tests)

pub add_from : (n : ℕ) (new : Row) (rows : List Row) → n ≤ new.tenant → AreFrom n rows → AreFrom n (add_row new rows)
add_from n new [] l all = (l, tt)
add_from n new (row ∷ rows) l all =
    cond_both (comes_before new.tenant new.job.seq row) (new ∷ row ∷ rows) (row ∷ add_row new rows) (AreFrom n)
    (λ is. (l, (before_most new.tenant new.job.seq row is, all.1)))
    (λ not. (all.0, add_from row.tenant new rows (behind_most new.tenant new.job.seq row not) all.1))

pub add_whose : (n : ℕ) (new : Row) (rows : List Row) → new.tenant < n → AreOf n rows → AreOf n (add_row new rows)
add_whose n new [] l all = (l, tt)
add_whose n new (row ∷ rows) l all =
    cond_both (comes_before new.tenant new.job.seq row) (new ∷ row ∷ rows) (row ∷ add_row new rows) (AreOf n) (λ _. (l, all)) (λ _. (all.0, add_whose n new rows l all.1))

-- ---- a tenant's new job

-- a tenant's jobs in rows of which this is the first
own_head : (t : ℕ) (row : Row) (rows : List Row) → jobs_of t (row ∷ rows) ≡ cond (row.tenant == t) (row.job ∷ jobs_of t rows) (jobs_of t rows)
own_head t row rows = grind (arith, nat_tests)

none_from : (t n : ℕ) (rows : List Row) → t < n → AreFrom n rows → jobs_of t rows ≡ []
none_from t n [] l all = refl
none_from t n (row ∷ rows) l all =
    let later : t < row.tenant = omega (arith, all.0) in
    let rest = none_from t row.tenant rows later all.1 in
    own_head t row rows ∙ cond_both (row.tenant == t) (row.job ∷ jobs_of t rows) (jobs_of t rows) (λ (js : List JobData). js ≡ []) (λ is. absurd (omega (arith, later, eqb-true row.tenant t is))) (λ _. rest)

rest_below : (t next : ℕ) (row : Row) (rows : List Row) → AreBelow next (jobs_of t (row ∷ rows)) → AreBelow next (jobs_of t rows)
rest_below t next row rows all =
    cond_both (row.tenant == t) (row.job ∷ jobs_of t rows) (jobs_of t rows) (λ (js : List JobData). AreBelow next js → AreBelow next (jobs_of t rows)) (λ _ h. h.1) (λ _ h. h)
    (subst (AreBelow next) (own_head t row rows) all)

first_below : (t next : ℕ) (row : Row) (rows : List Row) → AreBelow next (jobs_of t (row ∷ rows)) → row.tenant ≡ t → row.job.seq < next
first_below t next row rows all own =
    cond_both (row.tenant == t) (row.job ∷ jobs_of t rows) (jobs_of t rows) (λ (js : List JobData). AreBelow next js → row.job.seq < next) (λ _ h. h.0)
    (λ not _. let is : (row.tenant == t) ≡ true = eq-eqb row.tenant t own in absurd (cc)) (subst (AreBelow next) (own_head t row rows) all)

-- a row before which a tenant's later job comes is of a later tenant
before_own : (t s : ℕ) (row : Row) (rows : List Row) → AreBelow s (jobs_of t (row ∷ rows)) → comes_before t s row ≡ true → t < row.tenant
before_own t s row rows below is =
    let most = before_most t s row is in
    cond_both (row.tenant == t) true false (λ _. t < row.tenant)
    (λ own. let seq = first_below t s row rows below (eqb-true row.tenant t own) in grind (arith, nat_tests)) (λ _. grind (arith, nat_tests))

own_more : (own : Bool) (one new : JobData) (jobs rest : List JobData) → rest ≡ jobs ++ new ∷ [] → cond own (one ∷ rest) rest ≡ cond own (one ∷ jobs) jobs ++ new ∷ []
own_more true one new jobs rest is = ap (λ (js : List JobData). one ∷ js) is
own_more false one new jobs rest is = is

-- a tenant's later job stands last among its own
pub add_own : (n t : ℕ) (new : JobData) (rows : List Row) → AreFrom n rows → AreBelow new.seq (jobs_of t rows)
    → jobs_of t (add_row (record { tenant = t; job = new }) rows) ≡ jobs_of t rows ++ new ∷ []
add_own n t new [] all below = grind (arith, nat_tests)
add_own n t new (row ∷ rows) all below =
    let one : Row = record { tenant = t; job = new } in
    let mine : (t == t) ≡ true = eq-eqb t t refl in
    cond_both (comes_before t new.seq row) (one ∷ row ∷ rows) (row ∷ add_row one rows) (λ (rs : List Row). jobs_of t rs ≡ jobs_of t (row ∷ rows) ++ new ∷ [])
    (λ is.
    let none = none_from t row.tenant (row ∷ rows) (before_own t new.seq row rows below is) (omega arith, all.1) in
    own_head t one (row ∷ rows) ∙ cond-true (t == t) (new ∷ jobs_of t (row ∷ rows)) (jobs_of t (row ∷ rows)) mine ∙ ap (λ (js : List JobData). new ∷ js) none ∙ ap (λ (js : List JobData). js ++ new ∷ []) (sym none))
    (λ _.
    let rest = add_own row.tenant t new rows all.1 (rest_below t new.seq row rows below) in
    own_head t row (add_row one rows)
    ∙ own_more (row.tenant == t) row.job new (jobs_of t rows) (jobs_of t (add_row one rows)) rest
    ∙ ap (λ (js : List JobData). js ++ new ∷ []) (sym (own_head t row rows)))

pub add_other : (u t : ℕ) (new : JobData) (rows : List Row) → u ≢ t → jobs_of u (add_row (record { tenant = t; job = new }) rows) ≡ jobs_of u rows
add_other u t new [] differ = grind (arith, nat_tests)
add_other u t new (row ∷ rows) differ = grind (arith, nat_tests, add_other u t new rows differ)

-- ---- who waits

key_is : (t s : ℕ) (key : ℕ × ℕ) → is_key t s key ≡ true → key ≡ (t, s)
key_is t s key is =
    let parts = and_parts (t == key.0) (s == key.1) is in
    ap {B = ℕ × ℕ} (λ n. (n, key.1)) (sym (eqb-true t key.0 parts.0)) ∙ ap {B = ℕ × ℕ} (λ n. (t, n)) (sym (eqb-true s key.1 parts.1))

gone_or_not : (t s : ℕ) (keys : List (ℕ × ℕ)) → (without t s keys ≡ keys) ⊎ IsWithout t keys (without t s keys)
gone_or_not t s [] = inl refl
gone_or_not t s (key ∷ keys) =
    cond_both (is_key t s key) keys (key ∷ without t s keys) (λ (ks : List (ℕ × ℕ)). (ks ≡ key ∷ keys) ⊎ IsWithout t (key ∷ keys) ks)
    (λ is. inr (record { seq = s; before = []; behind = keys; was = ap {B = List (ℕ × ℕ)} (λ k. k ∷ keys) (key_is t s key is); is = refl }))
    (λ _. ⊎_elim (λ (same : without t s keys ≡ keys). inl (ap {B = List (ℕ × ℕ)} (λ ks. key ∷ ks) same))
    (λ (one : IsWithout t keys (without t s keys)). inr (record {
      seq = one.seq;
      before = key ∷ one.before;
      behind = one.behind;
      was = ap {B = List (ℕ × ℕ)} (λ ks. key ∷ ks) one.was;
      is = ap {B = List (ℕ × ℕ)} (λ ks. key ∷ ks) one.is;
    })) (gone_or_not t s keys))

pub without_order : (t s : ℕ) (keys : List (ℕ × ℕ)) → KeepsOrder t keys (without t s keys)
without_order t s keys =
    ⊎_elim (λ (same : without t s keys ≡ keys). inl same) (λ (one : IsWithout t keys (without t s keys)). inr (inr one)) (gone_or_not t s keys)

pub then_order : (t s : ℕ) (was is : Bool) (keys : List (ℕ × ℕ)) → KeepsOrder t keys (waiting_then t s was is keys)
then_order t s true true keys = inl refl
then_order t s true false keys = without_order t s keys
then_order t s false true keys = inr (inl (s, refl))
then_order t s false false keys = inl refl

then_same : (t s : ℕ) (b : Bool) (keys : List (ℕ × ℕ)) → waiting_then t s b b keys ≡ keys
then_same t s true keys = refl
then_same t s false keys = refl

-- where no job changed
pub same_turns : (old new : World) (t s : ℕ) → table_of new ≡ table_of old → KeepsTurns old t s new
same_turns old new t s is =
    ap (λ (d : TableData). d.waiting) is ∙ sym (then_same t s (does_wait (find_row t s old.rows)) old.waiting)
    ∙ ap (λ (d : TableData). waiting_then t s (does_wait (find_row t s old.rows)) (does_wait (find_row t s d.rows)) old.waiting) (sym is)

-- and where one became another
pub changed_turns : (w : World) (t s : ℕ) (job then : JobData) (all : TableData) → find_row t s w.rows ≡ Some job → then.seq ≡ s → all ≡ change_job t s job then (table_of w)
    → all.waiting ≡ waiting_then t s (does_wait (find_row t s w.rows)) (does_wait (find_row t s all.rows)) w.waiting
changed_turns w t s job then all found named is =
    let now : find_row t s all.rows ≡ Some then = ap (λ (d : TableData). find_row t s d.rows) is ∙ put_same t s job then w.rows found named in
    ap (λ (d : TableData). d.waiting) is ∙ ap (λ o. waiting_then t s (does_wait o) (is_waiting then.phase) w.waiting) (sym found)
    ∙ ap (λ o. waiting_then t s (does_wait (find_row t s w.rows)) (does_wait o) w.waiting) (sym now)
