-- What the counts are once a job has changed, has come or is gone.
use Rattle.std.proofs.Common.{◌≡◌, ℕ, ◌+◌, ◌-◌, ◌<◌, ◌≤◌, ◌==◌, Bool, true, false, cond, ◌&&◌, List, [], ◌∷◌, filter, length, nat_eq, Option, Some, None, IsSome, refl, sym, ap, ◌∙◌, arith}
use Rattle.std.specs.Map.{lookup}
use Rattle.std.proofs.lemmas.Bool.{eqb-true, eq-eqb}
use Rattle.std.proofs.lemmas.Bool.Decides.{nat_tests}
use Rattle.job_table.specs.Table.{Row, JobData, is_out, find_row, put_row, drop_row, add_row, jobs_of}
use Rattle.job_table.specs.Kept.{counts_of, counted, moved, one_more, one_less, AreCounted}
use Rattle.job_table.specs.declared.counts.Counts.{Counts}
use Rattle.job_table.proofs.RowLemmas.{one_if, count_rows, put_count, drop_count, add_count, most_rows}

abbrev is_of : ℕ → Row → Bool
is_of t row = row.tenant == t

abbrev is_out_of : ℕ → Row → Bool
is_out_of t row = (row.tenant == t) && is_out row.job.phase

-- the counts of a tenant, over the rows
kept_is : (t : ℕ) (rows : List Row) → length (jobs_of t rows) ≡ count_rows (is_of t) rows
unfolding count_rows
kept_is t [] = refl
kept_is t (row ∷ rows) = grind (arith, kept_is t rows)

out_is : (t : ℕ) (rows : List Row) → length (filter (λ (job : JobData). is_out job.phase) (jobs_of t rows)) ≡ count_rows (is_out_of t) rows
unfolding count_rows
out_is t [] = refl
out_is t (row ∷ rows) = grind (arith, out_is t rows)

mine : (t : ℕ) → (t == t) ≡ true
mine t = eq-eqb t t refl

mine_one : (t : ℕ) (job : JobData) → one_if (is_of t (record { tenant = t; job = job })) ≡ 1
mine_one t job = ap one_if (mine t)

mine_out : (t : ℕ) (job : JobData) → one_if (is_out_of t (record { tenant = t; job = job })) ≡ one_if (is_out job.phase)
mine_out t job = ap (λ b. one_if (b && is_out job.phase)) (mine t)

-- of another tenant
pub put_jobs : (u t s : ℕ) (new : JobData) (rows : List Row) → nat_eq t u ≡ false → jobs_of u (put_row t s new rows) ≡ jobs_of u rows
put_jobs u t s new [] other = refl
put_jobs u t s new (row ∷ rows) other = grind (arith, nat_tests, put_jobs u t s new rows)

pub drop_jobs : (u t s : ℕ) (rows : List Row) → nat_eq t u ≡ false → jobs_of u (drop_row t s rows) ≡ jobs_of u rows
drop_jobs u t s [] other = refl
drop_jobs u t s (row ∷ rows) other = grind (arith, nat_tests, drop_jobs u t s rows)

pub add_jobs : (u : ℕ) (new : Row) (rows : List Row) → nat_eq new.tenant u ≡ false → jobs_of u (add_row new rows) ≡ jobs_of u rows
add_jobs u new [] other = grind (arith, nat_tests)
add_jobs u new (row ∷ rows) other = grind (arith, nat_tests, add_jobs u new rows)

same_counts : (a b c d : ℕ) → a ≡ c → b ≡ d → record { kept = a; out = b } ≡ let x : Counts = record { kept = c; out = d } in x
same_counts a b c d p q = ap (λ n. let x : Counts = record { kept = n; out = b } in x) p ∙ ap (λ n. let x : Counts = record { kept = c; out = n } in x) q

-- the counts of the tenant whose job changes
pub record AreTold (t s : ℕ) (job : JobData) (rows : List Row) : Type 0 where
  pub some : 1 ≤ (counts_of t rows).kept
  pub least : is_out job.phase ≡ true → 1 ≤ (counts_of t rows).out
  pub most : is_out job.phase ≡ false → (counts_of t rows).out < (counts_of t rows).kept
  pub put : (new : JobData) → counts_of t (put_row t s new rows) ≡ moved (is_out job.phase) (is_out new.phase) (counts_of t rows)
  pub drop : counts_of t (drop_row t s rows) ≡ one_less (is_out job.phase) (counts_of t rows)

moved_is : (was is : Bool) (c : Counts) (kept out : ℕ) → kept ≡ c.kept → out + one_if was ≡ c.out + one_if is → record { kept = kept; out = out } ≡ moved was is c
moved_is true true c kept out k o = same_counts kept out c.kept c.out k (omega (arith, o))
moved_is true false c kept out k o = same_counts kept out c.kept (c.out - 1) k (omega (arith, o))
moved_is false true c kept out k o = same_counts kept out c.kept (c.out + 1) k (omega (arith, o))
moved_is false false c kept out k o = same_counts kept out c.kept c.out k (omega (arith, o))

less_is : (was : Bool) (c : Counts) (kept out : ℕ) → kept + 1 ≡ c.kept → out + one_if was ≡ c.out → record { kept = kept; out = out } ≡ one_less was c
less_is true c kept out k o = same_counts kept out (c.kept - 1) (c.out - 1) (omega (arith, k)) (omega (arith, o))
less_is false c kept out k o = same_counts kept out (c.kept - 1) c.out (omega (arith, k)) (omega (arith, o))

more_is : (is : Bool) (c : Counts) (kept out : ℕ) → kept ≡ c.kept + 1 → out ≡ c.out + one_if is → record { kept = kept; out = out } ≡ one_more is c
more_is true c kept out k o = same_counts kept out (c.kept + 1) (c.out + 1) k o
more_is false c kept out k o = same_counts kept out (c.kept + 1) c.out k (omega (arith, o))

-- no more are out than there are
out_most : (t : ℕ) (rows : List Row) → (counts_of t rows).out ≤ (counts_of t rows).kept
out_most t rows = filter_most (jobs_of t rows)
  where
    filter_most : (jobs : List JobData) → length (filter (λ (job : JobData). is_out job.phase) jobs) ≤ length jobs
    filter_most [] = omega arith
    filter_most (job ∷ jobs) = grind (arith, filter_most jobs)

pub told : (t s : ℕ) (job : JobData) (rows : List Row) → find_row t s rows ≡ Some job → AreTold t s job rows
told t s job rows found =
    let dropped = drop_row t s rows in
    let k = kept_is t rows in
    let o = out_is t rows in
    let kd = kept_is t dropped in
    let od = out_is t dropped in
    let less_k = drop_count (is_of t) t s job rows found in
    let less_o = drop_count (is_out_of t) t s job rows found in
    let one = mine_one t job in
    let out = mine_out t job in
    record {
      some = omega (arith, k, less_k, one);
      least = λ e. omega (arith, o, less_o, out, ap one_if e);
      most = λ e. omega (arith, o, k, kd, od, less_o, less_k, one, out, ap one_if e, out_most t dropped);
      put = λ new. let kp = kept_is t (put_row t s new rows) in let op = out_is t (put_row t s new rows) in
          moved_is (is_out job.phase) (is_out new.phase) (counts_of t rows) (counts_of t (put_row t s new rows)).kept (counts_of t (put_row t s new rows)).out
          (omega (arith, k, kp, put_count (is_of t) t s job new rows found, one, mine_one t new))
          (omega (arith, o, op, put_count (is_out_of t) t s job new rows found, out, mine_out t new));
      drop = less_is (is_out job.phase) (counts_of t rows) (counts_of t dropped).kept (counts_of t dropped).out (omega (arith, k, kd, less_k, one)) (omega (arith, o, od, less_o, out));
    }

pub told_more : (new : Row) (rows : List Row) → counts_of new.tenant (add_row new rows) ≡ one_more (is_out new.job.phase) (counts_of new.tenant rows)
told_more new rows =
    let t = new.tenant in
    let all = add_row new rows in
    more_is (is_out new.job.phase) (counts_of t rows) (counts_of t all).kept (counts_of t all).out
    (omega (arith, kept_is t rows, kept_is t all, add_count (is_of t) new rows, mine_one t new.job))
    (omega (arith, out_is t rows, out_is t all, add_count (is_out_of t) new rows, mine_out t new.job))

pub kept_most : (t : ℕ) (rows : List Row) → ((counts_of t rows).kept ≤ length rows) × ((counts_of t rows).out ≤ length rows)
kept_most t rows = (omega (arith, kept_is t rows, most_rows (is_of t) rows), omega (arith, out_is t rows, most_rows (is_out_of t) rows))

-- counts that say the new ones of one tenant, and the old ones of the others
recount_case : (t u : ℕ) (b : Bool) → nat_eq t u ≡ b → (new : Counts) (rows then : List Row) (c : Counts) → new ≡ counts_of t then → (b ≡ false → counts_of u then ≡ counts_of u rows) → c ≡ counts_of u rows → cond b new c ≡ counts_of u then
recount_case t u true e new rows then c tells others old = tells ∙ ap (λ n. counts_of n then) (eqb-true t u e)
recount_case t u false e new rows then c told others old = old ∙ sym (others refl)

pub recounted : (t : ℕ) (new : Counts) (olds news : List (ℕ × Counts)) (rows then : List Row) → AreCounted olds rows → new ≡ counts_of t then
    → ((u : ℕ) → nat_eq t u ≡ false → counts_of u then ≡ counts_of u rows) → ((u : ℕ) → counted (lookup (nat_eq u) news) ≡ cond (nat_eq t u) new (counted (lookup (nat_eq u) olds))) → AreCounted news then
recounted t new olds news rows then are told others after u = after u ∙ recount_case t u (nat_eq t u) refl new rows then (counted (lookup (nat_eq u) olds)) told (others u) (are u)

-- a tenant with a job has its counts
some_in : (o : Option Counts) → 1 ≤ (counted o).kept → IsSome o
some_in None most = absurd (omega (arith, most))
some_in (Some c) most = refl

pub has_counts : (t s : ℕ) (job : JobData) (counts : List (ℕ × Counts)) (rows : List Row) → AreCounted counts rows → find_row t s rows ≡ Some job → IsSome (lookup (nat_eq t) counts)
has_counts t s job counts rows are found = some_in (lookup (nat_eq t) counts) (omega (arith, ap (λ (c : Counts). c.kept) (are t), (told t s job rows found).some))
