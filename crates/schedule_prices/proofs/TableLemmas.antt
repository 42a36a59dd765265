-- The table of barred choices keeps what it promises.
use Rattle.std.proofs.Common.{◌≡◌, ℕ, suc, ◌+◌, ◌<◌, ◌≤◌, Bool, true, false, ◌||◌, ◌&&◌, ◌==◌, ◌≢◌, List, [], length, get_or, set, ⊎_elim, eq-eqb, ne_eqb, arith, refl, sym, ap, ◌∙◌, Option, Some, None}
use Rattle.std.specs.Prelude.{nat_lt, not}
use Rattle.std.proofs.lemmas.Bool.{cond-true, cond-false, cases_eq}
use Rattle.std.proofs.lemmas.List.{get_or-set_same, get_or-set_other, get_or_past, get_or_read}
use Rattle.std.proofs.lemmas.Bool.Decides.{nat_tests}
use Rattle.mrcpsp.specs.Project.{ProjectData, size, mode_count, duration}
use Rattle.mrcpsp.specs.Schedule.{mode_of, start_of}
use Rattle.schedule_prices.specs.declared.barred.TheConstants.{MOST_STARTS}
use Rattle.schedule_prices.specs.declared.row.Price.{Price}
use Rattle.schedule_prices.specs.Least.{lesser, least_below}
use Rattle.schedule_prices.specs.Rows.{cost}
use Rattle.schedule_prices.specs.Prices.{cost_left}
use Rattle.schedule_prices.specs.Choices.{AreBarred, is_marked, with_piece}
use Rattle.schedule_prices.specs.declared.time.Time.{Time}
use Rattle.schedule_prices.specs.Steps.{ends_late, time_of, time_left}
use Rattle.schedule_prices.specs.Table.{IsTable}
use Rattle.schedule_prices.proofs.StepLemmas.{late-is-barred}

not-false : (b : Bool) → not b ≡ false → b ≡ true
not-false true e = refl
not-false false e = sym e

not-true : (b : Bool) → not b ≡ true → b ≡ false
not-true true e = sym e
not-true false e = refl

or-false : (a : Bool) → (a || false) ≡ a
or-false true = refl
or-false false = refl

not-late : (a b : ℕ) → nat_lt a b ≡ false → b ≤ a
not-late a b e = grind (arith, nat_tests)

-- the table in which what ends behind the bound is barred
pub table-new : (p : ProjectData) (bound : ℕ) (marks : List (List (List Bool))) → bound < MOST_STARTS
    → ((j m t : ℕ) → j < size p → m < mode_count p j → is_marked marks j m t ≡ ends_late p bound j m t) → IsTable p bound marks
table-new p bound marks low late = record {
  low = low;
  ends = λ j m t known mode free. not-late bound (t + duration p j m) (sym (late j m t known mode) ∙ free);
  sound = λ s feasible short j known. late j (mode_of s j) (start_of s j) known (feasible.modes_exist j known).1 ∙ late-is-barred p bound s feasible short j known;
}

-- one number more
pub least-more : (f : ℕ → Option ℕ) (n : ℕ) (least more : Option ℕ) → least ≡ least_below f n → more ≡ lesser least (f n) → more ≡ least_below f (n + 1)
least-more f n least more was e =
    let step : n + 1 ≡ suc n = omega arith in
    rw step (e ∙ ap (λ x. lesser x (f n)) was)

pub lesser-none : (a : Option ℕ) → lesser a None ≡ a
lesser-none None = refl
lesser-none (Some x) = refl

pub cost-barred : (p : ProjectData) (barred : ℕ → ℕ → ℕ → Bool) (prices : List Price) (j m t : ℕ) → not (barred j m t) ≡ false → cost_left p barred prices j m t ≡ None
cost-barred p barred prices j m t e = cond-true (barred j m t) None (Some (cost p prices j m t)) (not-false (barred j m t) e)

pub cost-free : (p : ProjectData) (barred : ℕ → ℕ → ℕ → Bool) (prices : List Price) (j m t : ℕ) → not (barred j m t) ≡ true → cost_left p barred prices j m t ≡ Some (cost p prices j m t)
cost-free p barred prices j m t e = cond-false (barred j m t) None (Some (cost p prices j m t)) (not-true (barred j m t) e)

pub ruleset least_rules = (least-more, lesser-none, cost-barred, cost-free)

-- a piece barred in one activity, and in none
pub marks-set : (marks : List (List (List Bool))) (x : ℕ) (before after : List (List Bool)) (piece : ℕ → ℕ → Bool) → x < length marks → before ≡ get_or marks x before
    → ((m t : ℕ) → get_or (get_or after m []) t true ≡ (get_or (get_or before m []) t true || piece m t))
    → (j m t : ℕ) → is_marked (set marks x after) j m t ≡ with_piece (is_marked marks) x piece j m t
unfolding is_marked
marks-set marks x before after piece l was h j m t =
    let same : before ≡ get_or marks x [] = get_or_read marks x before l was [] in
    ⊎_elim
    (λ (e : j ≡ x). rw (e, get_or-set_same marks x after [] l, eq-eqb x x refl, ← same) (h m t))
    (λ (ne : j ≢ x). rw (get_or-set_other marks x j after [] ne, ne_eqb j x ne) (sym (or-false (get_or (get_or (get_or marks j []) m []) t true))))
    (cases_eq j x)

pub marks-past : (marks : List (List (List Bool))) (x : ℕ) (piece : ℕ → ℕ → Bool) → length marks ≤ x
    → (j m t : ℕ) → is_marked marks j m t ≡ with_piece (is_marked marks) x piece j m t
unfolding is_marked
marks-past marks x piece l j m t =
    ⊎_elim
    (λ (e : j ≡ x). rw (e, get_or_past marks x [] l) refl)
    (λ (ne : j ≢ x). rw (ne_eqb j x ne) (sym (or-false (get_or (get_or (get_or marks j []) m []) t true))))
    (cases_eq j x)

-- a table with more barred
pub barred-same : (p : ProjectData) (bound : ℕ) (a b : ℕ → ℕ → ℕ → Bool) → ((j m t : ℕ) → b j m t ≡ a j m t) → AreBarred p bound a → AreBarred p bound b
barred-same p bound a b same barring s feasible short j l = same j (mode_of s j) (start_of s j) ∙ barring s feasible short j l

pub or-left-false : (a b : Bool) → (a || b) ≡ false → a ≡ false
or-left-false true b e = e
or-left-false false b e = refl

pub table-more : (p : ProjectData) (bound : ℕ) (marks more : List (List (List Bool))) (x : ℕ) (piece : ℕ → ℕ → Bool) → IsTable p bound marks
    → ((j m t : ℕ) → is_marked more j m t ≡ with_piece (is_marked marks) x piece j m t) → AreBarred p bound (with_piece (is_marked marks) x piece) → IsTable p bound more
table-more p bound marks more x piece table same barring = record {
  low = table.low;
  ends = λ j m t known mode free. table.ends j m t known mode (or-left-false (is_marked marks j m t) ((j == x) && piece m t) (sym (same j m t) ∙ free));
  sound = barred-same p bound (with_piece (is_marked marks) x piece) (is_marked more) same barring;
}

pub time-barred : (time : Time) (p : ProjectData) (bound : ℕ) (barred : ℕ → ℕ → ℕ → Bool) (j m t : ℕ) → barred j m t ≡ true → time_left time p bound barred j m t ≡ None
time-barred time p bound barred j m t e = cond-true (barred j m t) None (Some (time_of time p bound j m t)) e

pub time-free : (time : Time) (p : ProjectData) (bound : ℕ) (barred : ℕ → ℕ → ℕ → Bool) (j m t : ℕ) → barred j m t ≡ false → time_left time p bound barred j m t ≡ Some (time_of time p bound j m t)
time-free time p bound barred j m t e = cond-false (barred j m t) None (Some (time_of time p bound j m t)) e

pub ruleset time_rules = (least-more, lesser-none, time-barred, time-free)
