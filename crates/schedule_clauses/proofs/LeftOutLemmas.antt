-- Rows left out ascend, as they are added.
use Rattle.std.proofs.Common.{◌≡◌, ℕ, zero, suc, ◌+◌, ◌<◌, List, [], ◌∷◌, ◌++◌, get_or, Option, Bool, true, false, cond, arith, refl, ⊎_elim, ◌∙◌, inl, inr}
use Rattle.std.specs.List.{All}
use Rattle.std.proofs.lemmas.List.Elements.{All-append}
use Rattle.mrcpsp.specs.Project.{ProjectData}
use Rattle.schedule_clauses.specs.Encoding.{ScopeData}
use Rattle.schedule_clauses.specs.LeftOut.{IsRowOf, IsBefore, AreBefore, AreAscending, AreLeftOut, KeepsSections, with_row}
use Rattle.schedule_clauses.specs.declared.formula.CapacityRow.{CapacityRow}
use Rattle.schedule_clauses.specs.declared.formula.CapacityRow.TheVariants.{Use, Stock}

alone : (P : CapacityRow → Type 0) (y : CapacityRow) → P y → All P (y ∷ [])
alone P y h zero d inside = h
alone P y h (suc k) d inside = absurd (omega arith)

ascend-more : (xs : List CapacityRow) (y : CapacityRow) → AreAscending xs → AreBefore xs y → AreAscending (xs ++ y ∷ [])
ascend-more [] y h before = (λ k d inside. absurd (omega arith), h)
ascend-more (x ∷ xs) y h before = (
  All-append (IsBefore x) xs (y ∷ []) h.0 (alone (IsBefore x) y (before zero x (omega arith))),
  ascend-more xs y h.1 (λ k d inside. before (suc k) d (omega arith)),
)

pub left-out-more : (p : ProjectData) (limit : Option ℕ) (rows : List CapacityRow) (row : CapacityRow) → AreLeftOut p limit rows → IsRowOf p limit row → AreBefore rows row → AreLeftOut p limit (rows ++ row ∷ [])
left-out-more p limit rows row h is before = record {
  own = All-append (IsRowOf p limit) rows (row ∷ []) h.own (alone (IsRowOf p limit) row is);
  ascend = ascend-more rows row h.ascend before;
}

pub left-out-none : (p : ProjectData) (limit : Option ℕ) → AreLeftOut p limit []
left-out-none p limit = record { own = λ k d inside. absurd (omega arith); ascend = _ }

pub before-more : (rows : List CapacityRow) (row next : CapacityRow) → AreBefore rows next → IsBefore row next → AreBefore (rows ++ row ∷ []) next
before-more rows row next h is = All-append (λ x. IsBefore x next) rows (row ∷ []) h (alone (λ x. IsBefore x next) row is)

-- what comes before a period comes before the next; before a resource, before the next; before all
-- of the resources, before stocks
time-next : (r t : ℕ) (x : CapacityRow) → IsBefore x (Use r t) → IsBefore x (Use r (t + 1))
time-next r t (Use q u) h = ⊎_elim (λ (l : q < r). inl l) (λ (e : (q ≡ r) × (u < t)). inr (e.0, omega (arith, e.1))) h
time-next r t (Stock k) h = h

resource-next : (r t : ℕ) (x : CapacityRow) → IsBefore x (Use r t) → IsBefore x (Use (r + 1) 0)
resource-next r t (Use q u) h = ⊎_elim (λ (l : q < r). inl (omega arith)) (λ (e : (q ≡ r) × (u < t)). inl (let s = e.0 in omega arith)) h
resource-next r t (Stock k) h = h

stock-next : (k : ℕ) (x : CapacityRow) → IsBefore x (Stock k) → IsBefore x (Stock (k + 1))
stock-next k (Use q u) h = h
stock-next k (Stock l) h = omega arith

stock-first : (r t : ℕ) (x : CapacityRow) → IsBefore x (Use r t) → IsBefore x (Stock 0)
stock-first r t (Use q u) h = _
stock-first r t (Stock k) h = absurd h

pub times-next : (r t : ℕ) (rows : List CapacityRow) → AreBefore rows (Use r t) → AreBefore rows (Use r (t + 1))
times-next r t rows h = λ k d inside. time-next r t (get_or rows k d) (h k d inside)

pub resources-next : (r t : ℕ) (rows : List CapacityRow) → AreBefore rows (Use r t) → AreBefore rows (Use (r + 1) 0)
resources-next r t rows h = λ k d inside. resource-next r t (get_or rows k d) (h k d inside)

pub stocks-next : (n : ℕ) (rows : List CapacityRow) → AreBefore rows (Stock n) → AreBefore rows (Stock (n + 1))
stocks-next n rows h = λ k d inside. stock-next n (get_or rows k d) (h k d inside)

pub stocks-first : (r t : ℕ) (rows : List CapacityRow) → AreBefore rows (Use r t) → AreBefore rows (Stock 0)
stocks-first r t rows h = λ k d inside. stock-first r t (get_or rows k d) (h k d inside)

pub none-before : (row : CapacityRow) → AreBefore [] row
none-before row = λ k d inside. absurd (omega arith)

pub use-before : (r t : ℕ) → IsBefore (Use r t) (Use r (t + 1))
use-before r t = inr (refl, omega arith)

pub stock-before : (k : ℕ) → IsBefore (Stock k) (Stock (k + 1))
stock-before k = omega arith

-- a row that may be left out
pub use-step : (test : Bool) (r t : ℕ) (c new : ScopeData) → new ≡ cond test (with_row (Use r t) c) c → AreBefore c.left_out (Use r t) → AreBefore new.left_out (Use r (t + 1))
use-step true r t c new e h = rw e (before-more c.left_out (Use r t) (Use r (t + 1)) (times-next r t c.left_out h) (use-before r t))
use-step false r t c new e h = rw e (times-next r t c.left_out h)

pub stock-step : (test : Bool) (k : ℕ) (c new : ScopeData) → new ≡ cond test (with_row (Stock k) c) c → AreBefore c.left_out (Stock k) → AreBefore new.left_out (Stock (k + 1))
stock-step true k c new e h = rw e (before-more c.left_out (Stock k) (Stock (k + 1)) (stocks-next k c.left_out h) (stock-before k))
stock-step false k c new e h = rw e (stocks-next k c.left_out h)

pub step-keeps : (test : Bool) (row : CapacityRow) (old c new : ScopeData) → new ≡ cond test (with_row row c) c → KeepsSections old c → KeepsSections old new
step-keeps true row old c new e h = rw e (record { project = h.project; limit = h.limit; kinds = h.kinds })
step-keeps false row old c new e h = rw e h

pub keeps-none : (c : ScopeData) → KeepsSections c c
keeps-none c = record { project = refl; limit = refl; kinds = refl }

pub keeps-more : (a b c : ScopeData) → KeepsSections a b → KeepsSections b c → KeepsSections a c
keeps-more a b c h i = record { project = i.project ∙ h.project; limit = i.limit ∙ h.limit; kinds = i.kinds ∙ h.kinds }

pub ruleset row_rules = (use-step, stock-step, step-keeps, keeps-none, keeps-more, none-before, resources-next, stocks-first)

pub ruleset scope_rules = (left-out-more, left-out-none)
