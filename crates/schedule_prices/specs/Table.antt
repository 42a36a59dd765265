-- Barred choices as a table: a mark for each activity, mode and start, true if it is barred.
use Rattle.std.specs.Prelude.{◌≡◌, ℕ, ◌+◌, ◌<◌, ◌≤◌, Bool, true, false, List, Option, Some, None}
use Rattle.mrcpsp.specs.Project.{ProjectData, size, mode_count, duration}
use Rattle.schedule_prices.specs.declared.barred.TheConstants.{MOST_STARTS}
use Rattle.schedule_prices.specs.declared.choice_range.ChoiceRange.{ChoiceRange}
use Rattle.schedule_prices.specs.Costs.{CostsData}
use Rattle.schedule_prices.specs.Choices.{AreBarred, is_marked, kept_to, is_in}

-- a project, a bound, and a table of marks
pub record BarredData : Type 0 where
  pub project : ProjectData
  pub bound : ℕ
  pub marks : List (List (List Bool))

-- whether a choice is barred
abbrev pub is_barred : BarredData → ℕ → ℕ → ℕ → Bool
is_barred b = is_marked b.marks

-- what is barred with an activity kept to a piece, if there is one
abbrev pub kept : (ℕ → ℕ → ℕ → Bool) → Option ChoiceRange → ℕ → ℕ → ℕ → Bool
kept barred None j m t = barred j m t
kept barred (Some x) j m t = kept_to barred x.activity (is_in x) j m t

-- the bound is low enough for sums; no choice left ends behind the bound; no feasible schedule
-- within the bound takes a barred choice
pub record IsTable (p : ProjectData) (bound : ℕ) (marks : List (List (List Bool))) : Type 0 where
  pub low : bound < MOST_STARTS
  pub ends : (j m t : ℕ) → j < size p → m < mode_count p j → is_marked marks j m t ≡ false → t + duration p j m ≤ bound
  pub sound : AreBarred p bound (is_marked marks)

-- the costs are those of the table's project and bound
abbrev pub IsFor : BarredData → CostsData → Type 0
IsFor b c = (c.project ≡ b.project) × (c.bound ≡ b.bound)

-- the project and the bound stay, and what is barred stays barred
pub record Keeps (old new : BarredData) : Type 0 where
  pub project : new.project ≡ old.project
  pub bound : new.bound ≡ old.bound
  pub barred : (j m t : ℕ) → is_barred old j m t ≡ true → is_barred new j m t ≡ true
