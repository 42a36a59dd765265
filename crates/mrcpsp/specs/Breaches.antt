-- All that a schedule breaks, as one list: in the order of kinds, and within a kind of numbers. In a
-- breach, activities and resources count from 1, periods from 0; other places count from 0.
use Rattle.std.specs.Prelude.{◌≡◌, ℕ, ◌+◌, ◌≤◌, Bool, not, cond, ◌&&◌, nat_lt, nat_le, ◌==◌, List, [], ◌∷◌, ◌++◌, All, length, get_or, map, filter}
use Rattle.std.specs.List.{Contains, list_all, list_any, range_with_len, flat_map}
use Rattle.mrcpsp.specs.Numbers.{largest}
use Rattle.mrcpsp.specs.Project.{ProjectData, is_between, size, renewables, nonrenewables, mode_count, capacity, stock, precedes}
use Rattle.mrcpsp.specs.Schedule.{ScheduleData, IsFeasible, start_of, finish, use_of, consumed}
use Rattle.mrcpsp.specs.Breach.{HasShape, HasModes, IsBroken}
use Rattle.mrcpsp.specs.declared.feasibility.TheConstants.{MOST_START}
use Rattle.mrcpsp.specs.declared.breach.Breach.{Breach}
use Rattle.mrcpsp.specs.declared.breach.Breach.TheVariants.{Shape, Mode, Precedence, Renewable, Nonrenewable}

-- the numbers below n that pass a test, in order
abbrev pub passing : (ℕ → Bool) → ℕ → List ℕ
passing test n = filter test (range_with_len 0 n)

-- whether there is a mode and a start for each activity, and no start above 1,000,000,000
abbrev pub is_shaped : ProjectData → ScheduleData → Bool
is_shaped p s = (length s.modes == size p) && (length s.starts == size p) && list_all (λ t. nat_le t MOST_START) s.starts

-- whether the mode that the schedule gives activity j is none of its modes
abbrev pub is_modeless : ProjectData → ScheduleData → ℕ → Bool
is_modeless p s j = not (is_between 1 (mode_count p j) (get_or s.modes j 0))

-- whether activity j is a successor of activity i and starts before i ends
abbrev pub is_early : ProjectData → ScheduleData → ℕ → ℕ → Bool
is_early p s i j = precedes p i j && nat_lt (start_of s j) (finish p s i)

-- whether renewable resource r is used above its capacity in period t
abbrev pub is_overused : ProjectData → ScheduleData → ℕ → ℕ → Bool
is_overused p s r t = nat_lt (capacity p r) (use_of p s r t)

-- whether nonrenewable resource r is consumed above its stock
abbrev pub is_short : ProjectData → ScheduleData → ℕ → Bool
is_short p s r = nat_lt (stock p r) (consumed p s r)

-- the periods in which an activity starts
abbrev pub start_periods : ScheduleData → List ℕ
start_periods s = passing (λ t. list_any (λ u. u == t) s.starts) (largest s.starts + 1)

-- the activities without a mode
abbrev pub missing_modes : ProjectData → ScheduleData → List Breach
missing_modes p s = map (λ j. Mode (j + 1)) (passing (is_modeless p s) (size p))

-- the successors of activity i that start too early
abbrev pub early_after : ProjectData → ScheduleData → ℕ → List Breach
early_after p s i = map (λ j. Precedence (i + 1) (j + 1)) (passing (is_early p s i) (size p))

-- the overuse of renewable resource r: each other period of overuse has one of these before it
abbrev pub overuse_of : ProjectData → ScheduleData → ℕ → List Breach
overuse_of p s r = map (λ t. Renewable (r + 1) t) (filter (is_overused p s r) (start_periods s))

-- the nonrenewable resources that do not suffice
abbrev pub short_stocks : ProjectData → ScheduleData → List Breach
short_stocks p s = map (λ r. Nonrenewable (r + 1)) (passing (is_short p s) (nonrenewables p))

-- what is broken where all modes exist
abbrev pub other_breaches : ProjectData → ScheduleData → List Breach
other_breaches p s =
    flat_map (early_after p s) (range_with_len 0 (size p)) ++ flat_map (overuse_of p s) (range_with_len 0 (renewables p)) ++ short_stocks p s

-- the first list, or the second if the first is empty
abbrev pub or_else : List Breach → List Breach → List Breach
or_else [] others = others
or_else (b ∷ more) others = b ∷ more

-- all breaches: the shape alone, or else missing modes alone, or else the others
abbrev pub breaches_in : ProjectData → ScheduleData → List Breach
breaches_in p s = cond (is_shaped p s) (or_else (missing_modes p s) (other_breaches p s)) (Shape ∷ [])

-- the list has the line that breach b needs: of a mode if the shape is right, of other kinds if all
-- modes exist too; a renewable resource's line may name an earlier period
abbrev pub HasLine : (Breach → Type 0) → ProjectData → ScheduleData → Breach → Type 0
HasLine IsNamed p s Shape = IsNamed Shape
HasLine IsNamed p s (Mode j) = HasShape p s → IsNamed (Mode j)
HasLine IsNamed p s (Precedence i j) = HasShape p s → HasModes p s → IsNamed (Precedence i j)
HasLine IsNamed p s (Renewable r t) = HasShape p s → HasModes p s → (u : ℕ) × (u ≤ t) × IsNamed (Renewable r u)
HasLine IsNamed p s (Nonrenewable r) = HasShape p s → HasModes p s → IsNamed (Nonrenewable r)

-- a list of breaches is right: the schedule breaks each, and each breach has a line; so a feasible
-- one has none
pub record AreBreaches (p : ProjectData) (s : ScheduleData) (told : List Breach) : Type 0 where
  pub broken : All (IsBroken p s) told
  pub whole : (b : Breach) → IsBroken p s b → HasLine (Contains told) p s b
  pub none : HasShape p s → IsFeasible p s → told ≡ []

-- the list of all breaches is right
abbrev pub BreachesAreRight : Type 0
BreachesAreRight = (p : ProjectData) (s : ScheduleData) → AreBreaches p s (breaches_in p s)
