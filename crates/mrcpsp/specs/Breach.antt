-- What a schedule breaks, and what it breaks first. In a breach, activities and resources count
-- from 1, periods from 0.
use Rattle.std.specs.Prelude.{◌≡◌, ℕ, ◌-◌, ◌<◌, ◌≤◌, ◌⊎◌, true, List, [], ◌∷◌, length, get_or, All, Option, Some, None}
use Rattle.mrcpsp.specs.Project.{ProjectData, size, renewables, nonrenewables, capacity, stock, precedes}
use Rattle.mrcpsp.specs.Schedule.{ScheduleData, HasMode, start_of, finish, use_of, consumed}
use Rattle.mrcpsp.specs.declared.feasibility.TheConstants.{MOST_START}
use Rattle.mrcpsp.specs.declared.breach.Breach.{Breach}
use Rattle.mrcpsp.specs.declared.breach.Breach.TheVariants.{Shape, Mode, Precedence, Renewable, Nonrenewable}

-- one mode and one start for each activity, and no start above 1,000,000,000
pub record HasShape (p : ProjectData) (s : ScheduleData) : Type 0 where
  pub modes : length s.modes ≡ size p
  pub starts : length s.starts ≡ size p
  pub early : All (λ t. t ≤ MOST_START) s.starts

-- each activity has the mode that the schedule gives it
abbrev pub HasModes : ProjectData → ScheduleData → Type 0
HasModes p s = (j : ℕ) → j < size p → HasMode p s j

-- i is the number of one of n things, counted from 1
abbrev pub IsNumber : ℕ → ℕ → Type 0
IsNumber n i = (0 < i) × (i ≤ n)

-- the schedule breaks what the breach names
abbrev pub IsBroken : ProjectData → ScheduleData → Breach → Type 0
IsBroken p s Shape = HasShape p s → ⊥
IsBroken p s (Mode j) = IsNumber (size p) j × (HasMode p s (j - 1) → ⊥)
IsBroken p s (Precedence i j) = IsNumber (size p) i × IsNumber (size p) j × (precedes p (i - 1) (j - 1) ≡ true) × (start_of s (j - 1) < finish p s (i - 1))
IsBroken p s (Renewable r t) = IsNumber (renewables p) r × (capacity p (r - 1) < use_of p s (r - 1) t)
IsBroken p s (Nonrenewable r) = IsNumber (nonrenewables p) r × (stock p (r - 1) < consumed p s (r - 1))

-- the rank of a breach's kind: breaches are reported in this order
abbrev pub kind_of : Breach → ℕ
kind_of Shape = 1
kind_of (Mode j) = 2
kind_of (Precedence i j) = 3
kind_of (Renewable r t) = 4
kind_of (Nonrenewable r) = 5

-- the numbers of a breach: within a kind, breaches are reported in their order
abbrev pub numbers_of : Breach → List ℕ
numbers_of Shape = []
numbers_of (Mode j) = j ∷ []
numbers_of (Precedence i j) = i ∷ j ∷ []
numbers_of (Renewable r t) = r ∷ t ∷ []
numbers_of (Nonrenewable r) = r ∷ []

-- the first list comes before the second one, by the first number that differs
abbrev pub IsBelow : List ℕ → List ℕ → Type 0
IsBelow [] ys = ⊥
IsBelow (x ∷ xs) [] = ⊥
IsBelow (x ∷ xs) (y ∷ ys) = (x < y) ⊎ ((x ≡ y) × IsBelow xs ys)

-- breach b is reported before breach c: by its kind, then by its numbers
abbrev pub IsBefore : Breach → Breach → Type 0
IsBefore b c = IsBelow (kind_of b ∷ numbers_of b) (kind_of c ∷ numbers_of c)

-- the schedule breaks b, and nothing that is reported before b
pub record IsFirstBreach (p : ProjectData) (s : ScheduleData) (b : Breach) : Type 0 where
  pub broken : IsBroken p s b
  pub least : (c : Breach) → IsBroken p s c → IsBefore c b → ⊥

-- b is the first breach of kind k that the schedule breaks
pub record IsFirstOf (k : ℕ) (p : ProjectData) (s : ScheduleData) (b : Breach) : Type 0 where
  pub kind : kind_of b ≡ k
  pub broken : IsBroken p s b
  pub least : (c : Breach) → kind_of c ≡ k → IsBroken p s c → IsBelow (numbers_of c) (numbers_of b) → ⊥

-- the schedule breaks nothing of kind k
abbrev pub HasNone : ℕ → ProjectData → ScheduleData → Type 0
HasNone k p s = (c : Breach) → kind_of c ≡ k → IsBroken p s c → ⊥

-- the answer of a test of kind k: the first breach of that kind, or none if there is none
abbrev pub TellsFirst : ℕ → ProjectData → ScheduleData → Option Breach → Type 0
TellsFirst k p s None = HasNone k p s
TellsFirst k p s (Some b) = IsFirstOf k p s b

-- activity j is a successor of activity i and starts before i ends; both are places from 0
abbrev pub StartsEarly : ProjectData → ScheduleData → ℕ → ℕ → Type 0
StartsEarly p s i j = (precedes p i j ≡ true) × (start_of s j < finish p s i)

-- the least place of a successor of activity i that starts too early, if there is one
abbrev pub IsFirstEarly : ProjectData → ScheduleData → ℕ → Option ℕ → Type 0
IsFirstEarly p s i None = (j : ℕ) → j < size p → StartsEarly p s i j → ⊥
IsFirstEarly p s i (Some j) = (j < size p) × StartsEarly p s i j × ((k : ℕ) → k < j → StartsEarly p s i k → ⊥)

-- a list has the finish of each activity
abbrev pub AreFinishes : ProjectData → ScheduleData → List ℕ → Type 0
AreFinishes p s ends = (j : ℕ) → j < size p → get_or ends j 0 ≡ finish p s j

-- the least renewable resource that is used above its capacity in period t, if there is one
abbrev pub IsLeastOverused : ProjectData → ScheduleData → ℕ → Option ℕ → Type 0
IsLeastOverused p s t None = (q : ℕ) → q < renewables p → use_of p s q t ≤ capacity p q
IsLeastOverused p s t (Some r) = (r < renewables p) × (capacity p r < use_of p s r t) × ((q : ℕ) → q < r → use_of p s q t ≤ capacity p q)

-- the least renewable resource that is used above its capacity, and the first period of that, if
-- there is one
abbrev pub IsFirstOveruse : ProjectData → ScheduleData → Option (ℕ × ℕ) → Type 0
IsFirstOveruse p s None = (q u : ℕ) → q < renewables p → use_of p s q u ≤ capacity p q
IsFirstOveruse p s (Some first) =
    (first.0 < renewables p) × (capacity p first.0 < use_of p s first.0 first.1) × ((q u : ℕ) → q < first.0 → use_of p s q u ≤ capacity p q)
    × ((u : ℕ) → u < first.1 → use_of p s first.0 u ≤ capacity p first.0)

-- the least such resource, and its first such period, among the starts of the first n activities
abbrev pub IsFirstStartOverused : ℕ → ProjectData → ScheduleData → Option (ℕ × ℕ) → Type 0
IsFirstStartOverused n p s None = (q j : ℕ) → q < renewables p → j < n → use_of p s q (start_of s j) ≤ capacity p q
IsFirstStartOverused n p s (Some first) =
    (first.0 < renewables p) × (capacity p first.0 < use_of p s first.0 first.1) × ((q j : ℕ) → q < first.0 → j < n → use_of p s q (start_of s j) ≤ capacity p q)
    × ((j : ℕ) → j < n → start_of s j < first.1 → use_of p s first.0 (start_of s j) ≤ capacity p first.0)
