-- Choices, each a mode m and a start t of an activity j, that no feasible schedule within a bound
-- takes.
use Rattle.std.specs.Prelude.{◌≡◌, ℕ, ◌<◌, ◌≤◌, Bool, false, true, not, ◌&&◌, ◌||◌, ◌==◌, nat_le, List, [], get_or, Option, Some, None}
use Rattle.mrcpsp.specs.Project.{ProjectData, size, mode_count}
use Rattle.mrcpsp.specs.Schedule.{ScheduleData, IsFeasible, mode_of, start_of, makespan}
use Rattle.schedule_prices.specs.declared.choice_range.ChoiceRange.{ChoiceRange}

-- each feasible schedule is longer than the bound
abbrev pub EachExceeds : ProjectData → ℕ → Type 0
EachExceeds p bound = (s : ScheduleData) → IsFeasible p s → bound < makespan p s

-- no feasible schedule within the bound takes a barred choice
abbrev pub AreBarred : ProjectData → ℕ → (ℕ → ℕ → ℕ → Bool) → Type 0
AreBarred p bound barred = (s : ScheduleData) → IsFeasible p s → makespan p s ≤ bound → (j : ℕ) → j < size p → barred j (mode_of s j) (start_of s j) ≡ false

-- what is barred, and the choices of activity x in the piece
abbrev pub with_piece : (ℕ → ℕ → ℕ → Bool) → ℕ → (ℕ → ℕ → Bool) → ℕ → ℕ → ℕ → Bool
with_piece barred x piece j m t = barred j m t || ((j == x) && piece m t)

-- what is barred, and the choices of activity x outside the piece: activity x is kept to the piece
abbrev pub kept_to : (ℕ → ℕ → ℕ → Bool) → ℕ → (ℕ → ℕ → Bool) → ℕ → ℕ → ℕ → Bool
kept_to barred x piece j m t = barred j m t || ((j == x) && not (piece m t))

-- whether the mode is one of the piece's
abbrev pub is_mode_of : Option ℕ → ℕ → Bool
is_mode_of None m = true
is_mode_of (Some k) m = m == k

-- whether the mode and the start are in the piece
abbrev pub is_in : ChoiceRange → ℕ → ℕ → Bool
is_in x m t = is_mode_of x.mode m && (nat_le x.from t && nat_le t x.to)

-- whether a choice is marked as barred in a table of activities, modes and starts; what has no
-- mark is barred
unfoldable pub is_marked : List (List (List Bool)) → ℕ → ℕ → ℕ → Bool
is_marked marks j m t = get_or (get_or (get_or marks j []) m []) t true

-- if all choices of an activity are barred, each feasible schedule exceeds the bound
abbrev pub NoChoiceIsLeft : Type 0
NoChoiceIsLeft = (p : ProjectData) (bound : ℕ) (barred : ℕ → ℕ → ℕ → Bool) (x : ℕ) → AreBarred p bound barred → x < size p
    → ((m t : ℕ) → m < mode_count p x → t ≤ bound → barred x m t ≡ true) → EachExceeds p bound
