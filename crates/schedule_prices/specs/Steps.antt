-- What else bars choices: the bound, and precedences to what has only late or early choices left.
use Rattle.std.specs.Prelude.{◌≡◌, ℕ, ◌+◌, ◌-◌, ◌<◌, ◌≤◌, Bool, true, false, cond, nat_lt, Option, Some, None}
use Rattle.mrcpsp.specs.Project.{ProjectData, size, mode_count, duration, precedes}
use Rattle.schedule_prices.specs.declared.time.Time.{Time}
use Rattle.schedule_prices.specs.declared.time.Time.TheVariants.{End, Rest}
use Rattle.schedule_prices.specs.Least.{least_below}
use Rattle.schedule_prices.specs.Choices.{AreBarred, with_piece}

-- the choices that end behind the bound
abbrev pub ends_late : ProjectData → ℕ → ℕ → ℕ → ℕ → Bool
ends_late p bound j m t = nat_lt bound (t + duration p j m)

abbrev pub LateIsBarred : Type 0
LateIsBarred = (p : ProjectData) (bound : ℕ) → AreBarred p bound (ends_late p bound)

-- the choice is of a mode that exists, and is not barred
abbrev pub IsLeft : ProjectData → (ℕ → ℕ → ℕ → Bool) → ℕ → ℕ → ℕ → Type 0
IsLeft p barred j m t = (m < mode_count p j) × (barred j m t ≡ false)

-- if all choices left of activity i end at e or later, its successor k does not start before e
abbrev pub EarlyIsBarred : Type 0
EarlyIsBarred = (p : ProjectData) (bound : ℕ) (barred : ℕ → ℕ → ℕ → Bool) (i k e : ℕ) → i < size p → k < size p → precedes p i k ≡ true → AreBarred p bound barred
    → ((m t : ℕ) → IsLeft p barred i m t → e ≤ t + duration p i m)
    → AreBarred p bound (with_piece barred k (λ m t. nat_lt t e))

-- if all choices left of activity k start at l or earlier, its predecessor i does not end behind l
abbrev pub BehindIsBarred : Type 0
BehindIsBarred = (p : ProjectData) (bound : ℕ) (barred : ℕ → ℕ → ℕ → Bool) (i k l : ℕ) → i < size p → k < size p → precedes p i k ≡ true → AreBarred p bound barred
    → ((m t : ℕ) → IsLeft p barred k m t → t ≤ l)
    → AreBarred p bound (with_piece barred i (λ m t. nat_lt l (t + duration p i m)))

-- the end of a choice, and the periods from its start to the bound
abbrev pub time_of : Time → ProjectData → ℕ → ℕ → ℕ → ℕ → ℕ
time_of End p bound j m t = t + duration p j m
time_of Rest p bound j m t = bound - t

-- the time of a choice, missing if it is barred; the least over the choices of a mode, and of all
abbrev pub time_left : Time → ProjectData → ℕ → (ℕ → ℕ → ℕ → Bool) → ℕ → ℕ → ℕ → Option ℕ
time_left time p bound barred j m t = cond (barred j m t) None (Some (time_of time p bound j m t))

abbrev pub least_in : Time → ProjectData → ℕ → (ℕ → ℕ → ℕ → Bool) → ℕ → ℕ → Option ℕ
least_in time p bound barred j m = least_below (time_left time p bound barred j m) (bound + 1)

unfoldable pub least_time : Time → ProjectData → ℕ → (ℕ → ℕ → ℕ → Bool) → ℕ → Option ℕ
least_time time p bound barred j = least_below (least_in time p bound barred j) (mode_count p j)
