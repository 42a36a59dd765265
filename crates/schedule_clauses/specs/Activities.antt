-- Sets of activities, a bit for each: activity j is bit j % 64 of word j / 64.
use Rattle.std.specs.Prelude.{◌≡◌, ℕ, ◌+◌, ◌/◌, ◌%◌, ◌≤◌, ◌==◌, Bool, true, false, cond, List, get_or}
use Rattle.std.specs.Int.{bit_at}
use Rattle.mrcpsp.specs.Numbers.{sum_below}

-- whether activity j is in the set
unfoldable pub is_among : List ℕ → ℕ → Bool
is_among activities j = bit_at (get_or activities (j / 64) 0) (j % 64) == 1

-- the sum over the activities of the set, among the first n
abbrev pub sum_among : (ℕ → ℕ) → List ℕ → ℕ → ℕ
sum_among f activities n = sum_below (λ j. cond (is_among activities j) (f j) 0) n

-- each activity of `part` is one of `whole`
pub record IsPart (part whole : List ℕ) : Type 0 where
  pub each : (j : ℕ) → is_among part j ≡ true → is_among whole j ≡ true

-- `part` is in `whole` without activity j: if `whole` takes at most c and j takes `amount`, `part`
-- takes at most e
pub record Leaves (whole part : List ℕ) (c e j amount : ℕ) : Type 0 where
  pub nested : IsPart part whole
  pub inside : is_among whole j ≡ true
  pub outside : is_among part j ≡ false
  pub enough : c ≤ e + amount
