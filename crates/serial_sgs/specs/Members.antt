-- Sets of activities as words of 64 bits: bit `j % 64` of word `j / 64` is activity j's.
use Rattle.std.specs.Prelude.{◌≡◌, ℕ, ◌/◌, ◌%◌, ◌<◌, ◌≤◌, ◌==◌, Bool, true, false, List, get_or}
use Rattle.std.specs.Int.{bit_at}

-- whether activity j is a member
unfoldable pub has : List ℕ → ℕ → Bool
has words j = bit_at (get_or words (j / 64) 0) (j % 64) == 1

-- no member is in [from, end)
abbrev pub IsOver : List ℕ → ℕ → ℕ → Type 0
IsOver words from end = (i : ℕ) → from ≤ i → i < end → has words i ≡ false

-- j is the least member, `from` or later
pub record IsNext (words : List ℕ) (from j : ℕ) : Type 0 where
  pub above : from ≤ j
  pub below : j < 256
  pub member : has words j ≡ true
  pub first : (i : ℕ) → from ≤ i → i < j → has words i ≡ false
