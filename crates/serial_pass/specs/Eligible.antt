-- Sets of activities with the number, the sum and the greatest of their latest finish times.
use Rattle.std.specs.Prelude.{◌≡◌, ℕ, ◌+◌, ◌-◌, ◌*◌, ◌%◌, ◌<◌, ◌==◌, Bool, true, List, length, get_or, map, filter, sum_by}
use Rattle.std.specs.Int.{bit_at}
use Rattle.std.specs.List.{range_with_len}
use Rattle.mrcpsp.specs.Numbers.{largest}
use Rattle.mrcpsp.specs.Limits.{IsProject}
use Rattle.mrcpsp.specs.Project.{ProjectData, size}
use Rattle.mrcpsp.specs.Values.{lft}
use Rattle.serial_sgs.specs.Members.{has}
use Rattle.serial_pass.specs.declared.eligible.Eligible.{Eligible}

-- of n numbers from s on those that pass the test, by rising number
unfoldable pub picked : (ℕ → Bool) → ℕ → ℕ → List ℕ
picked test s n = filter test (range_with_len s n)

-- the members whose bits word w of a set has
unfoldable pub in_word : ℕ → ℕ → List ℕ
in_word bits w = picked (λ j. bit_at bits (j % 64) == 1) (w * 64) 64

-- the members of which the words from w on tell
unfoldable pub from_word : List ℕ → ℕ → List ℕ
from_word words w = picked (has words) (w * 64) ((4 - w) * 64)

-- the members of a set, by rising number
abbrev pub members : List ℕ → List ℕ
members words = from_word words 0

-- `place` is the lowest bit of `bits`, and `rest` is `bits` without it
pub record IsLowest (bits place rest : ℕ) : Type 0 where
  pub below : place < 64
  pub own : bit_at bits place ≡ 1
  pub none : (i : ℕ) → i < place → bit_at bits i ≡ 0
  pub gone : bit_at rest place ≡ 0
  pub others : (i : ℕ) → (i ≡ place → ⊥) → bit_at rest i ≡ bit_at bits i
  pub less : rest < bits

-- word w has bits of activities that the list has a number for
abbrev pub AreListed : ℕ → ℕ → List ℕ → Type 0
AreListed bits w lfts = (i : ℕ) → i < 64 → bit_at bits i ≡ 1 → w * 64 + i < length lfts

-- the latest finish times of the activities
pub record AreFinishes (p : ProjectData) (lfts : List ℕ) : Type 0 where
  pub project : IsProject p
  pub count : length lfts ≡ size p
  pub each : (j : ℕ) → j < size p → get_or lfts j 0 ≡ lft p j

-- the numbers that are kept are those of the members, which are activities
pub record HasSums (p : ProjectData) (e : Eligible) : Type 0 where
  pub inside : (j : ℕ) → j < 256 → has e.set j ≡ true → j < size p
  pub count : e.count ≡ length (members e.set)
  pub sum : e.sum ≡ sum_by (lft p) (members e.set)
  pub greatest : e.greatest ≡ largest (map (lft p) (members e.set))
