-- Least numbers and sums of numbers some of which may be missing. A missing number is above all
-- others.
use Rattle.std.specs.Prelude.{ℕ, zero, suc, ◌+◌, Bool, true, min, nat_lt, Option, Some, None}

-- the lesser of two
abbrev pub lesser : Option ℕ → Option ℕ → Option ℕ
lesser None y = y
lesser (Some x) None = Some x
lesser (Some x) (Some y) = Some (min x y)

-- the least of f 0 to f (n - 1), missing if all are
abbrev pub least_below : (ℕ → Option ℕ) → ℕ → Option ℕ
least_below f zero = None
least_below f (suc n) = lesser (least_below f n) (f n)

-- the sum of two, missing if one is
abbrev pub together : Option ℕ → Option ℕ → Option ℕ
together None y = None
together (Some x) None = None
together (Some x) (Some y) = Some (x + y)

-- the sum of f 0 to f (n - 1), missing if one is
abbrev pub total_below : (ℕ → Option ℕ) → ℕ → Option ℕ
total_below f zero = Some 0
total_below f (suc n) = together (total_below f n) (f n)

-- whether a number is above a limit
abbrev pub exceeds : Option ℕ → ℕ → Bool
exceeds None limit = true
exceeds (Some x) limit = nat_lt limit x
