-- Which tenants share a purse, and how purses are numbered.
use Rattle.std.specs.Prelude.{◌≡◌, ℕ, ◌<◌, Bool, false, ◌==◌, List, length, filter, get_or, slice_index, Option, Some, None}
use Rattle.std.specs.List.{range_with_len}
use Rattle.mrcpsp.specs.Numbers.{first_from}
use Rattle.farm_core.specs.Name.{same_bytes}

-- two tenants that both name a purse, and the same one
abbrev pub is_shared : Option (List ℕ) → Option (List ℕ) → Bool
is_shared (Some name) (Some other) = same_bytes name other
is_shared (Some name) None = false
is_shared None other = false

-- the name of the purse of tenant t, or None if its line names none
abbrev pub purse_name : List (Option (List ℕ)) → ℕ → Option (List ℕ)
purse_name names t = get_or names t None

-- the first member of a tenant's purse: the first tenant before it that shares it, or itself
unfoldable pub first_member : List (Option (List ℕ)) → ℕ → ℕ
first_member names t = first_from (λ u. is_shared (purse_name names u) (purse_name names t)) t 0

abbrev pub is_first : List (Option (List ℕ)) → ℕ → Bool
is_first names t = first_member names t == t

-- the numbers below n that pass
abbrev pub passing : (ℕ → Bool) → ℕ → List ℕ
passing test n = filter test (range_with_len 0 n)

-- a purse's number is the number of first members before its own first member
unfoldable pub purse_of : List (Option (List ℕ)) → ℕ → ℕ
purse_of names t = length (passing (is_first names) (first_member names t))

unfoldable pub purses : List (Option (List ℕ)) → ℕ
purses names = length (passing (is_first names) (length names))

-- `numbers` are those of the tenants' purses, and `count` is the number of purses
pub record AreNumbered (names : List (Option (List ℕ))) (numbers : List ℕ) (count : ℕ) : Type 0 where
  pub each : (t : ℕ) → t < length names → slice_index numbers t ≡ purse_of names t
  pub counted : count ≡ purses names

-- the members of a purse, in the order of their numbers
unfoldable pub members_of : List (Option (List ℕ)) → ℕ → List ℕ
members_of names p = passing (λ t. purse_of names t == p) (length names)

-- a tenant's place among the members of its purse: how many of them come before it
unfoldable pub place_of : List (Option (List ℕ)) → ℕ → ℕ
place_of names t = length (passing (λ u. purse_of names u == purse_of names t) t)
