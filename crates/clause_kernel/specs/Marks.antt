-- Sets of literals as marks: each check has a mark of its own, above those of earlier checks.
use Rattle.std.specs.Prelude.{◌≡◌, ◌⊎◌, ℕ, ◌≤◌, ◌<◌, ◌==◌, Bool, nat_le, List, map, slice_index}

-- whether a literal has the mark, or a later one
abbrev pub is_marked : List ℕ → ℕ → ℕ → Bool
is_marked values mark l = nat_le mark (slice_index values l)

-- whether each literal has the mark of fixed ones
abbrev pub fixed_of : List ℕ → List Bool
fixed_of values = map (λ m. m == 4294967295) values

-- no mark is above the last one, but that of fixed literals
pub record IsFresh (values : List ℕ) (last : ℕ) : Type 0 where
  pub below : last < 4294967295
  pub each : (l : ℕ) → (slice_index values l ≤ last) ⊎ (slice_index values l ≡ 4294967295)
