-- Rows left out: each is of the project, and they ascend, so that each is left out at most once.
use Rattle.std.specs.Prelude.{◌≡◌, ◌⊎◌, ⊤, ℕ, ◌<◌, List, [], ◌∷◌, ◌++◌, All, Option, Some, None}
use Rattle.mrcpsp.specs.Project.{ProjectData, renewables, nonrenewables}
use Rattle.schedule_clauses.specs.Encoding.{ScopeData}
use Rattle.schedule_clauses.specs.declared.formula.CapacityRow.{CapacityRow}
use Rattle.schedule_clauses.specs.declared.formula.CapacityRow.TheVariants.{Use, Stock}

-- the row is of a resource of the project, and of a period within the limit
abbrev pub IsRowOf : ProjectData → Option ℕ → CapacityRow → Type 0
IsRowOf p None (Use r t) = ⊥
IsRowOf p (Some bound) (Use r t) = (r < renewables p) × (t < bound)
IsRowOf p limit (Stock k) = k < nonrenewables p

-- a row comes before another: renewable resources before the others, then by resource, then by
-- period
abbrev pub IsBefore : CapacityRow → CapacityRow → Type 0
IsBefore (Use r t) (Use q u) = (r < q) ⊎ ((r ≡ q) × (t < u))
IsBefore (Use r t) (Stock k) = ⊤
IsBefore (Stock k) (Use q u) = ⊥
IsBefore (Stock k) (Stock l) = k < l

-- all rows come before another
abbrev pub AreBefore : List CapacityRow → CapacityRow → Type 0
AreBefore rows row = All (λ x. IsBefore x row) rows

-- each row comes before the rows behind it
abbrev pub AreAscending : List CapacityRow → Type 0
AreAscending [] = ⊤
AreAscending (x ∷ xs) = All (IsBefore x) xs × AreAscending xs

-- rows of the project that ascend
pub record AreLeftOut (p : ProjectData) (limit : Option ℕ) (rows : List CapacityRow) : Type 0 where
  pub own : All (IsRowOf p limit) rows
  pub ascend : AreAscending rows

-- a row more is left out
abbrev pub with_row : CapacityRow → ScopeData → ScopeData
with_row row c = record { project = c.project; limit = c.limit; kinds = c.kinds; left_out = c.left_out ++ row ∷ [] }

-- only rows left out may have come
pub record KeepsSections (old new : ScopeData) : Type 0 where
  pub project : new.project ≡ old.project
  pub limit : new.limit ≡ old.limit
  pub kinds : new.kinds ≡ old.kinds
