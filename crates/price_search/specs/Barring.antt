-- What prices and pieces show of a bound.
use Rattle.std.specs.Prelude.{◌≡◌, ⊤, ℕ}
use Rattle.mrcpsp.specs.Project.{ProjectData}
use Rattle.schedule_prices.specs.Choices.{EachExceeds}
use Rattle.price_search.specs.declared.bound.Barring.{Barring}
use Rattle.price_search.specs.declared.bound.Barring.TheVariants.{Refuted, Open, TooLarge}

-- a refuted bound is exceeded by each feasible schedule; the barred choices are those of the project
-- and the bound
abbrev pub IsBarring : ProjectData → ℕ → Barring → Type 0
IsBarring p bound Refuted = EachExceeds p bound
IsBarring p bound (Open barred) = (barred.project ≡ p) × (barred.bound ≡ bound)
IsBarring p bound TooLarge = ⊤
