-- The priority rules (Kolisch 1996), as an order of the activities.
use Rattle.std.specs.Prelude.{ℕ, Bool, false, ⊤, nat_le}
use Rattle.mrcpsp.specs.Project.{ProjectData}
use Rattle.mrcpsp.specs.Values.{shortest, lft, mts}
use Rattle.strategy.specs.declared.kind.Kind.{Kind}
use Rattle.strategy.specs.declared.kind.Kind.TheVariants.{Tree, RuleLft, RuleMts, RuleSpt, Sample}

-- the kinds of search that are rules
abbrev pub IsRule : Kind → Type 0
IsRule Tree = ⊥
IsRule RuleLft = ⊤
IsRule RuleMts = ⊤
IsRule RuleSpt = ⊤
IsRule (Sample seed) = ⊥

-- whether the rule puts activity x no later than activity y
abbrev pub is_ahead : ProjectData → Kind → ℕ → ℕ → Bool
is_ahead p Tree x y = false
is_ahead p RuleLft x y = nat_le (lft p x) (lft p y)
is_ahead p RuleMts x y = nat_le (mts p y) (mts p x)
is_ahead p RuleSpt x y = nat_le (shortest p x) (shortest p y)
is_ahead p (Sample seed) x y = false
