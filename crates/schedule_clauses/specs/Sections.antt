-- Sections of clauses.
use Rattle.std.specs.Prelude.{◌≡◌, ℕ, ◌≤◌, List, [], ◌∷◌, ◌++◌, length, map, sum_by, Option}
use Rattle.mrcpsp.specs.Project.{ProjectData}
use Rattle.schedule_clauses.specs.Encoding.{ScopeData, AllGood}
use Rattle.schedule_clauses.specs.LeftOut.{AreLeftOut}
use Rattle.schedule_clauses.specs.declared.encoding.Encoding.{Encoding}
use Rattle.schedule_clauses.specs.declared.formula.CapacityRow.{CapacityRow}
use Rattle.schedule_clauses.specs.declared.formula.Section.{Section}
use Rattle.schedule_clauses.specs.declared.formula.SectionKind.{SectionKind}
use Rattle.schedule_clauses.specs.declared.formula.SectionKind.TheVariants.{Modes, Starts, Ends, Precedence, Runs, Renewable, Nonrenewable, Barred}

abbrev pub kinds_of : List Section → List SectionKind
kinds_of sections = map (λ s. s.kind) sections

-- the sections are of these kinds, in order, and together have all clauses
pub record AreSections (kinds : List SectionKind) (sections : List Section) (clauses : List (List ℕ)) : Type 0 where
  pub in_order : kinds_of sections ≡ kinds
  pub counts : sum_by (λ s. s.count) sections ≡ length clauses

-- the kinds of sections within a bound, and without one
abbrev pub all_kinds : List SectionKind
all_kinds = Modes ∷ Starts ∷ Ends ∷ Precedence ∷ Runs ∷ Renewable ∷ Nonrenewable ∷ Barred ∷ []

abbrev pub stock_kinds : List SectionKind
stock_kinds = Modes ∷ Nonrenewable ∷ []

-- a section more is ended
abbrev pub with_kind : SectionKind → ScopeData → ScopeData
with_kind kind c = record { project = c.project; limit = c.limit; kinds = c.kinds ++ kind ∷ []; left_out = c.left_out }

-- clauses that are good; `counted` of them are in the sections; the rows left out
pub record AreWhole (p : ProjectData) (limit : Option ℕ) (encoding : Encoding) (sections : List Section) (counted : ℕ) (rows : List CapacityRow) : Type 0 where
  pub good : AllGood p limit encoding
  pub counts : sum_by (λ s. s.count) sections ≡ counted
  pub most : counted ≤ length encoding.clauses
  pub left_out : AreLeftOut p limit rows
