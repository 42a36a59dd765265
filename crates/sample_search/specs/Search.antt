-- A search of passes drawn from the words of a seed.
use Rattle.std.specs.Prelude.{◌≡◌, ℕ, ◌+◌, ◌*◌, ◌/◌, ◌%◌, ◌<◌, false, []}
use Rattle.mrcpsp.specs.Project.{size}
use Rattle.measures.specs.Measures.{measures_of}
use Rattle.strategy.specs.Pass.{placed_after}
use Rattle.strategy.specs.Outcome.{best_pass}
use Rattle.strategy.specs.declared.plan.Plan.{Plan}
use Rattle.strategy.specs.declared.kind.Kind.{Kind}
use Rattle.strategy.specs.declared.kind.Kind.TheVariants.{Tree, RuleLft, RuleMts, RuleSpt, Sample}
use Rattle.sample_search.specs.Best.{best_in, is_taken, IsKept}
use Rattle.sample_search.specs.declared.search.SamplePasses.{SamplePasses}
-- a search that has run no node, with its lease
pub use Rattle.paid_search.specs.Paid.{fresh}

-- the kind whose passes are drawn from a seed
abbrev pub IsSample : Kind → Type 0
IsSample Tree = ⊥
IsSample RuleLft = ⊥
IsSample RuleMts = ⊥
IsSample RuleSpt = ⊥
IsSample (Sample seed) = Unit {0}

-- the passes are after the first k nodes of the plan's search, with two words drawn for each. The
-- current pass is what these nodes leave of it, and the rest of its nodes are left. The best is that
-- of all whole passes
pub record StandsAt (s : SamplePasses) (plan : Plan) (k : ℕ) : Type 0 where
  pub kind : plan.kind ≡ Sample s.words.seed
  pub some : 0 < size plan.project
  pub nodes : s.size ≡ size plan.project
  pub left : s.left + k % size plan.project ≡ size plan.project
  pub drawn : s.words.drawn ≡ 2 * k
  pub measured : s.measures ≡ measures_of plan.project
  pub project : s.pass.project ≡ plan.project
  pub placed : s.pass.placed ≡ placed_after plan.project plan.kind (k % size plan.project) (k / size plan.project * size plan.project) []
  pub kept : IsKept plan.project s.best
  pub untaken : is_taken s.best ≡ false
  pub shortest : best_in s.best ≡ best_pass plan.project plan.kind (k / size plan.project)
