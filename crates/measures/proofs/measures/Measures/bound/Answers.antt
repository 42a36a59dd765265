use Rattle.std.proofs.Common.{ap, ◌∙◌}
use Rattle.measures.specs.Measures.{bound_in}
use Rattle.measures.proofs.ValueLemmas.{bound_measured}
use Rattle.measures.proofs.measures.Measures.bound.Goals as goal

pub returns-clause-measure : goal.returns-clause-measure
returns-clause-measure c p are = c.self.invariant ∙ ap bound_in (c.self.view_is ∙ are) ∙ bound_measured p
