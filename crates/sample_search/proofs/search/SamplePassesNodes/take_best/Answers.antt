use Rattle.std.proofs.Common.{◌∙◌}
use Rattle.sample_search.proofs.SearchLemmas.{best-sample}
use Rattle.sample_search.proofs.search.SamplePassesNodes.take_best.Goals as goal

pub returns : goal.returns
returns c plan k at = c.take.ensures.best ∙ at.shortest ∙ best-sample plan c.args.self.now.words.seed k at.kind
