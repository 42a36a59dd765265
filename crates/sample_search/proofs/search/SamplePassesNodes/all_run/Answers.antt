use Rattle.sample_search.proofs.SearchLemmas.{all-sample}
use Rattle.sample_search.proofs.search.SamplePassesNodes.all_run.Goals as goal

pub returns : goal.returns
returns c plan k at = all-sample plan c.args.self.now.words.seed k at.kind
