use Rattle.std.proofs.Common.{◌∙◌}
use Rattle.rule_search.proofs.SearchLemmas.{all_shown}
use Rattle.rule_search.proofs.search.RulePassNodes.all_run.Goals as goal

pub returns : goal.returns
returns c plan k at = c.is_whole.ensures ∙ all_shown c.args.self.now plan k at
