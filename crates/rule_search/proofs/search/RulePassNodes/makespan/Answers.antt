use Rattle.std.proofs.Common.{option_map, sym, ap, ◌∙◌}
use Rattle.mrcpsp.specs.Schedule.{makespan}
use Rattle.rule_search.proofs.SearchLemmas.{none_shown, whole_shown}
use Rattle.rule_search.proofs.search.RulePassNodes.makespan.Goals as goal

pub returns-then-is_whole : goal.returns-then-is_whole
returns-then-is_whole c plan k at =
    whole_shown c.args.self.now plan k c.makespan.result at (sym c.is_whole.ensures ∙ c.if-is_whole.true) c.makespan.ensures.exact c.makespan.ensures.whole

pub returns-else-is_whole : goal.returns-else-is_whole
returns-else-is_whole c plan k at =
    sym (ap (option_map (makespan plan.project)) (none_shown c.args.self.now plan k at (sym c.is_whole.ensures ∙ c.if-is_whole.false)))
