use Rattle.std.proofs.Common.{option_map, ap, ◌∙◌}
use Rattle.mrcpsp.specs.Schedule.{makespan}
use Rattle.sample_search.proofs.SearchLemmas.{best-sample}
use Rattle.sample_search.proofs.search.SamplePassesNodes.makespan.Goals as goal

pub returns : goal.returns
returns c plan k at =
    c.makespan.ensures plan.project at.kept ∙ ap (option_map (makespan plan.project)) (at.shortest ∙ best-sample plan c.args.self.now.words.seed k at.kind)
