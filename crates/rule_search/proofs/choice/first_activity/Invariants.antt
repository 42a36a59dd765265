use Rattle.std.proofs.Common.{◌<◌, ◌∷◌, All, take}
use Rattle.mrcpsp.specs.Project.{size}
use Rattle.rule_search.specs.Rule.{is_ahead}
use Rattle.rule_search.proofs.OrderLemmas.{IsFirst}
use Rattle.rule_search.proofs.choice.first_activity.Given as goal

abbrev pub invariant-loop-activity : goal.invariant-loop-activity
invariant-loop-activity l = record {
  best : IsFirst (is_ahead l.pass.project l.kind) (l.initial.first ∷ take l.activity-index l.rest) l.first;
  inside : l.first < size l.pass.project;
  others : All (λ j. j < size l.pass.project) l.rest;
}
