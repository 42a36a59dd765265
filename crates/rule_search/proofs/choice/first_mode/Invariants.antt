use Rattle.std.proofs.Common.{◌<◌, ◌∷◌, All, take, nat_le}
use Rattle.mrcpsp.specs.Project.{mode_count, duration}
use Rattle.rule_search.proofs.OrderLemmas.{IsFirst}
use Rattle.rule_search.proofs.choice.first_mode.Given as goal

abbrev pub invariant-loop-mode : goal.invariant-loop-mode
invariant-loop-mode l = record {
  best : IsFirst (λ x y. nat_le (duration l.project l.activity x) (duration l.project l.activity y)) (l.initial.first ∷ take l.mode-index l.rest) l.first;
  inside : l.first < mode_count l.project l.activity;
  others : All (λ m. m < mode_count l.project l.activity) l.rest;
}
