use Rattle.std.proofs.Common.{◌≡◌, List, Option, option_map, ap, ◌∙◌}
use Rattle.std.specs.Prelude.{option_and_then}
use Rattle.mrcpsp.specs.Placed.{Placed}
use Rattle.strategy.specs.Candidate.{Candidate}
use Rattle.serial_pass.specs.Pass.{PassData, grown}
use Rattle.serial_pass.proofs.PassLemmas.{chosen_next, node-runs}
use Rattle.rule_search.proofs.choice.run_node.Goals as goal

pub run-requires : goal.run-requires
run-requires c = let pass = c.args.pass.now in rw (c.choose-chosen.ensures 0) (chosen_next pass.project c.args.kind 0 pass.placed)

pub returns : goal.returns
returns c i =
    let pass = c.args.pass.now in let p = pass.project in
    let ran : c.run.new.self ≡ record { project = p; placed = option_and_then (λ (d : Candidate). option_map (grown p d) pass.placed) c.choose-chosen.result } = c.run.ensures in
    ran ∙ ap (λ (after : Option (List Placed)). let next : PassData = record { project = p; placed = after } in next)
    (ap (option_and_then (λ (d : Candidate). option_map (grown p d) pass.placed)) (c.choose-chosen.ensures i) ∙ node-runs p c.args.kind i pass.placed)
