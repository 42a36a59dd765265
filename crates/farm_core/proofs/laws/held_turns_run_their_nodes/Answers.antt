use Rattle.farm_core.proofs.HeldLemmas as held
use Rattle.farm_core.proofs.laws.held_turns_run_their_nodes.Goals as goal

pub returns : goal.returns
returns c = held.held_turns_run_their_nodes
