use Rattle.strategy.proofs.OutcomeLemmas.{stops_at_bound, ends_with_its_nodes, closed_stays}
use Rattle.strategy.proofs.laws.a_search_stops_at_the_bound.Goals as goal

pub returns-clause-bound : goal.returns-clause-bound
returns-clause-bound c = stops_at_bound

pub returns-clause-nodes : goal.returns-clause-nodes
returns-clause-nodes c = ends_with_its_nodes

pub returns-clause-stays : goal.returns-clause-stays
returns-clause-stays c = closed_stays
