use Rattle.turn_lock.specs.Values.{IsPassOf}
use Rattle.farm_pool.proofs.WorkLemmas.{WorkedTo}
use Rattle.farm_pool.proofs.pool.Pool.work.Given as goal

abbrev pub invariant-loop : goal.invariant-loop
invariant-loop g l = record {
  own : IsPassOf l.self.lock l.pass;
  worked : WorkedTo l.self.slice l.initial.pass.view l.turns l.strangers l.pass.view;
}
