use Rattle.std.proofs.Common.{◌+◌, ◌-◌, ◌<◌, length}
use Rattle.tree_search.specs.Path.{AreHopeless}
use Rattle.tree_search.proofs.path.Path.first_hopeful.Given as goal

abbrev pub invariant-loop-rows : goal.invariant-loop-rows
invariant-loop-rows l = record {
  inside : l.at < length l.rows;
  hopeless : AreHopeless l.self.project l.self.placed l.activity l.limit l.from (l.from + l.at);
}

abbrev pub decreases-loop-rows : goal.decreases-loop-rows
decreases-loop-rows l = length l.rows - l.at
