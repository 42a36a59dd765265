use Rattle.std.proofs.Common.{◌≡◌, ◌*◌, ◌≤◌}
use Rattle.tree_search.specs.Table.{modes_before}
use Rattle.tree_search.proofs.table.count_all.Given as goal

abbrev pub invariant-loop-activity : goal.invariant-loop-activity
invariant-loop-activity l = record { sum : l.all ≡ modes_before l.project l.activity; few : l.all ≤ 10 * l.activity }
