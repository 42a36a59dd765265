use Rattle.tree_search.proofs.TableLemmas.{count_is}
use Rattle.tree_search.proofs.table.Table.count.Goals as goal

pub returns : goal.returns
returns c p lines inside = count_is p c.args.self.now c.args.activity c.index.result.now lines inside c.index.ensures
