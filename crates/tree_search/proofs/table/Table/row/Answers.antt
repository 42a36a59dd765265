use Rattle.std.proofs.Common.{◌+◌, arith}
use Rattle.tree_search.proofs.TableLemmas.{first_is, place_inside, row_is}
use Rattle.tree_search.proofs.table.Table.row.Goals as goal

pub index-requires-2 : goal.index-requires-2
index-requires-2 c =
    let (p, lines, inside, known, project) = c.requires in
    let t = c.args.self.now in
    let j = c.args.activity in
    omega (arith, first_is p t j c.index.result.now lines inside c.index.ensures, place_inside p t j (c.args.mode + 1) lines inside (omega (arith, known)), t.rows.ok.0)

pub returns : goal.returns
returns c p lines inside known =
    let t = c.args.self.now in
    let j = c.args.activity in
    row_is p t j c.args.mode (c.index.result.now.first + c.args.mode) c.index-2.result.now lines inside known (omega (arith, first_is p t j c.index.result.now lines inside c.index.ensures)) c.index-2.ensures
