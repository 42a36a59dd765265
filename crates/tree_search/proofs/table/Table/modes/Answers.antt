use Rattle.std.proofs.Common.{arith, ap, length}
use Rattle.tree_search.proofs.TableLemmas.{first_is, modes_in, place_inside}
use Rattle.tree_search.proofs.table.Table.modes.Goals as goal

pub slice_bounds-result-end : goal.slice_bounds-result-end
slice_bounds-result-end c =
    let (p, lines, inside, order, within, project) = c.requires in
    let t = c.args.self.now in
    let j = c.args.activity in
    omega (arith, first_is p t j c.index.result.now lines inside c.index.ensures, place_inside p t j c.args.end lines inside within, t.rows.ok.0, ap length c.deref.ensures.value)

pub returns : goal.returns
returns c p lines inside order within =
    let t = c.args.self.now in
    let j = c.args.activity in
    rw (c.deref.ensures.value, first_is p t j c.index.result.now lines inside c.index.ensures) (modes_in p t j c.args.from c.args.end lines inside order within)
