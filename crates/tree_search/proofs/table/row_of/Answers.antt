use Rattle.std.proofs.Common.{length, arith, ap}
use Rattle.std.proofs.lemmas.List.FromFn.{length-map-range_with_len}
use Rattle.mrcpsp.specs.Project.{size}
use Rattle.measures.specs.Measures.{values_of}
use Rattle.measures.proofs.ValueLemmas.{tail_small}
use Rattle.serial_sgs.proofs.BoardLemmas.{duration_small}
use Rattle.tree_search.proofs.table.row_of.Goals as goal

pub tail-requires : goal.tail-requires
tail-requires c =
    let p = c.args.project.now in
    omega (arith, ap length c.requires.measured, length-map-range_with_len (values_of p) 0 (size p), c.requires.activity)

pub overflow_add-reach : goal.overflow_add-reach
overflow_add-reach c =
    let p = c.args.project.now in
    let j = c.args.activity in
    let row = c.row-row.ensures p c.requires.tabled c.requires.activity c.requires.mode in
    omega (arith, row.duration, duration_small p j c.args.mode c.requires.project c.requires.activity c.requires.mode, c.tail.ensures.measure p c.requires.measured, tail_small p j c.requires.project)
