use Rattle.std.proofs.Common.{◌≡◌, ◌<◌, true, arith}
use Rattle.mrcpsp.specs.Project.{size, mode_count}
use Rattle.mrcpsp.specs.Placed.{is_executable}
use Rattle.measures.proofs.ValueLemmas.{tail_small}
use Rattle.serial_sgs.proofs.BoardLemmas.{duration_small}
use Rattle.tree_search.proofs.path.Path.reach.Goals as goal

pub returns-clause-most : goal.returns-clause-most
returns-clause-most c =
    let b = c.self.inside in
    let p = b.project in
    let j = c.args.activity in
    let m = c.args.mode in
    let known : j < size p = rw (← c.self.view_is) at c.requires.activity in
    let moded : m < mode_count p j = rw (← c.self.view_is) at c.requires.mode in
    let can : is_executable p j m ≡ true = rw (← c.self.view_is) at c.requires.executable in
    let project = c.self.invariant.board.project in
    omega (arith, (c.row.ensures p c.self.invariant.tabled known moded).reach can, duration_small p j m project known moded, tail_small p j project)
