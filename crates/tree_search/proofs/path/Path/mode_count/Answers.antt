use Rattle.std.proofs.Common.{◌<◌, arith}
use Rattle.mrcpsp.specs.Project.{size}
use Rattle.tree_search.proofs.path.Path.mode_count.Goals as goal

pub returns-clause-inside : goal.returns-clause-inside
returns-clause-inside c =
    let b = c.self.inside in
    let known : c.args.activity < size b.project = rw (← c.self.view_is) at c.requires in
    omega (arith, known, c.self.invariant.board.project.few)
