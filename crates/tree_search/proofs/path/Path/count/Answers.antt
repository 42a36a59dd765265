use Rattle.std.proofs.Common.{arith, ap}
use Rattle.mrcpsp.specs.Project.{size}
use Rattle.serial_sgs.specs.Board.{BoardData}
use Rattle.serial_sgs.proofs.BoardLemmas.{count-le-size}
use Rattle.tree_search.proofs.path.Path.count.Goals as goal

pub returns-clause-few : goal.returns-clause-few
returns-clause-few c =
    let b : BoardData = record { project = c.self.inside.project; placed = c.self.inside.placed.items } in
    omega (arith, count-le-size b c.self.invariant.board, c.len.ensures, c.self.inside.placed.ok.0, ap (λ (x : BoardData). size x.project) c.self.view_is)
