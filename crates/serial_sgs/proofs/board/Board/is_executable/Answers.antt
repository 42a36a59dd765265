use Rattle.std.proofs.Common.{◌<◌, ap, ◌∙◌}
use Rattle.mrcpsp.specs.Project.{size, mode_count}
use Rattle.mrcpsp.specs.Placed.{is_executable}
use Rattle.serial_sgs.specs.Board.{BoardData}
use Rattle.serial_sgs.proofs.board.Board.is_executable.Goals as goal

pub returns : goal.returns
returns c =
    let b = c.self.inside in
    let j = c.args.activity in
    let m = c.args.mode in
    let known : j < size b.project = rw (← c.self.view_is) at c.requires.activity in
    let in_mode : m < mode_count b.project j = rw (← c.self.view_is) at c.requires.mode in
    (c.row.ensures b.project c.self.invariant.tabled known in_mode).executable
    ∙ ap (λ (x : BoardData). is_executable x.project j m) c.self.view_is
