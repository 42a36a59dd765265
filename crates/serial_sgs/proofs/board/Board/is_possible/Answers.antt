use Rattle.std.proofs.Common.{◌≡◌, ◌<◌, true, false, sym, ◌∙◌, arith}
use Rattle.mrcpsp.specs.Project.{size, mode_count}
use Rattle.mrcpsp.specs.Placed.{is_placed, is_executable, is_affordable}
use Rattle.serial_sgs.proofs.RowLemmas.{consumption_small, stock_small}
use Rattle.serial_sgs.proofs.StockLemmas.{amounts_small, affordable_unplaced}
use Rattle.serial_sgs.proofs.board.Board.is_possible.Goals as goal

pub fits-requires : goal.fits-requires
fits-requires c =
    let b = c.self.inside in
    let known : c.args.activity < size b.project = rw (← c.self.view_is) at c.requires.activity in
    let in_mode : c.args.mode < mode_count b.project c.args.activity = rw (← c.self.view_is) at c.requires.mode in
    record {
      few = λ r within. omega (arith, amounts_small b.project b.placed.items b.needed c.self.invariant.board c.self.invariant.needed r within, (c.row-row.ensures b.project c.self.invariant.tabled known in_mode).extra r within, consumption_small b.project c.args.activity c.args.mode r c.self.invariant.board.project known in_mode);
      most = λ r within. omega (arith, c.self.invariant.tabled.stocks r within, stock_small b.project r c.self.invariant.board.project);
    }

pub returns-then-row : goal.returns-then-row
returns-then-row c =
    let b = c.self.inside in
    let j = c.args.activity in
    let m = c.args.mode in
    let known : j < size b.project = rw (← c.self.view_is) at c.requires.activity in
    let in_mode : m < mode_count b.project j = rw (← c.self.view_is) at c.requires.mode in
    let new : is_placed b.placed.items j ≡ false = rw (← c.self.view_is) at c.requires.unplaced in
    let row = c.row-row.ensures b.project c.self.invariant.tabled known in_mode in
    let can : is_executable b.project j m ≡ true = sym row.executable ∙ c.if-row.true in
    let enough : c.fits.result ≡ is_affordable b.project b.placed.items j m = affordable_unplaced b.project b.placed.items j m b.needed c.row-row.result.now.extra b.rows.stocks c.fits.result c.self.invariant.board known in_mode new c.self.invariant.needed row.extra c.self.invariant.tabled.stocks c.fits.ensures in
    rw (← c.self.view_is) (rw can enough)
