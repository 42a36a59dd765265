use Rattle.std.proofs.Common.{[], arith, sym, ◌∙◌}
use Rattle.serial_sgs.proofs.BoardLemmas.{board_empty}
use Rattle.serial_sgs.proofs.RowLemmas.{stock_small}
use Rattle.serial_sgs.proofs.StockLemmas.{amounts_small, needed_nil}
use Rattle.serial_pass.proofs.tables.slack_of.Goals as goal

pub returns : goal.returns
returns c r l =
    let p = c.args.project.now in
    let small = amounts_small p [] c.needed_first.result (board_empty p c.requires.project) (λ n m. c.needed_first.ensures n m ∙ sym (needed_nil p n)) in
    omega (arith, small r l, c.take_off.ensures r l, c.needed_first.ensures r l, c.requires.stocks r l, needed_nil c.args.project.now r, stock_small c.args.project.now r c.requires.project)
