use Rattle.std.proofs.Common.{[], arith, refl, sym, ◌∙◌}
use Rattle.serial_sgs.proofs.BoardLemmas.{board_empty}
use Rattle.serial_sgs.proofs.RowLemmas.{stock_past, stock_small}
use Rattle.serial_sgs.proofs.StockLemmas.{amounts_small, needed_nil}
use Rattle.tree_search.proofs.WidthLemmas.{need_none}
use Rattle.tree_search.proofs.path.first_stage.Goals as goal

pub returns : goal.returns
returns c =
    let p = c.args.project.now in
    let small = amounts_small p [] c.needed_first.result (board_empty p c.requires.project) (λ n m. c.needed_first.ensures n m ∙ sym (needed_nil p n)) in
    record {
      slack = λ r l. omega (arith, small r l, c.take_off.ensures r l, c.needed_first.ensures r l, c.requires.tabled.stocks r l, needed_nil p r, stock_small p r c.requires.project);
      beyond = λ r past l. omega (arith, c.take_off.ensures r l, c.requires.tabled.stocks r l, stock_past p r past, c.needed_first.ensures r l, need_none p r c.requires.project past);
      free = c.requires.tabled.capacities;
      eligible = refl;
      begin = refl;
      end = refl;
      from = refl;
    }
