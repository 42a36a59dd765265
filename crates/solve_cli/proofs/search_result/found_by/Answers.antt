use Rattle.solve_cli.proofs.SearchLemmas.{found_of}
use Rattle.solve_cli.proofs.search_result.found_by.Goals as goal

pub returns : goal.returns
returns g c =
    found_of (g.S.Strategy.meaning c.args.search).plan c.args.most (g.S.Strategy.meaning c.begin.new.search) (g.S.Strategy.meaning c.run_nodes.new.search) c.shown_by.result
    c.begin.ensures c.run_nodes.ensures.at c.run_nodes.ensures.over c.shown_by.ensures
