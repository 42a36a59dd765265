use Rattle.solve_cli.proofs.PortfolioLemmas.{one_is_itself}
use Rattle.solve_cli.proofs.laws.one_search_tells_itself.Goals as goal

pub returns : goal.returns
returns c = one_is_itself
