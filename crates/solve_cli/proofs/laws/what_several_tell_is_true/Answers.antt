use Rattle.solve_cli.proofs.PortfolioLemmas.{several_are_true}
use Rattle.solve_cli.proofs.laws.what_several_tell_is_true.Goals as goal

pub returns : goal.returns
returns c = several_are_true
