use Rattle.session_lines.proofs.LawLemmas.{each_in_turn}
use Rattle.session_lines.proofs.laws.requests_come_in_turn.Goals as goal

pub returns : goal.returns
returns c = each_in_turn
