use Rattle.session_lines.proofs.LawLemmas.{lines_are_bytes}
use Rattle.session_lines.proofs.laws.lines_are_bytes.Goals as goal

pub returns : goal.returns
returns c = lines_are_bytes
