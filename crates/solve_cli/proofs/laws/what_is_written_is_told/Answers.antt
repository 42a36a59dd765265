use Rattle.solve_cli.proofs.JsonLemmas.{json_tells, better_json_tells, all_json_tells}
use Rattle.solve_cli.proofs.OutputLemmas.{lines_tell, better_tells}
use Rattle.solve_cli.proofs.laws.what_is_written_is_told.Goals as goal

pub returns-clause-best : goal.returns-clause-best
returns-clause-best c = lines_tell

pub returns-clause-better : goal.returns-clause-better
returns-clause-better c = better_tells

pub returns-clause-json : goal.returns-clause-json
returns-clause-json c = json_tells

pub returns-clause-better_json : goal.returns-clause-better_json
returns-clause-better_json c = better_json_tells

pub returns-clause-all_json : goal.returns-clause-all_json
returns-clause-all_json c = all_json_tells
