use Rattle.schedule_files.proofs.OneLemmas.{tells_one}
use Rattle.schedule_files.proofs.laws.a_text_tells_one_schedule.Goals as goal

pub returns : goal.returns
returns c = tells_one
