use Rattle.schedule_files.proofs.ToldLemmas.{array_told}
use Rattle.schedule_files.proofs.laws.a_written_array_is_told.Goals as goal

pub returns : goal.returns
returns c = array_told
