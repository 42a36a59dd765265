use Rattle.schedule_files.proofs.WrittenLemmas.{words_are_told}
use Rattle.schedule_files.proofs.laws.written_words_are_told.Goals as goal

pub returns : goal.returns
returns c = words_are_told
