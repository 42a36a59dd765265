use Rattle.psplib_mm.proofs.LawLemmas.{reading_gives_projects}
use Rattle.psplib_mm.proofs.laws.what_is_read_is_a_project.Goals as goal

pub returns : goal.returns
returns c = reading_gives_projects
