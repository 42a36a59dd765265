-- What passes the reading is a project.
use Rattle.std.specs.Prelude.{◌≡◌, ℕ, List, Result, Ok, IsTrue}
use Rattle.mrcpsp.specs.Project.{ProjectData, is_project}
use Rattle.psplib_mm.specs.Reading.{reading}

-- the project that a text means is within all limits, and its successors keep their rule
abbrev pub ReadingGivesProjects : Type 0
ReadingGivesProjects = (text : List ℕ) (p : ProjectData) → reading text ≡ Ok p → IsTrue (is_project p)
