-- The texts of faults. The sections have their names in the PSPLIB's multi-mode files (Kolisch and
-- Sprecher 1997).
use Rattle.std.specs.Prelude.{ℕ, List, ◌++◌, codes, decimal}
use Rattle.psplib_mm.specs.declared.fault.MmFault.{MmFault}
use Rattle.psplib_mm.specs.declared.fault.MmFault.TheVariants.{TooLong, Header, Projects, Doubly, Section, Number, Count, Numbering, Successor, Limit, NoMemory}
use Rattle.psplib_mm.specs.declared.fault.SectionName.{SectionName}
use Rattle.psplib_mm.specs.declared.fault.SectionName.TheVariants.{PrecedenceRelations, RequestsDurations, ResourceAvailabilities}
use Rattle.psplib_mm.specs.declared.fault.LimitName.{LimitName}
use Rattle.psplib_mm.specs.declared.fault.LimitName.TheVariants.{Jobs, Modes, Renewable, Nonrenewable, Duration, Request, Capacity, Horizon}

-- the name of a section in a file
abbrev pub section_text : SectionName → List ℕ
section_text PrecedenceRelations = codes "PRECEDENCE RELATIONS"
section_text RequestsDurations = codes "REQUESTS/DURATIONS"
section_text ResourceAvailabilities = codes "RESOURCEAVAILABILITIES"

-- a limit in one word
abbrev pub limit_text : LimitName → List ℕ
limit_text Jobs = codes "jobs"
limit_text Modes = codes "modes"
limit_text Renewable = codes "renewable"
limit_text Nonrenewable = codes "nonrenewable"
limit_text Duration = codes "duration"
limit_text Request = codes "request"
limit_text Capacity = codes "capacity"
limit_text Horizon = codes "horizon"

-- the fault, with its argument in brackets
abbrev pub fault_text : MmFault → List ℕ
fault_text TooLong = codes "TooLong"
fault_text Header = codes "Header"
fault_text Projects = codes "Projects"
fault_text Doubly = codes "Doubly"
fault_text (Section name) = codes "Section(" ++ section_text name ++ codes ")"
fault_text (Number line) = codes "Number(" ++ decimal line ++ codes ")"
fault_text (Count name) = codes "Count(" ++ section_text name ++ codes ")"
fault_text (Numbering line) = codes "Numbering(" ++ decimal line ++ codes ")"
fault_text (Successor line) = codes "Successor(" ++ decimal line ++ codes ")"
fault_text (Limit name) = codes "Limit(" ++ limit_text name ++ codes ")"
fault_text NoMemory = codes "NoMemory"
