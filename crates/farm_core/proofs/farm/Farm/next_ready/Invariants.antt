use Rattle.farm_core.specs.Farm.{ArePassed, IsNext}
use Rattle.farm_core.proofs.farm.Farm.next_ready.Given as goal

-- those before this one are passed, and which one this is; and up to which
abbrev pub invariant-loop-i : goal.invariant-loop-i
invariant-loop-i g l = record { next : IsNext l.self l.i l.at; passed : ArePassed l.self l.passed }
