use Rattle.schedule_clauses.specs.LeftOut.{KeepsSections, AreBefore}
use Rattle.schedule_clauses.specs.declared.formula.CapacityRow.TheVariants.{Use}
use Rattle.schedule_clauses.proofs.sections.capacities.use_section.Given as goal

abbrev pub invariant-loop-time : goal.invariant-loop-time
invariant-loop-time l = KeepsSections l.initial.clauses l.clauses × AreBefore l.clauses.left_out (Use l.resource l.time)
