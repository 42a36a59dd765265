use Rattle.schedule_clauses.specs.LeftOut.{KeepsSections, AreBefore}
use Rattle.schedule_clauses.specs.declared.formula.CapacityRow.TheVariants.{Stock}
use Rattle.schedule_clauses.proofs.sections.capacities.nonrenewable_section.Given as goal

abbrev pub invariant-loop-resource : goal.invariant-loop-resource
invariant-loop-resource l = KeepsSections l.initial.clauses l.clauses × AreBefore l.clauses.left_out (Stock l.resource)
