use Rattle.mrcpsp.specs.Breach.{IsFirstStartOverused}
use Rattle.mrcpsp.proofs.feasibility.first_overuse.Given as goal

abbrev pub invariant-loop-activity : goal.invariant-loop-activity
invariant-loop-activity l = IsFirstStartOverused l.activity l.fitting.project.now l.fitting.schedule.now l.first
