use Rattle.std.proofs.Common.{◌≡◌, take}
use Rattle.mrcpsp.proofs.activity.clone_activities.Given as goal

abbrev pub invariant-loop-activity : goal.invariant-loop-activity
invariant-loop-activity l = l.copy.items ≡ take l.activity-index l.activities
