-- What a search for a plan shows after k nodes: its best schedule, whether it is over, and its
-- verdict.
use Rattle.std.specs.Prelude.{ℕ, ◌/◌, Bool, false, cond, ◌||◌, is_some, nat_lt, nat_le, map, fold, Option, Some, None}
use Rattle.std.specs.List.{range_with_len}
use Rattle.mrcpsp.specs.Project.{ProjectData, size}
use Rattle.mrcpsp.specs.Schedule.{ScheduleData, makespan}
use Rattle.mrcpsp.specs.Values.{bound}
use Rattle.strategy.specs.Tree as tree
use Rattle.strategy.specs.Pass.{pass}
use Rattle.strategy.specs.declared.plan.Plan.{Plan}
use Rattle.strategy.specs.declared.kind.Kind.{Kind}
use Rattle.strategy.specs.declared.kind.Kind.TheVariants.{Tree, RuleLft, RuleMts, RuleSpt, Sample}
use Rattle.strategy.specs.declared.verdict.Verdict.{Verdict}
use Rattle.strategy.specs.declared.verdict.Verdict.TheVariants.{Going, Optimal, Infeasible, Ended}

-- the shorter of a best schedule and a pass; the best one if they are equal or the pass is void
abbrev pub better : ProjectData → Option ScheduleData → Option ScheduleData → Option ScheduleData
better p best None = best
better p best (Some s) = tree.improved p best s

-- the shortest schedule of the first q passes, the earliest of several
unfoldable pub best_pass : ProjectData → Kind → ℕ → Option ScheduleData
best_pass p kind q = fold (better p) None (map (pass p kind) (range_with_len 0 q))

-- a rule has its one pass once all its nodes have run
abbrev pub rule_best : ProjectData → Kind → ℕ → Option ScheduleData
rule_best p kind k = cond (nat_lt k (size p)) None (pass p kind 0)

-- the best schedule of a kind of search after k nodes
abbrev pub best_of : ProjectData → Kind → ℕ → Option ScheduleData
best_of p Tree k = tree.tree_best_after p k
best_of p RuleLft k = rule_best p RuleLft k
best_of p RuleMts k = rule_best p RuleMts k
best_of p RuleSpt k = rule_best p RuleSpt k
best_of p (Sample seed) k = best_pass p (Sample seed) (k / size p)

-- whether all nodes have run
abbrev pub all_run : ProjectData → Kind → ℕ → Bool
all_run p Tree k = tree.is_tree_over p k
all_run p RuleLft k = nat_le (size p) k
all_run p RuleMts k = nat_le (size p) k
all_run p RuleSpt k = nat_le (size p) k
all_run p (Sample seed) k = false

-- the verdict once all nodes have run
abbrev pub final_verdict : Kind → Option ScheduleData → Verdict
final_verdict Tree best = cond (is_some best) Optimal Infeasible
final_verdict RuleLft best = Ended
final_verdict RuleMts best = Ended
final_verdict RuleSpt best = Ended
final_verdict (Sample seed) best = Ended

-- whether there is a best schedule, as short as the bound: then no feasible one is shorter
abbrev pub is_at_bound : ProjectData → Option ScheduleData → Bool
is_at_bound p None = false
is_at_bound p (Some s) = nat_le (makespan p s) (bound p)

-- the best schedule of a plan after k nodes
unfoldable pub best_after : Plan → ℕ → Option ScheduleData
best_after plan k = best_of plan.project plan.kind k

-- whether a plan's search is over after k nodes: its best schedule is as short as the bound, or all
-- nodes have run
unfoldable pub is_closed : Plan → ℕ → Bool
is_closed plan k = is_at_bound plan.project (best_after plan k) || all_run plan.project plan.kind k

-- the verdict of a plan after k nodes
unfoldable pub verdict_after : Plan → ℕ → Verdict
verdict_after plan k =
    cond (is_at_bound plan.project (best_after plan k)) Optimal (cond (all_run plan.project plan.kind k) (final_verdict plan.kind (best_after plan k)) Going)
