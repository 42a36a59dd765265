-- What a local search finds within `most` schedules.
use Rattle.std.specs.Prelude.{◌≡◌, ℕ, ◌≤◌, Bool, not, IfSome, option_map, cond}
use Rattle.mrcpsp.specs.Numbers.{all_below}
use Rattle.mrcpsp.specs.Project.{ProjectData, size, mode_count}
use Rattle.mrcpsp.specs.Schedule.{IsFeasible, makespan}
use Rattle.mrcpsp.specs.Placed.{is_executable}
use Rattle.strategy.specs.Outcome.{is_at_bound}
use Rattle.strategy.specs.declared.verdict.Verdict.TheVariants.{Going, Optimal, Infeasible}
use Rattle.solve_cli.specs.declared.search_result.SearchResult.{SearchResult}

-- whether an activity has an executable mode, and whether each has
abbrev pub can_run : ProjectData → ℕ → Bool
can_run p j = not (all_below (λ m. not (is_executable p j m)) (mode_count p j))

abbrev pub can_all_run : ProjectData → Bool
can_all_run p = all_below (can_run p) (size p)

-- the result has at most `most` nodes, a feasible best schedule with its makespan, and the verdict
-- 'infeasible' if an activity has no executable mode; else 'optimal' if the best schedule is as
-- short as the longest chain, and 'open' if not
pub record IsImproved (p : ProjectData) (most : ℕ) (f : SearchResult) : Type 0 where
  pub nodes : f.nodes ≤ most
  pub feasible : IfSome f.best (IsFeasible p)
  pub makespan : f.makespan ≡ option_map (makespan p) f.best
  pub verdict : f.verdict ≡ cond (can_all_run p) (cond (is_at_bound p f.best) Optimal Going) Infeasible
