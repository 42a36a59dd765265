use Rattle.std.proofs.Common.{ℕ, ◌+◌, ◌≤◌, ◌↔◌}
use Rattle.plan_cli.specs.Slack.{MayMove}
use Rattle.plan_cli.proofs.slack.slack_of.Given as goal

abbrev pub invariant-loop-after : goal.invariant-loop-after
invariant-loop-after l = (l.finish ≤ l.latest) × ((e : ℕ) → (l.finish + e ≤ l.latest) ↔ MayMove l.fitting.project.now l.fitting.schedule.now l.activity l.after e)
