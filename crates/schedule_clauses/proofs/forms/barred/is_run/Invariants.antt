use Rattle.std.proofs.Common.{◌≡◌, ℕ, ◌<◌, ◌≤◌, true}
use Rattle.schedule_prices.specs.Table.{is_barred}
use Rattle.schedule_clauses.proofs.forms.barred.is_run.Given as goal

abbrev pub invariant-loop-start : goal.invariant-loop-start
invariant-loop-start l = (t : ℕ) → l.from ≤ t → t < l.start → is_barred l.barred l.activity l.mode t ≡ true
