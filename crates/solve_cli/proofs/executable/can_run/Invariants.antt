use Rattle.std.proofs.Common.{◌≡◌, not, true}
use Rattle.mrcpsp.specs.Numbers.{all_below}
use Rattle.mrcpsp.specs.Placed.{is_executable}
use Rattle.solve_cli.proofs.executable.can_run.Given as goal

-- no mode before this one is executable
abbrev pub invariant-loop-mode : goal.invariant-loop-mode
invariant-loop-mode l = all_below (λ m. not (is_executable l.project l.activity m)) l.mode ≡ true
