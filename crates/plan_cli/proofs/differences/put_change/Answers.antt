use Rattle.std.proofs.Common.{append_assoc}
use Rattle.plan_cli.proofs.differences.put_change.Goals as goal

pub returns : goal.returns
returns c = rw (c.in_ok-write.ensures.bytes, c.mode-mode.ensures, c.start-start.ensures.exact, c.mode-new_mode.ensures, c.start-new_start.ensures.exact) (simp append_assoc)
