use Rattle.std.proofs.Common.{◌≡◌, take}
use Rattle.mrcpsp.proofs.mode.clone_modes.Given as goal

abbrev pub invariant-loop-mode : goal.invariant-loop-mode
invariant-loop-mode l = l.copy.items ≡ take l.mode-index l.modes
