use Rattle.std.proofs.Common.{◌≡◌, length, take}
use Rattle.mrcpsp.proofs.mode.same_modes.Given as goal

abbrev pub invariant-loop-i : goal.invariant-loop-i
invariant-loop-i l = (length l.one ≡ length l.other) × (take l.i l.one ≡ take l.i l.other)
