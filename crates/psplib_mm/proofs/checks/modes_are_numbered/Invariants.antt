use Rattle.std.proofs.Common.{◌≡◌, ◌+◌, length}
use Rattle.psplib_mm.specs.Contents.{each, mode_in_place}
use Rattle.psplib_mm.proofs.checks.modes_are_numbered.Given as goal

abbrev pub invariant-loop-mode : goal.invariant-loop-mode
invariant-loop-mode l = record {
  checked : each mode_in_place l.place l.left ≡ each mode_in_place 1 l.initial.left;
  place : l.place + length l.left ≡ 1 + length l.initial.left;
}

abbrev pub decreases-loop-mode : goal.decreases-loop-mode
decreases-loop-mode l = length l.left
