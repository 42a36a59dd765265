use Rattle.std.proofs.Common.{◌≡◌, ◌+◌, length}
use Rattle.psplib_mm.specs.Contents.{each, group_in_place}
use Rattle.psplib_mm.proofs.checks.groups_are_numbered.Given as goal

abbrev pub invariant-loop-group : goal.invariant-loop-group
invariant-loop-group l = record {
  checked : each group_in_place l.place l.left ≡ each group_in_place 1 l.initial.left;
  place : l.place + length l.left ≡ 1 + length l.initial.left;
}

abbrev pub decreases-loop-group : goal.decreases-loop-group
decreases-loop-group l = length l.left
