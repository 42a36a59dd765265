use Rattle.std.proofs.Common.{◌≡◌, true, take}
use Rattle.std.specs.List.{list_all}
use Rattle.farm_core.specs.Name.{is_mark}
use Rattle.farm_core.proofs.name.are_marks.Given as goal

abbrev pub invariant-loop-byte : goal.invariant-loop-byte
invariant-loop-byte l = list_all is_mark (take l.byte-index l.bytes) ≡ true
