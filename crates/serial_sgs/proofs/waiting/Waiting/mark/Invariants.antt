use Rattle.std.proofs.Common.{◌≡◌, true, take, set}
use Rattle.serial_sgs.specs.Waiting.{IsLess}
use Rattle.serial_sgs.proofs.waiting.Waiting.mark.Given as goal

abbrev pub invariant-loop-other : goal.invariant-loop-other
invariant-loop-other l = record {
  flags : l.self.flags ≡ set l.fn.self.flags l.activity true;
  less : IsLess (take l.other-index l.after) l.fn.self.missing l.self.missing;
}
