use Rattle.std.proofs.Common.{arith}
use Rattle.serial_pass.proofs.tables.sources_of.Goals as goal

pub loop-activity-init : goal.loop-activity-init
loop-activity-init c = record {
  done = λ j l. absurd (omega arith);
  rest = λ j _ l. c.nobody-sources.ensures.none j l;
  sums = λ p _ _. c.nobody-sources.ensures.sums p;
}
