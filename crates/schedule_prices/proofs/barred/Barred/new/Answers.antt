use Rattle.std.proofs.Common.{arith}
use Rattle.schedule_prices.proofs.TableLemmas.{table-new}
use Rattle.schedule_prices.proofs.barred.Barred.new.Goals as goal

pub invariant_of-result : goal.invariant_of-result
invariant_of-result c = table-new c.args.project.now c.args.bound c.in_ok-activities.activities.items (grind arith) c.in_ok-activities.ensures
