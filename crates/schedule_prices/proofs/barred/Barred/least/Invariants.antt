use Rattle.schedule_prices.specs.Prices.{cheapest}
use Rattle.schedule_prices.specs.Table.{is_barred}
use Rattle.schedule_prices.proofs.DearLemmas.{AreLeastSo}
use Rattle.schedule_prices.proofs.barred.Barred.least.Given as goal

abbrev pub invariant-loop-activity : goal.invariant-loop-activity
invariant-loop-activity l =
    AreLeastSo (cheapest l.self.project l.self.bound (is_barred l.self) l.costs.prices) l.activity l.supply l.total l.least.items
