use Rattle.std.proofs.Common.{◌≡◌, ◌∙◌, refl}
use Rattle.schedule_prices.specs.Prices.{refutes}
use Rattle.schedule_prices.specs.Steps.{ends_late}
use Rattle.schedule_prices.specs.Table.{is_barred}
use Rattle.schedule_prices.proofs.ChoiceLemmas.{refutes-same}
use Rattle.schedule_prices.proofs.barred.refute_by_prices.Goals as goal

pub returns-clause-exact : goal.returns-clause-exact
returns-clause-exact c =
    let p = c.args.project.now in
    let bound = c.args.bound in
    let b = c.in_ok-barred.barred in
    let moved : refutes b.project b.bound (is_barred b) c.args.prices.now ≡ refutes p bound (is_barred b) c.args.prices.now = rw (c.in_ok-barred.ensures.project, c.in_ok-barred.ensures.bound) refl in
    c.in_ok-refute.ensures.exact ∙ moved ∙ refutes-same p bound (is_barred b) (ends_late p bound) c.args.prices.now c.in_ok-barred.ensures.late
