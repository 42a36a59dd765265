use Rattle.std.proofs.Common.{◌≡◌, ℕ, ◌<◌, true, ◌||◌, sym, ap, ◌∙◌, subst, refl}
use Rattle.mrcpsp.specs.Project.{ProjectData, size, mode_count}
use Rattle.schedule_prices.specs.Rows.{supply}
use Rattle.schedule_prices.specs.Choices.{is_marked, kept_to}
use Rattle.schedule_prices.specs.Prices.{are_prices, cheapest, refutes}
use Rattle.schedule_prices.specs.Dear.{AreLeast, is_choice, is_dear}
use Rattle.schedule_prices.specs.Table.{BarredData, is_barred}
use Rattle.schedule_prices.proofs.DearLemmas.{table-dear, dear-answer}
use Rattle.schedule_prices.proofs.barred.Barred.bar_above.Goals as goal
use Rattle.schedule_prices.proofs.barred.Barred.bar_above.Goals.{After-bar_dear_in}

same-project : (c : After-bar_dear_in) → c.args.costs.now.project ≡ c.self.inside.project.now
same-project c = c.requires.costs.0 ∙ sym (ap (λ (b : BarredData). b.project) c.self.view_is)

priced : (c : After-bar_dear_in) → are_prices c.self.inside.project.now c.args.costs.now.prices ≡ true
priced c = subst (λ (p : ProjectData). are_prices p c.args.costs.now.prices ≡ true) (same-project c) c.requires.priced

least : (c : After-bar_dear_in) → AreLeast (cheapest c.self.inside.project.now c.self.inside.bound (is_marked c.self.inside.activities.items) c.args.costs.now.prices) (size c.self.inside.project.now) (supply c.self.inside.project.now c.args.costs.now.prices) c.args.least.now
least c = subst (λ (b : BarredData). AreLeast (cheapest b.project b.bound (is_barred b) c.args.costs.now.prices) (size b.project) (supply b.project c.args.costs.now.prices) c.args.least.now) (sym c.self.view_is) c.requires.least

barred : (c : After-bar_dear_in) → (j m t : ℕ) → is_marked c.bar_dear_in.new.activities.items j m t ≡ (is_marked c.self.inside.activities.items j m t || is_dear c.self.inside.project.now c.args.costs.now.prices c.args.least.now j m t)
barred c = subst (λ (p : ProjectData). (j m t : ℕ) → is_marked c.bar_dear_in.new.activities.items j m t ≡ (is_marked c.self.inside.activities.items j m t || is_dear p c.args.costs.now.prices c.args.least.now j m t)) (same-project c) c.bar_dear_in.ensures

pub invariant_of-self : goal.invariant_of-self
invariant_of-self c =
    table-dear c.self.inside.project.now c.self.inside.bound c.self.inside.activities.items c.bar_dear_in.new.activities.items c.args.costs.now.prices c.args.least.now (priced c) (least c) c.self.invariant (barred c)

pub returns-clause-bars : goal.returns-clause-bars
returns-clause-bars c =
    subst (λ (b : BarredData). (j m t : ℕ) → j < size b.project → m < mode_count b.project j → is_marked c.bar_dear_in.new.activities.items j m t ≡ (is_barred b j m t || refutes b.project b.bound (kept_to (is_barred b) j (is_choice m t)) c.args.costs.now.prices)) c.self.view_is
    (dear-answer c.self.inside.project.now c.self.inside.bound c.self.inside.activities.items c.bar_dear_in.new.activities.items c.args.costs.now.prices c.args.costs.now.prices c.args.least.now refl (priced c) (least c) c.self.invariant (barred c))
