use Rattle.std.proofs.Common.{◌≡◌, ℕ, ◌<◌, true, false, ◌||◌, sym, ap, ◌∙◌, subst}
use Rattle.std.proofs.lemmas.Option.{MatchOption-at_none, MatchOption-at_some}
use Rattle.mrcpsp.specs.Project.{ProjectData, size, mode_count}
use Rattle.schedule_prices.specs.Choices.{AreBarred, kept_to}
use Rattle.schedule_prices.specs.Costs.{CostsData}
use Rattle.schedule_prices.specs.Table.{BarredData, is_barred}
use Rattle.schedule_prices.specs.Prices.{are_prices, refutes}
use Rattle.schedule_prices.specs.Dear.{is_choice}
use Rattle.schedule_prices.proofs.ChoiceLemmas.{prices-exceed}
use Rattle.schedule_prices.proofs.DearLemmas.{foreign-refutes, foreign-bars, more-refutes, within-refutes}
use Rattle.schedule_prices.proofs.barred.Barred.bar_dear.Goals as goal

pub returns-then-not-are_prices-clause-exact : goal.returns-then-not-are_prices-clause-exact
returns-then-not-are_prices-clause-exact c =
    let e : are_prices c.args.self.now.project c.args.prices.now ≡ false = subst (λ (p : ProjectData). are_prices p c.args.prices.now ≡ false) c.project-project.ensures (sym c.are_prices.ensures ∙ c.if-not-are_prices.true) in
    sym (foreign-refutes c.args.self.now.project c.args.self.now.bound (is_barred c.args.self.now) c.args.prices.now e)

pub returns-then-not-are_prices-clause-bars : goal.returns-then-not-are_prices-clause-bars
returns-then-not-are_prices-clause-bars c =
    let e : are_prices c.args.self.now.project c.args.prices.now ≡ false = subst (λ (p : ProjectData). are_prices p c.args.prices.now ≡ false) c.project-project.ensures (sym c.are_prices.ensures ∙ c.if-not-are_prices.true) in
    λ j m t l k. foreign-bars c.args.self.now.project c.args.self.now.bound (is_barred c.args.self.now) c.args.prices.now e j m t

pub returns-in_default-clause-exact : goal.returns-in_default-clause-exact
returns-in_default-clause-exact c =
    let p = c.args.self.now.project in
    let priced : are_prices p c.args.prices.now ≡ true = subst (λ (q : ProjectData). are_prices q c.args.prices.now ≡ true) c.project-project.ensures (sym c.are_prices.ensures ∙ c.if-not-are_prices.false) in
    let same : c.in_ok-costs.costs.prices ≡ c.args.prices.now = ap (λ (x : CostsData). x.prices) c.in_ok-costs.ensures in
    sym (more-refutes p c.args.self.now.bound (is_barred c.args.self.now) c.args.prices.now c.in_ok-costs.costs.prices same priced
    (MatchOption-at_none _ _ c.in_default.is c.in_ok-least.ensures))

pub returns-in_default-clause-right : goal.returns-in_default-clause-right
returns-in_default-clause-right c = λ _.
    let p = c.args.self.now.project in
    let barring : AreBarred p c.args.self.now.bound (is_barred c.args.self.now) = subst (λ (b : BarredData). AreBarred b.project b.bound (is_barred b)) c.self.view_is c.self.invariant.sound in
    prices-exceed p c.args.self.now.bound (is_barred c.args.self.now) c.args.prices.now barring (sym (returns-in_default-clause-exact c))

pub returns-clause-exact : goal.returns-clause-exact
returns-clause-exact c =
    let p = c.args.self.now.project in
    let priced : are_prices p c.args.prices.now ≡ true = subst (λ (q : ProjectData). are_prices q c.args.prices.now ≡ true) c.project-project.ensures (sym c.are_prices.ensures ∙ c.if-not-are_prices.false) in
    let same : c.in_ok-costs.costs.prices ≡ c.args.prices.now = ap (λ (x : CostsData). x.prices) c.in_ok-costs.ensures in
    sym (within-refutes p c.args.self.now.bound (is_barred c.args.self.now) c.args.prices.now c.in_ok-costs.costs.prices c.in-Some.least.items same priced
    (MatchOption-at_some _ _ c.in-Some.least c.in-Some.is c.in_ok-least.ensures))

pub returns-clause-bars : goal.returns-clause-bars
returns-clause-bars c =
    let p = c.args.self.now.project in
    let same : c.in_ok-costs.costs.prices ≡ c.args.prices.now = ap (λ (x : CostsData). x.prices) c.in_ok-costs.ensures in
    subst (λ prices. (j m t : ℕ) → j < size p → m < mode_count p j → is_barred c.bar_above.new.self j m t ≡ (is_barred c.args.self.now j m t || refutes p c.args.self.now.bound (kept_to (is_barred c.args.self.now) j (is_choice m t)) prices)) same c.bar_above.ensures.bars
