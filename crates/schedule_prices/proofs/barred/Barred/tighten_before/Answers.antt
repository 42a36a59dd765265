use Rattle.std.proofs.Common.{subst, sym, arith}
use Rattle.schedule_prices.specs.declared.time.Time.TheVariants.{Rest}
use Rattle.schedule_prices.specs.Choices.{AreBarred}
use Rattle.schedule_prices.specs.Table.{BarredData, is_barred}
use Rattle.schedule_prices.proofs.TightLemmas.{none-left, ends-before}
use Rattle.schedule_prices.proofs.barred.Barred.tighten_before.Goals as goal

pub returns-in_default-clause-right : goal.returns-in_default-clause-right
returns-in_default-clause-right c = λ _.
    let b = c.args.self.now in
    none-left Rest b.project b.bound (is_barred b) c.args.after (subst (λ (x : BarredData). AreBarred x.project x.bound (is_barred x)) c.self.view_is c.self.invariant.sound) c.requires.after (sym c.in_default.ensures.exact)

pub bar_behind-requires-clause-ends : goal.bar_behind-requires-clause-ends
bar_behind-requires-clause-ends c = λ s feasible short.
    let b = c.args.self.now in
    let barring = subst (λ (x : BarredData). AreBarred x.project x.bound (is_barred x)) c.self.view_is c.self.invariant.sound in
    let ended = ends-before b.project b.bound (is_barred b) c.args.before c.args.after c.in-Some.rest barring c.requires.before c.requires.after c.requires.arc (sym c.in-Some.ensures.exact) s feasible short in
    omega (arith, ended, c.saturating_sub.ensures, c.bound-bound.ensures.exact)
