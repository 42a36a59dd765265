use Rattle.std.proofs.Common.{◌-◌, None, subst, sym, arith}
use Rattle.schedule_prices.specs.declared.choice_range.ChoiceRange.{ChoiceRange}
use Rattle.schedule_prices.specs.declared.time.Time.TheVariants.{End}
use Rattle.schedule_prices.specs.Choices.{AreBarred}
use Rattle.schedule_prices.specs.Table.{BarredData, is_barred}
use Rattle.schedule_prices.proofs.TightLemmas.{none-left, starts-after, early-piece}
use Rattle.schedule_prices.proofs.barred.Barred.tighten_after.Goals as goal

pub returns-in_default-clause-right : goal.returns-in_default-clause-right
returns-in_default-clause-right c = λ _.
    let b = c.args.self.now in
    none-left End b.project b.bound (is_barred b) c.args.before (subst (λ (x : BarredData). AreBarred x.project x.bound (is_barred x)) c.self.view_is c.self.invariant.sound) c.requires.before (sym c.in_default.ensures.exact)

pub bar-requires : goal.bar-requires
bar-requires c =
    let b = c.args.self.now in
    let barring = subst (λ (x : BarredData). AreBarred x.project x.bound (is_barred x)) c.self.view_is c.self.invariant.sound in
    let x : ChoiceRange = record { activity = c.args.after; mode = None; from = 0; to = c.in-Some.end - 1 } in
    early-piece b.project b.bound (is_barred b) x c.in-Some.end barring (omega arith)
    (starts-after b.project b.bound (is_barred b) c.args.before c.args.after c.in-Some.end barring c.requires.before c.requires.after c.requires.arc (sym c.in-Some.ensures.exact))
