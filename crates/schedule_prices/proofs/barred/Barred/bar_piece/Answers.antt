use Rattle.std.proofs.Common.{subst, sym, ◌∙◌}
use Rattle.schedule_prices.specs.Choices.{AreBarred, is_in}
use Rattle.schedule_prices.specs.Table.{BarredData, is_barred}
use Rattle.schedule_prices.proofs.ChoiceLemmas.{step-is-sound}
use Rattle.schedule_prices.proofs.barred.Barred.bar_piece.Goals as goal

pub bar-requires : goal.bar-requires
bar-requires c =
    let x = c.args.piece in
    step-is-sound c.args.self.now.project c.args.self.now.bound (is_barred c.args.self.now) c.args.prices.now x.activity (is_in x)
    (subst (λ (b : BarredData). AreBarred b.project b.bound (is_barred b)) c.self.view_is c.self.invariant.sound)
    (sym c.in_ok-refuted.ensures ∙ c.if-refuted.true)
