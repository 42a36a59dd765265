use Rattle.std.proofs.Common.{subst, sym}
use Rattle.schedule_prices.specs.Choices.{AreBarred, with_piece, is_in}
use Rattle.schedule_prices.specs.Table.{BarredData, is_barred}
use Rattle.schedule_prices.proofs.TableLemmas.{table-more}
use Rattle.schedule_prices.proofs.barred.Barred.bar.Goals as goal

pub invariant_of-self : goal.invariant_of-self
invariant_of-self c =
    let x = c.args.piece.now in
    table-more c.self.inside.project.now c.self.inside.bound c.self.inside.activities.items c.bar_in.new.activities.items x.activity (is_in x) c.self.invariant c.bar_in.ensures
    (subst (λ (b : BarredData). AreBarred b.project b.bound (with_piece (is_barred b) x.activity (is_in x))) (sym c.self.view_is) c.requires)
