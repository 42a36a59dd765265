use Rattle.std.proofs.Common.{length, ap, sym, refl, Some, None, ◌∙◌, replicate, arith, min, ◌+◌}
use Rattle.std.proofs.lemmas.List.{length-replicate}
use Rattle.schedule_prices.proofs.SumLemmas.{zeros-raw, raws-low, raws-step}
use Rattle.schedule_prices.proofs.sums.raw_sums.Goals as goal
use Rattle.schedule_prices.proofs.sums.raw_sums.Goals.{in-Some, in_default}

pub loop-price-init : goal.loop-price-init
loop-price-init c =
    (ap length c.in_ok-lines.ensures ∙ length-replicate c.args.count (replicate (c.args.bound + 1) 0), zeros-raw c.args.kind c.args.bound c.args.count c.in_ok-lines.lines.items c.in_ok-lines.ensures)

pub add-requires-clause-low : goal.add-requires-clause-low
add-requires-clause-low c =
    omega (arith, c.requires.low, raws-low c.args.kind c.args.bound c.args.count c.in-Some.place.line (min c.in-Some.place.time c.args.bound) c.loop-price.price-index c.args.prices.now c.loop-price.lines.items c.loop-price.invariant.0 c.loop-price.invariant.1)

pub loop-price-preserved : goal.loop-price-preserved
loop-price-preserved c =
    elim c.match-place_of.branch [
      | in-Some w ↦
          raws-step c.args.kind c.args.bound c.args.count c.loop-price.price-index c.args.prices.now _ c.loop-price.lines.items c.match-place_of.lines.items (Some w.in-Some.place)
          (omega arith) (sym c.place_of.ensures ∙ w.in-Some.is) c.loop-price.invariant.0 c.loop-price.invariant.1 (rw w.lines-is w.add.ensures)
      | in_default w ↦
          raws-step c.args.kind c.args.bound c.args.count c.loop-price.price-index c.args.prices.now _ c.loop-price.lines.items c.match-place_of.lines.items None
          (omega arith) (sym c.place_of.ensures ∙ w.in_default.is) c.loop-price.invariant.0 c.loop-price.invariant.1 (rw w.lines-is refl)
    ]
