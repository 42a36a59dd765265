use Rattle.std.proofs.Common.{◌+◌, ◌-◌, ◌*◌, ◌<◌, ◌≤◌, length, get_or, arith, ◌∙◌}
use Rattle.serial_pass.proofs.FinishLemmas.{drawn_here, drawn_next, drawn_over, without_lowest}
use Rattle.serial_pass.proofs.eligible.drawn_in.Goals as goal

pub returns-then-left-weight : goal.returns-then-left-weight
returns-then-left-weight c more =
    c.loop-bits.invariant.drawn more ∙ drawn_here (λ j. c.args.most - get_or c.args.lfts.now j 0) c.loop-bits.left c.loop-bits.bits c.args.word c.split_lowest-place.result.0 c.split_lowest-place.result.1 more c.split_lowest-place.ensures c.if-left-weight.true

pub loop-bits-preserved : goal.loop-bits-preserved
loop-bits-preserved c = record {
  listed = without_lowest (λ i. c.args.word * 64 + i < length c.args.lfts.now) c.loop-bits.bits c.split_lowest-place.result.0 c.split_lowest-place.result.1 c.split_lowest-place.ensures c.loop-bits.invariant.listed;
  most = without_lowest (λ i. get_or c.args.lfts.now (c.args.word * 64 + i) 0 ≤ c.args.most) c.loop-bits.bits c.split_lowest-place.result.0 c.split_lowest-place.result.1 c.split_lowest-place.ensures c.loop-bits.invariant.most;
  drawn = λ more.
      c.loop-bits.invariant.drawn more ∙ drawn_next (λ j. c.args.most - get_or c.args.lfts.now j 0) c.loop-bits.left c.loop-bits.bits c.args.word c.split_lowest-place.result.0 c.split_lowest-place.result.1 more c.split_lowest-place.ensures c.if-left-weight.false;
}

pub returns : goal.returns
returns c more = c.loop-bits.invariant.drawn more ∙ drawn_over (λ j. c.args.most - get_or c.args.lfts.now j 0) c.loop-bits.left c.loop-bits.bits c.args.word more (omega (arith, c.loop-bits-test.false))
