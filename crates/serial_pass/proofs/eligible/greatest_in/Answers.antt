use Rattle.std.proofs.Common.{◌+◌, ◌*◌, ◌<◌, length, get_or, arith}
use Rattle.serial_pass.proofs.FinishLemmas.{greatest_next, greatest_over, without_lowest}
use Rattle.serial_pass.proofs.eligible.greatest_in.Goals as goal

pub loop-rest-preserved : goal.loop-rest-preserved
loop-rest-preserved c = record {
  listed = without_lowest (λ i. c.args.word * 64 + i < length c.args.lfts.now) c.loop-rest.rest c.split_lowest-place.result.0 c.split_lowest-place.result.1 c.split_lowest-place.ensures c.loop-rest.invariant.listed;
  greatest = greatest_next (λ j. get_or c.args.lfts.now j 0) c.loop-rest.greatest c.max-greatest.result _ c.loop-rest.rest c.args.word c.split_lowest-place.result.0 c.split_lowest-place.result.1 c.split_lowest-place.ensures (omega (arith, c.max-greatest.ensures)) c.loop-rest.invariant.greatest;
}

pub returns : goal.returns
returns c = greatest_over (λ j. get_or c.args.lfts.now j 0) c.loop-rest.greatest _ c.loop-rest.rest c.args.word (omega (arith, c.loop-rest-test.false)) c.loop-rest.invariant.greatest
