use Rattle.std.proofs.Common.{◌≡◌, max, get_or, map}
use Rattle.mrcpsp.specs.Numbers.{largest}
use Rattle.serial_pass.specs.Eligible.{AreListed, in_word}
use Rattle.serial_pass.proofs.eligible.greatest_in.Given as goal

abbrev pub invariant-loop-rest : goal.invariant-loop-rest
invariant-loop-rest l = record {
  listed : AreListed l.rest l.word l.lfts;
  greatest : max l.greatest (largest (map (λ j. get_or l.lfts j 0) (in_word l.rest l.word))) ≡ max l.least (largest (map (λ j. get_or l.lfts j 0) (in_word l.bits l.word)));
}

abbrev pub decreases-loop-rest : goal.decreases-loop-rest
decreases-loop-rest l = l.rest
