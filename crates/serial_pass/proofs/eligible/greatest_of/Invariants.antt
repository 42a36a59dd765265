use Rattle.std.proofs.Common.{◌≡◌, max, get_or, map}
use Rattle.mrcpsp.specs.Numbers.{largest}
use Rattle.serial_pass.specs.Eligible.{from_word, members}
use Rattle.serial_pass.proofs.eligible.greatest_of.Given as goal

abbrev pub invariant-loop-word : goal.invariant-loop-word
invariant-loop-word l = max l.greatest (largest (map (λ j. get_or l.lfts j 0) (from_word l.set l.word))) ≡ largest (map (λ j. get_or l.lfts j 0) (members l.set))
