use Rattle.std.proofs.Common.{◌≡◌, ◌-◌, get_or}
use Rattle.strategy.specs.Pass.{drawn_at}
use Rattle.serial_pass.specs.Eligible.{from_word, members}
use Rattle.serial_pass.proofs.eligible.Eligible.drawn.Given as goal

abbrev pub invariant-loop-at : goal.invariant-loop-at
invariant-loop-at l = drawn_at (λ j. l.most - get_or l.lfts j 0) l.initial.left (members l.self.set) ≡ drawn_at (λ j. l.most - get_or l.lfts j 0) l.left (from_word l.self.set l.at)
