use Rattle.std.proofs.Common.{IfSome}
use Rattle.farm_core.specs.Turn.{IsTurn}
use Rattle.farm_tests.proofs.play.play_all.Given as goal

abbrev pub invariant-loop-at : goal.invariant-loop-at
invariant-loop-at g l = IfSome l.hand (λ turn. IsTurn turn.slice turn.ran (g.J.Strategy.meaning turn.search))
