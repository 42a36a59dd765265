-- The word of a verdict.
use Rattle.std.specs.Prelude.{ℕ, List, codes}
use Rattle.strategy.specs.declared.verdict.Verdict.{Verdict}
use Rattle.strategy.specs.declared.verdict.Verdict.TheVariants.{Going, Optimal, Infeasible, Ended}

-- the word of a verdict in a result and in a reply
abbrev pub verdict_text : Verdict → List ℕ
verdict_text Going = codes "open"
verdict_text Optimal = codes "optimal"
verdict_text Infeasible = codes "infeasible"
verdict_text Ended = codes "ended"
