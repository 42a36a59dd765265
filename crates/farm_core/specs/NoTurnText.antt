-- The texts of why there is no turn.
use Rattle.std.specs.Prelude.{ℕ, List, codes}
use Rattle.farm_core.specs.declared.reply.NoTurn.{NoTurn}
use Rattle.farm_core.specs.declared.reply.NoTurn.TheVariants as no_turn

abbrev pub no_turn_text : NoTurn → List ℕ
no_turn_text no_turn.None = codes "no turn"
no_turn_text no_turn.NoMemory = codes "no memory"
