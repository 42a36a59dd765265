use Rattle.std.proofs.Common.{◌≡◌}
use Rattle.std.specs.Prelude.{is_some}
use Rattle.farm_core.specs.Tills.{AreTillsOf}
use Rattle.farm_session.specs.TillDesk.{tills_of}
use Rattle.farm_replay.specs.ScriptFarm.{IsScriptFarm}
use Rattle.farm_replay.specs.Reader.{script_rest}
use Rattle.farm_replay.proofs.LeaseLemmas.{LeasedTo}
use Rattle.farm_replay.proofs.PlayLemmas.{Played}
use Rattle.farm_replay.proofs.script.play.Given as goal

-- so many requests are answered, the farm is where they lead and holds their turns, it is noted whether one was refused, and nothing has failed
abbrev pub invariant-loop-answered : goal.invariant-loop-answered
invariant-loop-answered g l =
    (l.stage.script_farm.farm.config ≡ l.shop.config.now) × AreTillsOf l.shop.config.now (tills_of l.stage.till_desks.items) × IsScriptFarm g.J.Strategy.meaning l.stage.script_farm.farm l.stage.script_farm.held.items
    × Played l.shop.config.now (script_rest g.R.Read.remaining l.fn.script) (script_rest g.R.Read.remaining l.script) (g.W.Write.contents l.fn.writer) (g.W.Write.contents l.writer) l._answered (is_some l.notes.refused) l.stage.script_farm.farm
    × LeasedTo l.shop.config.now (goal.M-post g l.shop.make.now) (script_rest g.R.Read.remaining l.fn.script) l.fn.stage.till_desks.items (script_rest g.R.Read.remaining l.script) l.stage.till_desks.items
    × (l.watches-inside.reads ≡ l.fn.watches.reads) × (l.watches-inside.writes ≡ l.fn.watches.writes)
