use Rattle.std.proofs.Common.{◌≡◌, ℕ, ◌+◌, length}
use Rattle.farm_core.specs.World.{purse, view}
use Rattle.farm_replay.specs.Closing.{all_back}
use Rattle.farm_replay.specs.ScriptFarm.{IsScriptFarm}
use Rattle.farm_replay.proofs.script_farm.ScriptFarm.give_all.Given as goal

-- so many turns were given back, and nothing was spent; with all turns back the parts are as before
abbrev pub invariant-loop-given : goal.invariant-loop-given
invariant-loop-given g l =
    IsScriptFarm g.J.Strategy.meaning l.self.farm l.self.held.items × (length l.self.held.items + l._given ≡ length l.fn.self.held.items)
    × ((t : ℕ) → (view t l.self.farm).spent ≡ (view t l.fn.self.farm).spent)
    × ((p : ℕ) → all_back (purse p l.self.farm) ≡ all_back (purse p l.fn.self.farm))
