-- The tills of purses, by their numbers.
use Rattle.std.proofs.Common.{◌≡◌, List, length, sym, ap, ◌∙◌}
use Rattle.std.proofs.lemmas.List.{length-map}
use Rattle.std.proofs.lemmas.List.FromFn.{length-map-range_with_len}
use Rattle.quanta_till.specs.Till.{TillValue}
use Rattle.farm_core.specs.Config.{ConfigData}
use Rattle.farm_core.specs.World.{purses_in}
use Rattle.farm_core.specs.Tills.{opening_of, opening_for, AreTillsOf}

-- there is a till for each purse
pub tills_length : (config : ConfigData) (tills : List TillValue) → AreTillsOf config tills → length tills ≡ purses_in config
tills_length config tills are = sym (length-map tills opening_of) ∙ ap length are ∙ length-map-range_with_len (opening_for config) 0 (purses_in config)
