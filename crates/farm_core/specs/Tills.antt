-- The tills of a farm's purses.
use Rattle.std.specs.Prelude.{◌≡◌, ℕ, ◌<◌, List, length, map, get_or}
use Rattle.std.specs.List.{range_with_len}
use Rattle.quanta_till.specs.Desk.{DeskValue}
use Rattle.quanta_till.specs.Till.{TillValue}
use Rattle.farm_core.specs.Config.{ConfigData, member_lines, granted_by}
use Rattle.farm_core.specs.World.{purses_in, purse_in}

-- a till: of which purse it is, and the quanta that it was opened with
pub record Opening : Type 0 where
  pub purse : ℕ
  pub granted : ℕ

abbrev pub opening_of : TillValue → Opening
opening_of till = record { purse = till.purse; granted = till.granted }

-- that of a purse, opened with what its members' lines grant
abbrev pub opening_for : ConfigData → ℕ → Opening
opening_for config p = record { purse = p; granted = granted_by (member_lines config.tenants p) }

-- one for each purse, in the order of their numbers
abbrev pub AreTillsOf : ConfigData → List TillValue → Type 0
AreTillsOf config tills = map opening_of tills ≡ map (opening_for config) (range_with_len 0 (purses_in config))

-- the till of a tenant's purse
abbrev pub IsTillOf : ConfigData → ℕ → TillValue → Type 0
IsTillOf config t till = opening_of till ≡ opening_for config (purse_in config t)

-- each of these desks is of the till of its number
pub record AreSeated (tills : List TillValue) (desks : List DeskValue) : Type 0 where
  pub count : length desks ≡ length tills
  pub each : (i : ℕ) (t : TillValue) (d : DeskValue) → i < length tills → (get_or desks i d).id ≡ (get_or tills i t).id
