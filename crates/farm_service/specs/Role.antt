-- What a thread of a service does.
use Rattle.std.specs.Prelude.{⊤}
use Rattle.farm_core.specs.Config.{ConfigData}
use Rattle.farm_service.specs.declared.service.Role.{Role}
use Rattle.farm_service.specs.declared.service.Role.TheVariants.{Worker, Client}
use Rattle.farm_core.specs.Tills.{AreTillsOf}
use Rattle.farm_session.specs.TillDesk.{tills_of}

-- a client is answered at desks of the tills of the configuration's purses
abbrev pub IsAtTills : ConfigData → Role → Type 0
IsAtTills config Worker = ⊤
IsAtTills config (Client own stream) = AreTillsOf config (tills_of own.items)
