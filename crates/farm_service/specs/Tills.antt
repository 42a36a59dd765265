-- The tills of a service's purses, and how it ends.
use Rattle.std.specs.Prelude.{◌≡◌, ℕ, List, map, None}
use Rattle.quanta_till.specs.Desk.{DeskValue}
use Rattle.quanta_till.specs.Till.{TillValue}
use Rattle.farm_core.specs.Config.{ConfigData}
use Rattle.farm_core.specs.World.{World}
use Rattle.farm_core.specs.Tills.{AreTillsOf, AreSeated}
use Rattle.farm_pool.specs.Settle.{books_of, words_at, AreLoaded, first_unsettled}
use Rattle.farm_pool.specs.Worked.{PoolView, Worked, IsClosed}
use Rattle.farm_session.specs.TillDesk.{first_desk, HaveSeated}

-- a farm of the configuration was worked until no turn was found, and is settled with its purses'
-- tills: each has a desk for each session, and its words were loaded once after these. The farm's
-- journal is that of a legal history
pub record IsSettled (config : ConfigData) (sessions : ℕ) : Type 0 where
  pub farm : World
  pub served : PoolView
  pub seen : PoolView
  pub turns : ℕ
  pub strangers : ℕ
  pub tills : List TillValue
  pub before : List DeskValue
  pub after : List DeskValue
  pub config_is : farm.config ≡ config
  pub worked : Worked config.slice served turns strangers seen
  pub closed : IsClosed seen farm
  pub own : AreTillsOf config tills
  pub seated : AreSeated tills before
  pub desks : HaveSeated sessions (map first_desk tills) before
  pub loaded : AreLoaded before after
  pub settled : first_unsettled (books_of farm) (map words_at after) ≡ None
