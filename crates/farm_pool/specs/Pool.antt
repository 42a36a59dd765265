-- What contracts see of a pool.
use Rattle.std.specs.Prelude.{ℕ}
use Rattle.turn_lock.specs.Values.{LockValue}
use Rattle.farm_core.specs.Config.{ConfigData}

-- the lock of its farm, and the most nodes of a turn of its workers
pub record PoolData : Type 0 where
  pub lock : LockValue ConfigData
  pub slice : ℕ
