-- Runs of barred starts.
use Rattle.std.specs.Prelude.{◌≡◌, ℕ, ◌≤◌, Bool, true}

-- each start from `from` to `to` of activity j in mode m is barred
pub record IsBarredRun (barred : ℕ → ℕ → ℕ → Bool) (j m from to : ℕ) : Type 0 where
  pub each : (t : ℕ) → from ≤ t → t ≤ to → barred j m t ≡ true
