-- The exit status of a replay that answered all requests.
use Rattle.std.specs.Prelude.{ℕ, Bool, true}

-- 1 if the replay is strict and one of its replies is a refusal
abbrev pub replay_status : Bool → Bool → ℕ
replay_status true true = 1
replay_status is_strict refuses = 0
