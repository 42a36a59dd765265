-- What a watch has noted during a call, by its counts before and after.
use Rattle.std.specs.Prelude.{◌≡◌, ◌⊎◌, ℕ, ◌+◌, ◌%◌, ◌^◌, Result, Ok, Err}

-- exactly one failure: it takes 2^64 to bring the count back to its old value
abbrev pub HasFailed : ℕ → ℕ → Type 0
HasFailed old new = new ≡ (old + 1) % 2 ^ 64

-- one failure if the call fails, and otherwise none
abbrev pub IsNoted : {T E : Type 0} → Result T E → ℕ → ℕ → Type 0
IsNoted (Ok value) old new = new ≡ old
IsNoted (Err fault) old new = HasFailed old new

-- no failure, or one
abbrev pub FailsAtMostOnce : ℕ → ℕ → Type 0
FailsAtMostOnce old new = HasFailed old new ⊎ (new ≡ old)

-- at most one failure if the call fails, for whatever cause, and otherwise none
abbrev pub IsNotedAtMostOnce : {T E : Type 0} → Result T E → ℕ → ℕ → Type 0
IsNotedAtMostOnce (Ok value) old new = new ≡ old
IsNotedAtMostOnce (Err fault) old new = FailsAtMostOnce old new
