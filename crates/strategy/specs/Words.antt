-- The words of a seed: PCG XSH RR (O'Neill 2014), with this project's own increment 109 and start.
-- A linear congruence modulo 2^64, whose output is a xorshift and a rotation.
use Rattle.std.specs.Prelude.{ℕ, zero, suc, ◌+◌, ◌*◌, ◌/◌, ◌%◌, ◌^◌, bit_xor}
use Rattle.std.specs.Int.{w32, rotate_right}

-- the multiplier of the linear congruence
abbrev pub multiplier : ℕ
multiplier = 6364136223846793005

-- the state before word i
abbrev pub state_at : ℕ → ℕ → ℕ
state_at seed zero = ((seed + 109) * multiplier + 109) % 2 ^ 64
state_at seed (suc i) = (state_at seed i * multiplier + 109) % 2 ^ 64

-- the word of a state: the low 32 bits of ((x >> 18) xor x) >> 27, rotated right by x >> 59
abbrev pub output_word : ℕ → ℕ
output_word x = rotate_right w32 (bit_xor (x / 2 ^ 18) x / 2 ^ 27 % 2 ^ 32) (x / 2 ^ 59)

-- word i of a seed
unfoldable pub word_at : ℕ → ℕ → ℕ
word_at seed i = output_word (state_at seed i)
