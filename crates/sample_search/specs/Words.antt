-- The words of a seed, as they are drawn one after another.
use Rattle.std.specs.Prelude.{ℕ}
use Rattle.rand_pcg.specs.Lcg.{Lcg}
use Rattle.strategy.specs.Words.{state_at}

-- the seed, and how many words were drawn
pub record WordsData : Type 0 where
  pub seed : ℕ
  pub drawn : ℕ

-- the generator whose next word is word i of a seed
abbrev pub generator_at : ℕ → ℕ → Lcg
generator_at seed i = record { state = state_at seed i; increment = 109 }
