-- Sums, greatest values, counts, tests and a search below a bound, and the ends of a list.
use Rattle.std.specs.Prelude.{ℕ, zero, suc, ◌+◌, Bool, true, cond, ◌&&◌, max, min, List, [], ◌∷◌}

-- the sum of f 0 to f (n - 1), 0 if n is 0
abbrev pub sum_below : (ℕ → ℕ) → ℕ → ℕ
sum_below f zero = 0
sum_below f (suc n) = sum_below f n + f n

-- the greatest of f 0 to f (n - 1), 0 if n is 0
abbrev pub max_below : (ℕ → ℕ) → ℕ → ℕ
max_below f zero = 0
max_below f (suc n) = max (max_below f n) (f n)

-- how many numbers below n pass the test
abbrev pub count_below : (ℕ → Bool) → ℕ → ℕ
count_below test n = sum_below (λ j. cond (test j) 1 0) n

-- whether each number below n passes the test
abbrev pub all_below : (ℕ → Bool) → ℕ → Bool
all_below test zero = true
all_below test (suc n) = test n && all_below test n

-- the first of t, t + 1 .. that passes the test, or t + k if the first k fail
abbrev pub first_from : (ℕ → Bool) → ℕ → ℕ → ℕ
first_from test zero t = t
first_from test (suc k) t = cond (test t) t (first_from test k (t + 1))

-- the least number of a list, 0 if it is empty
abbrev pub smallest : List ℕ → ℕ
smallest [] = 0
smallest (x ∷ []) = x
smallest (x ∷ y ∷ xs) = min x (smallest (y ∷ xs))

-- the greatest number of a list, 0 if it is empty
abbrev pub largest : List ℕ → ℕ
largest [] = 0
largest (x ∷ xs) = max x (largest xs)
