-- What one more that is added comes to.
use Rattle.std.proofs.Common.{◌≡◌, ℕ, ◌+◌, List, [], ◌∷◌, ◌++◌, refl}
use Rattle.thread_tests.specs.declared.counter.Added.{Added}
use Rattle.thread_tests.specs.Counting.{total}

pub total-push : (start : ℕ) (xs : List Added) (x : Added) → total start (xs ++ x ∷ []) ≡ total start xs + x.amount
total-push start [] x = refl
total-push start (y ∷ ys) x = total-push (start + y.amount) ys x
