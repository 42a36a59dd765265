-- What a counter answers.
use Rattle.std.specs.Prelude.{◌≡◌, ℕ, ◌+◌, List, [], ◌∷◌, ◌++◌, Option, Some, None, ⊤}
use Rattle.turn_lock.specs.History.{listed}
use Rattle.thread_tests.specs.declared.counter.Added.{Added}
use Rattle.thread_tests.specs.declared.counter.Ask.{Ask}
use Rattle.thread_tests.specs.declared.counter.Ask.TheVariants.{Add, Total}
use Rattle.thread_tests.specs.declared.counter.Reply.{Reply}
use Rattle.thread_tests.specs.declared.counter.Reply.TheVariants.{Is, NoRoom}

-- the number after what was added
abbrev pub total : ℕ → List Added → ℕ
total start [] = start
total start (x ∷ xs) = total (start + x.amount) xs

-- the answer of a call, and what it adds
abbrev pub Counted : ℕ → List Added → Ask → Option Added → Reply → Type 0
Counted start before Total None (Is n) = n ≡ total start before
Counted start before (Add k) (Some e) (Is n) = (e.amount ≡ k) × (n ≡ total start before + k)
Counted start before (Add k) None NoRoom = ⊤
Counted start before ask left answer = ⊥

-- a call of a counter with this beginning and this history
abbrev pub Counts : ℕ → List Added → Ask → Reply → ℕ → List Added → Type 0
Counts start before ask answer new_start after = (new_start ≡ start) × ((e : Option Added) × (after ≡ before ++ listed e) × Counted start before ask e answer)
