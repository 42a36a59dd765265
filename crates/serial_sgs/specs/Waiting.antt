-- Which activities are placed, how many predecessors of each are not, and who may come next.
use Rattle.std.specs.Prelude.{◌≡◌, ℕ, ◌+◌, ◌<◌, ◌≤◌, ◌==◌, ◌&&◌, Bool, true, false, not, nat_lt, cond, List, [], length, get_or, All}
use Rattle.std.specs.List.{list_any}
use Rattle.serial_sgs.specs.Members.{has}

-- a mark for each activity, and a count of missing predecessors
pub record WaitingData : Type 0 where
  pub flags : List Bool
  pub missing : List ℕ

-- whether activity j is open: it is not placed, and misses no predecessor
abbrev pub is_open : WaitingData → ℕ → Bool
is_open w j = nat_lt j (length w.flags) && (not (get_or w.flags j false) && (get_or w.missing j 0 == 0))

-- the members of the set are the open activities
pub record IsWaiting (w : WaitingData) (words : List ℕ) : Type 0 where
  pub same : length w.missing ≡ length w.flags
  pub few : length w.flags ≤ 255
  pub exact : (j : ℕ) → j < 256 → has words j ≡ is_open w j

-- no activity is placed: each misses all its predecessors
pub record IsFirst (before : List (List ℕ)) (w : WaitingData) : Type 0 where
  pub count : length w.flags ≡ length before
  pub none : (j : ℕ) → j < length before → get_or w.flags j false ≡ false
  pub each : (j : ℕ) → j < length before → get_or w.missing j 0 ≡ length (get_or before j [])

-- some of the first n activities, each at most once
pub record AreOthers (n : ℕ) (others : List ℕ) : Type 0 where
  pub inside : All (λ s. s < n) others
  pub apart : (i k : ℕ) → i < k → k < length others → get_or others i 0 ≡ get_or others k 0 → ⊥

-- each activity in `others` misses one predecessor less, and no other one
pub record IsLess (others more less : List ℕ) : Type 0 where
  pub count : length less ≡ length more
  pub each : (j : ℕ) → get_or less j 0 + cond (list_any (λ s. s == j) others) 1 0 ≡ get_or more j 0

-- j is the first open activity, `from` or later
pub record IsNextOpen (w : WaitingData) (from j : ℕ) : Type 0 where
  pub above : from ≤ j
  pub inside : j < length w.flags
  pub ready : is_open w j ≡ true
  pub first : (i : ℕ) → from ≤ i → i < j → is_open w i ≡ false

-- no activity from `from` on is open
abbrev pub NoneIsOpen : WaitingData → ℕ → Type 0
NoneIsOpen w from = (i : ℕ) → from ≤ i → i < length w.flags → is_open w i ≡ false
