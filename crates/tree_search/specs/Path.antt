-- A partial schedule whose starts never fall, and what is known after each of its placements.
use Rattle.std.specs.Prelude.{◌≡◌, ℕ, ◌+◌, ◌-◌, ◌%◌, ◌<◌, ◌≤◌, ◌==◌, true, false, List, [], All, length, get_or, take}
use Rattle.std.specs.List.{slice_range, list_any}
use Rattle.mrcpsp.specs.declared.limits.TheConstants.{MOST_RESOURCES}
use Rattle.mrcpsp.specs.Numbers.{sum_below}
use Rattle.mrcpsp.specs.Project.{ProjectData, size, renewables, nonrenewables, mode_count, duration, capacity, stock}
use Rattle.mrcpsp.specs.Values.{tail}
use Rattle.strategy.specs.Candidate.{is_allowed_mode}
use Rattle.mrcpsp.specs.Placed.{Placed, finish_of, is_eligible, is_placed, last_start}
use Rattle.serial_sgs.specs.Board.{IsBoard, needed_of}
use Rattle.serial_sgs.specs.Members.{has}
use Rattle.serial_sgs.specs.Order.{AreReadied, HasAfter, HasBefore, IsLatest}
use Rattle.tree_search.specs.Front.{AreNone, IsFrontOf}
use Rattle.tree_search.specs.declared.front.Running.{Running}
use Rattle.tree_search.specs.declared.path.Stage.{Stage}
use Rattle.tree_search.specs.declared.table.Table.{Table}
use Rattle.tree_search.specs.declared.table.TheConstants.{NEVER}
use Rattle.tree_search.specs.Table.{IsLines}
use Rattle.tree_search.specs.Width.{IsNone}

-- 1 + 2 + .. + n
abbrev pub triangle : ℕ → ℕ
triangle n = sum_below (λ i. i + 1) n

-- the default for a missing stage
abbrev pub no_stage : Stage
no_stage = record { slack = []; free = []; eligible = []; begin = 0; end = 0; from = 0 }

-- a stage after these placements: each stock less its need, modulo 2^32, 0 of a resource that is not
-- there; what is free from the last
-- start on; who may come next; and the last start
pub record IsStage (p : ProjectData) (placed : List Placed) (running : List Running) (s : Stage) : Type 0 where
  pub slack : (r : ℕ) → r < MOST_RESOURCES → (get_or s.slack r 0 + needed_of p placed r) % 4294967296 ≡ stock p r
  pub beyond : IsNone (nonrenewables p) s.slack
  pub front : IsFrontOf p placed (last_start placed) s.free (slice_range running s.begin s.end)
  pub order : s.begin ≤ s.end
  pub few : s.end ≤ s.begin + length placed
  pub within : s.end ≤ triangle (length placed)
  pub eligible : (j : ℕ) → j < size p → has s.eligible j ≡ is_eligible p placed j
  pub others : (j : ℕ) → size p ≤ j → j < 256 → has s.eligible j ≡ false
  pub last : s.from ≡ last_start placed

-- no stage has anything of a resource or an activity that is not there
pub record IsBlank (p : ProjectData) (s : Stage) : Type 0 where
  pub slack : IsNone (nonrenewables p) s.slack
  pub free : IsNone (renewables p) s.free
  pub words : (j : ℕ) → size p ≤ j → j < 256 → has s.eligible j ≡ false

-- a stage after each number of placements. No list of a later stage covers that of an earlier one
pub record AreStages (p : ProjectData) (placed : List Placed) (running : List Running) (stages : List Stage) : Type 0 where
  pub count : length stages ≡ size p + 1
  pub room : length running ≡ triangle (size p)
  pub each : (i : ℕ) → i ≤ length placed → IsStage p (take i placed) running (get_or stages i no_stage)
  pub apart : (i k : ℕ) → i ≤ k → k ≤ length placed → (get_or stages i no_stage).end ≤ (get_or stages k no_stage).end
  pub blank : (i : ℕ) → i < length stages → IsBlank p (get_or stages i no_stage)
  pub none : AreNone (renewables p) running

-- each of them was eligible when it was placed
abbrev pub WereEligible : ProjectData → List Placed → Type 0
WereEligible p placed = (k : ℕ) (d : Placed) → k < length placed → is_eligible p (take k placed) (get_or placed k d).activity ≡ true

-- what the fields of a path keep: memory for all activities; the rows, predecessors and successors;
-- finishes, `NEVER` for what is not placed; ready times; and the stages
pub record IsPath (p : ProjectData) (placed : List Placed) (reserved : ℕ) (lines : Table) (table afters : List (List ℕ)) (stages : List Stage) (running : List Running) (ends readies : List ℕ) : Type 0 where
  pub board : IsBoard (record { project = p; placed = placed })
  pub memory : reserved ≡ size p
  pub tabled : IsLines p lines
  pub before : HasBefore p (size p) table
  pub after : HasAfter p (size p) afters
  pub noted : length ends ≡ size p
  pub finishes : All (λ a. get_or ends a.activity 0 ≡ finish_of p a) placed
  pub never : (j : ℕ) → j < size p → is_placed placed j ≡ false → get_or ends j 0 ≡ NEVER
  pub readied : AreReadied p placed readies
  pub entered : WereEligible p placed
  pub staged : AreStages p placed running stages

-- all in the list are placed
abbrev pub AreDone : List ℕ → List ℕ → Type 0
AreDone before ends = (k : ℕ) → k < length before → get_or ends (get_or before k 0) 0 < NEVER

-- each activity in `after` has a predecessor
abbrev pub AreReached : List (List ℕ) → List ℕ → Type 0
AreReached table after = (k : ℕ) → k < length after → 0 < length (get_or table (get_or after k 0) [])

-- those in `after` whose predecessors are all placed are members now, ready at the latest of their
-- finishes. All others stay as they were
pub record HasEntered (after : List ℕ) (table : List (List ℕ)) (ends words readies now later : List ℕ) : Type 0 where
  pub count : length later ≡ length readies
  pub ready : (k : ℕ) → k < length after → AreDone (get_or table (get_or after k 0) []) ends → (has now (get_or after k 0) ≡ true) × IsLatest (get_or table (get_or after k 0) []) ends (get_or later (get_or after k 0) 0)
  pub waiting : (k : ℕ) → k < length after → (AreDone (get_or table (get_or after k 0) []) ends → ⊥) → has now (get_or after k 0) ≡ has words (get_or after k 0)
  pub others : (j : ℕ) → list_any (λ s. s == j) after ≡ false → (has now j ≡ has words j) × (get_or later j 0 ≡ get_or readies j 0)

-- if mode m of activity j may be placed by its resources, then with its tail it takes `limit` or longer
abbrev pub IsHopeless : ProjectData → List Placed → ℕ → ℕ → ℕ → Type 0
IsHopeless p placed j m limit = is_allowed_mode p placed j m ≡ true → limit ≤ duration p j m + tail p j

-- each mode m of activity j, from ≤ m < end, is hopeless
abbrev pub AreHopeless : ProjectData → List Placed → ℕ → ℕ → ℕ → ℕ → Type 0
AreHopeless p placed j limit from end = (m : ℕ) → from ≤ m → m < end → IsHopeless p placed j m limit

-- the first mode of activity j, from ≤ mode < end, that may be placed by its resources, and behind
-- hopeless ones alone
pub record IsFirstHopeful (p : ProjectData) (placed : List Placed) (j limit from end mode : ℕ) : Type 0 where
  pub above : from ≤ mode
  pub inside : mode < end
  pub hopeless : AreHopeless p placed j limit from mode
  pub allowed : is_allowed_mode p placed j mode ≡ true

-- no difference of what is left and what is taken, modulo 2^32, has the highest bit
abbrev pub IsCovered : List ℕ → List ℕ → Type 0
IsCovered taken there = (r : ℕ) → r < MOST_RESOURCES → (get_or there r 0 + (4294967296 - get_or taken r 0)) % 4294967296 < 2147483648

-- the stage before any placement
pub record IsFirstStage (p : ProjectData) (words : List ℕ) (s : Stage) : Type 0 where
  pub slack : (r : ℕ) → r < MOST_RESOURCES → (get_or s.slack r 0 + needed_of p [] r) % 4294967296 ≡ stock p r
  pub beyond : IsNone (nonrenewables p) s.slack
  pub free : (r : ℕ) → r < MOST_RESOURCES → get_or s.free r 0 ≡ capacity p r
  pub eligible : s.eligible ≡ words
  pub begin : s.begin ≡ 0
  pub end : s.end ≡ 0
  pub from : s.from ≡ 0

-- the last activity was taken away, and may come next again
pub record IsTaken (p : ProjectData) (placed : List Placed) (last : Placed) : Type 0 where
  pub activity : last.activity < size p
  pub mode : last.mode < mode_count p last.activity
  pub eligible : is_eligible p placed last.activity ≡ true
