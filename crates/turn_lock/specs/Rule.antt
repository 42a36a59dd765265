-- The rule of the lock's table.
use Rattle.std.specs.Prelude.{◌≡◌, ◌≢◌, ℕ, ◌≤◌, List, [], Option, Some, None, length, slice_index}
use mathlib.Core.Option.{some}
use mathlib.Core.List.{IsPrefix}
use lib.ListN.{get_elem?}
use Rattle.atomic_table.specs.Table.{State}
use Rattle.turn_lock.specs.History.{events_of, entries_of, IsLegal}
use Rattle.turn_lock.specs.declared.view.View.{View}
use Rattle.turn_lock.specs.declared.view.Stage.{Stage}
use Rattle.turn_lock.specs.declared.view.Stage.TheVariants.{Spent, New, Idle, Turn, Joined}

module _ {E : Type 0} where
  -- what pass `by` has seen begins the history, and all that the history has of it is its own
  abbrev pub Knows : List (ℕ × E) → ℕ → List (ℕ × E) → List (ℕ × E) → Type 0
  Knows log by seen mine = IsPrefix seen log × (entries_of by seen ≡ mine) × (entries_of by log ≡ mine)

module _ {O E : Type 0} where
  -- the first pass of a lock
  abbrev pub opened : O → View O E
  opened opening = record { stage = Idle; number = 0; opening = Some opening; seen = []; mine = []; splits = 0; calls = 0 }

  -- the view of a pass that was taken in
  abbrev pub spent : View O E
  spent = record { stage = Spent; number = 0; opening = None; seen = []; mine = []; splits = 0; calls = 0 }

  module _ (word holder : ℕ) (log : List (ℕ × E)) (opening : O) (views : List (View O E)) (by : ℕ) (v : View O E) where
    -- the pass knows the opening and its own entries
    abbrev pub Live : Type 0
    Live = (v.opening ≡ Some opening) × Knows log by v.seen v.mine

    -- what the view of a pass keeps at each stage
    abbrev pub FitsAt : Stage E → Type 0
    FitsAt Spent = Unit {0}
    FitsAt New = Live × (v.number ≢ by)
    FitsAt Idle = Live × (v.number ≡ by)
    FitsAt Turn = Live × (v.number ≡ by) × (word ≢ 0) × (by ≡ holder) × (v.seen ≡ log)
    FitsAt (Joined other seen mine) = Live × (v.number ≡ by) × (other ≢ by) × Knows log other seen mine × (get_elem? views other ≡ some spent)

module _ {T O E C A : Type 0} (opening_of : T → O) (events : T → List E) (relation : O → List E → C → Option E → A → Type 0) where
  -- what the table keeps: one legal history, whose value is in its slot unless a pass has the turn
  pub record IsKept (opening : O) (s : State (Option T) (View O E)) : Type 0 where
    pub log : List (ℕ × E)
    pub holder : ℕ
    pub one_word : length s.words ≡ 1
    pub legal : IsLegal relation opening log
    pub at_home : slice_index s.words 0 ≡ 0 → (t : T) × (get_elem? s.homes 0 ≡ some (some (Some t))) × (events t ≡ events_of log) × (opening_of t ≡ opening)
    pub fits : (by : ℕ) (v : View O E) → get_elem? s.views by ≡ some v → FitsAt (slice_index s.words 0) holder log opening s.views by v v.stage
    pub later : (by : ℕ) → length s.views ≤ by → entries_of by log ≡ []
