-- What a till's words keep, by double entry (Pacioli 1494): what is drawn from the pool is used,
-- handed back, or held by its lease. Modulo 2^64, POOL and all drawn quanta are GRANTED and all
-- handed back; SPENT is all that was used. The sums go over all seats, also over ended ones.
use Rattle.std.specs.Prelude.{◌≡◌, ℕ, ◌+◌, ◌≤◌, ◌%◌, ◌^◌, sum_by, length, slice_index}
use mathlib.Core.Option.{some}
use lib.ListN.{get_elem?}
use Rattle.atomic_table.specs.Table.{State}
use Rattle.atomic_table.specs.Seated.{TableId}
use Rattle.quanta_till.specs.declared.rule.SeatView.{SeatView}
use Rattle.quanta_till.specs.declared.rule.TheConstants.{WORDS, POOL, SPENT, GRANTED}

-- a seat used and handed back at most what it drew, and it knows the till's grant
abbrev pub IsCovered : ℕ → SeatView → Type 0
IsCovered granted v = (v.used + v.back ≤ v.drawn) × (v.granted ≡ granted)

-- the words and the seats of a till balance
pub record IsBalanced (granted : ℕ) (s : State (Unit {0}) SeatView) : Type 0 where
  pub words : length s.words ≡ WORDS
  pub pool : (slice_index s.words POOL + sum_by (λ (v : SeatView). v.drawn) s.views) % 2 ^ 64 ≡ (granted + sum_by (λ (v : SeatView). v.back) s.views) % 2 ^ 64
  pub spent : slice_index s.words SPENT ≡ sum_by (λ (v : SeatView). v.used) s.views % 2 ^ 64
  pub grant : slice_index s.words GRANTED ≡ granted
  pub covered : (number : ℕ) (v : SeatView) → get_elem? s.views number ≡ some v → IsCovered granted v

-- a seat that has done nothing yet. The first seat of a till has depth 0; a seat made from another
-- is one deeper.
abbrev pub new_view : ℕ → ℕ → SeatView
new_view granted depth = record { drawn = 0; used = 0; back = 0; granted = granted; depth = depth; seats = 0; loads = 0; pool = 0; spent = 0 }

-- The steps. Each changes one view:

-- one more seat is made from it
abbrev pub view_after_split : SeatView → SeatView
view_after_split v = record v { seats = v.seats + 1 }

-- n quanta are drawn from POOL
abbrev pub view_after_draw : SeatView → ℕ → SeatView
view_after_draw v n = record v { drawn = v.drawn + n }

-- n quanta are used: SPENT gains them
abbrev pub view_after_use : SeatView → ℕ → SeatView
view_after_use v n = record v { used = v.used + n }

-- n quanta go back to POOL
abbrev pub view_after_hand_back : SeatView → ℕ → SeatView
view_after_hand_back v n = record v { back = v.back + n }

-- POOL is loaded, and is n
abbrev pub view_after_pool_load : SeatView → ℕ → SeatView
view_after_pool_load v n = record v { loads = v.loads + 1; pool = n }

-- SPENT is loaded, and is n
abbrev pub view_after_spent_load : SeatView → ℕ → SeatView
view_after_spent_load v n = record v { loads = v.loads + 1; spent = n }

-- GRANTED is loaded; it never changes
abbrev pub view_after_granted_load : SeatView → SeatView
view_after_granted_load v = record v { loads = v.loads + 1 }

-- what contracts see of a till
pub record TillValue : Type 0 where
  pub id : TableId
  pub purse : ℕ
  pub granted : ℕ
