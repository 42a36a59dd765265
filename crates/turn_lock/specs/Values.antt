-- What contracts see of a lock and of a pass.
use Rattle.std.specs.Prelude.{◌≡◌, Option, Some, List, [], ◌∷◌, ◌++◌}
use Rattle.turn_lock.specs.History.{listed}
use Rattle.atomic_table.specs.Seated.{TableId}
use Rattle.turn_lock.specs.declared.view.View.{View}

-- a lock: its table, and its opening
pub record LockValue (O : Type 0) : Type 0 where
  pub table : TableId
  pub opening : O

-- a pass: its lock's table, and what it knows
pub record PassValue (O E : Type 0) : Type 0 where
  pub table : TableId
  pub view : View O E

-- the lock made this pass, or one that it was split from
abbrev pub IsPassOf : {O E : Type 0} → LockValue O → PassValue O E → Type 0
IsPassOf lock pass = (pass.table ≡ lock.table) × (pass.view.opening ≡ Some lock.opening)

-- a step from t to t' keeps the opening, and adds the event of its call, or none
abbrev pub Keeps : {T O E C A : Type 0} → (T → O) → (T → List E) → (O → List E → C → Option E → A → Type 0) → T → C → A → T → Type 0
Keeps {E = E} opening events relation t call answer t' = (opening t' ≡ opening t) × ((e : Option E) × (events t' ≡ events t ++ listed e) × relation (opening t) (events t) call e answer)

-- steps one after another, each of a call with its answer
abbrev pub AreKept : {T O E C A : Type 0} → (T → O) → (T → List E) → (O → List E → C → Option E → A → Type 0) → T → List C → List A → T → Type 0
AreKept opening events relation t [] [] u = u ≡ t
AreKept opening events relation t (call ∷ calls) (answer ∷ answers) u = (mid : _) × Keeps opening events relation t call answer mid × AreKept opening events relation mid calls answers u
AreKept opening events relation t calls answers u = ⊥
