-- What a pass knows after each step: one legal history has its calls (linearizability, Herlihy and
-- Wing 1990).
use Rattle.std.specs.Prelude.{◌≡◌, ◌≢◌, ℕ, ◌+◌, List, [], ◌∷◌, ◌++◌, Option, Some, None, length, drop}
use mathlib.Core.List.{IsPrefix}
use Rattle.atomic_table.specs.Table.{Me, Step}
use Rattle.turn_lock.specs.History.{listed, tagged, events_of, entries_of, LegalFrom, IsLegal}
use Rattle.turn_lock.specs.declared.view.View.{View}
use Rattle.turn_lock.specs.declared.view.Stage.{Stage}
use Rattle.turn_lock.specs.declared.view.Stage.TheVariants.{New, Idle, Turn, Joined}

module _ {O E : Type 0} where
  -- a pass after one more pass was split off from it
  abbrev pub having_split : View O E → View O E
  having_split v = record v { splits = v.splits + 1 }

  -- the pass that is split off: it has seen as much, and did nothing
  abbrev pub split_off : View O E → View O E
  split_off v = record v { stage = New; mine = []; splits = 0; calls = 0 }

  -- a new pass of that number: it has made no call
  abbrev pub newcomer : View O E → ℕ → View O E
  newcomer v number = record v { stage = Idle; number = number; mine = []; splits = 0; calls = 0 }

  -- the pass has this number
  abbrev pub numbered : View O E → ℕ → View O E
  numbered v number = record v { stage = Idle; number = number }

  -- the pass takes in w: the splits and the calls of w count for it
  abbrev pub taking_in : View O E → View O E → View O E
  taking_in v w = record v { stage = Joined w.number w.seen w.mine; splits = v.splits + w.splits; calls = v.calls + w.calls }

  -- the pass has taken in w, and has seen `seen`: the splits and the calls of w count for it
  abbrev pub having_taken_in : View O E → View O E → List (ℕ × E) → View O E
  having_taken_in v w seen = record v { stage = Idle; seen = seen; splits = v.splits + w.splits; calls = v.calls + w.calls }

  -- the pass has seen `seen`, and is in this stage
  abbrev pub having_seen : View O E → Stage E → List (ℕ × E) → View O E
  having_seen v stage seen = record v { stage = stage; seen = seen }

  -- the pass has seen `seen`, and begins a turn of this number of calls
  abbrev pub having_begun : View O E → ℕ → List (ℕ × E) → View O E
  having_begun v count seen = record v { stage = Turn; seen = seen; calls = v.calls + count }

  -- the pass has ended its turn: it has made these events after what it had seen
  abbrev pub having_ended : View O E → List E → View O E
  having_ended v es = record v { stage = Idle; seen = v.seen ++ tagged v.number es; mine = v.mine ++ tagged v.number es }

  -- one call more of the pass: it has seen `before`, and has made these events after it
  abbrev pub having_made : View O E → List (ℕ × E) → List E → View O E
  having_made v before es = record v { stage = Idle; seen = before ++ tagged v.number es; mine = v.mine ++ tagged v.number es; calls = v.calls + 1 }

  -- a step gives the pass another number, which has no entry in what it has seen
  abbrev pub told : {S : Type 0} → Step S → Me S (View O E) → ℕ → Me S (View O E) → Type 0
  told st m r n = (n.0.number ≢ m.0.number) × (n ≡ (numbered m.0 n.0.number, m.1)) × (entries_of n.0.number m.0.seen ≡ m.0.mine)

module _ {T O E C A : Type 0} (opening_of : T → O) (events : T → List E) (relation : O → List E → C → Option E → A → Type 0) where
  -- the pass took the turn for this number of calls, and the value: it has seen the value's whole
  -- history
  pub record Took (v : View O E) (count : ℕ) (n : Me (Option T) (View O E)) : Type 0 where
    pub value : T
    pub seen : List (ℕ × E)
    pub after : n ≡ (having_begun v count seen, (0, Some value) ∷ [])
    pub begins : IsPrefix v.seen seen
    pub has : events value ≡ events_of seen
    pub opened : v.opening ≡ Some (opening_of value)
    pub legal : IsLegal relation (opening_of value) seen
    pub own : entries_of v.number seen ≡ v.mine

  -- the pass has the turn for this number of calls, and the value is out of the slot
  pub record Holds (v : View O E) (count : ℕ) (value : T) (n : Me (Option T) (View O E)) : Type 0 where
    pub seen : List (ℕ × E)
    pub after : n ≡ (having_begun v count seen, (0, None) ∷ [])
    pub begins : IsPrefix v.seen seen
    pub has : events value ≡ events_of seen
    pub opened : v.opening ≡ Some (opening_of value)
    pub legal : IsLegal relation (opening_of value) seen
    pub own : entries_of v.number seen ≡ v.mine

  -- what the value has more than the pass has seen are events that calls may leave
  pub record MayEnd (v : View O E) (value : T) : Type 0 where
    pub new : List E
    pub opened : v.opening ≡ Some (opening_of value)
    pub has : events value ≡ events_of v.seen ++ new
    pub legal : LegalFrom relation (opening_of value) (events_of v.seen) new

  -- the value's events make a legal history, which begins with what the pass has seen
  pub record Ended (v : View O E) (value : T) : Type 0 where
    pub log : List (ℕ × E)
    pub begins : IsPrefix v.seen log
    pub has : events value ≡ events_of log
    pub own : entries_of v.number log ≡ v.mine
    pub opened : v.opening ≡ Some (opening_of value)
    pub legal : IsLegal relation (opening_of value) log

  -- a try for the turn, for as many calls as the word becomes: 0 is success, anything else changes
  -- nothing
  abbrev pub took : Step (Option T) → Me (Option T) (View O E) → ℕ → Me (Option T) (View O E) → Type 0
  took st m r n = (r ≡ 0 → Took m.0 st.second n) × (r ≢ 0 → n ≡ m)

  -- the turn is released: the value's new events are the pass's own
  abbrev pub released : Step (Option T) → Me (Option T) (View O E) → ℕ → Me (Option T) (View O E) → Type 0
  released st m r n = (t : T) → m.1 ≡ (0, Some t) ∷ [] → n ≡ (having_ended m.0 (drop (length m.0.seen) (events t)), [])

module _ {O E C A : Type 0} (relation : O → List E → C → Option E → A → Type 0) where
  -- one legal history begins with what both passes had seen, and the entries of each are its own
  pub record BothSeen (v other w : View O E) : Type 0 where
    pub after : w ≡ having_taken_in v other w.seen
    pub this : IsPrefix v.seen w.seen
    pub that : IsPrefix other.seen w.seen
    pub own : entries_of v.number w.seen ≡ v.mine
    pub other_own : entries_of other.number w.seen ≡ other.mine
    pub apart : other.number ≢ v.number
    pub legal : (opening : O) → v.opening ≡ Some opening → IsLegal relation opening w.seen

  -- a step after which a pass that took in another has seen the history of both
  abbrev pub learned : {S : Type 0} → Step S → Me S (View O E) → ℕ → Me S (View O E) → Type 0
  learned st m r n = (n.1 ≡ m.1) × ((v w : View O E) → m.0 ≡ taking_in v w → BothSeen v w n.0)

  -- one call of a pass: its event, if there is one, comes at the end of the history that the pass
  -- has seen then
  pub record Called (v : View O E) (call : C) (answer : A) (w : View O E) : Type 0 where
    pub opening : O
    pub before : List (ℕ × E)
    pub event : Option E
    pub opened : v.opening ≡ Some opening
    pub begins : IsPrefix v.seen before
    pub after : w ≡ having_made v before (listed event)
    pub stands : relation opening (events_of before) call event answer
    pub legal : IsLegal relation opening w.seen
    pub own : entries_of v.number w.seen ≡ w.mine

  -- calls of a pass one after another, each with its answer
  abbrev pub AreCalled : View O E → List C → List A → View O E → Type 0
  AreCalled v [] [] w = w ≡ v
  AreCalled v (call ∷ calls) (answer ∷ answers) w = (mid : View O E) × Called v call answer mid × AreCalled mid calls answers w
  AreCalled v calls answers w = ⊥
