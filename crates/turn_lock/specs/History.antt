-- Histories: lists of events, each with the number of its pass. That a history of sequential calls
-- explains all passes is linearizability (Herlihy and Wing 1990).
use Rattle.std.specs.Prelude.{ℕ, List, [], ◌∷◌, ◌++◌, filter, ◌==◌, Option, Some, None}

-- the event of a call, or none, as a list
abbrev pub listed : {E : Type 0} → Option E → List E
listed None = []
listed (Some e) = e ∷ []

module _ {E : Type 0} where
  -- events, each with the number of their pass
  abbrev pub tagged : ℕ → List E → List (ℕ × E)
  tagged by [] = []
  tagged by (e ∷ es) = (by, e) ∷ tagged by es

  -- the events of a history, without their passes
  abbrev pub events_of : List (ℕ × E) → List E
  events_of [] = []
  events_of (x ∷ xs) = x.1 ∷ events_of xs

  -- the entries of pass `by` in a history
  abbrev pub entries_of : ℕ → List (ℕ × E) → List (ℕ × E)
  entries_of by log = filter (λ (x : ℕ × E). x.0 == by) log

module _ {O E C A : Type 0} (relation : O → List E → C → Option E → A → Type 0) where
  -- some call leaves event e after these events
  abbrev pub MayFollow : O → List E → E → Type 0
  MayFollow opening before e = (call : C) × (answer : A) × relation opening before call (Some e) answer

  -- each event may follow the ones before it
  abbrev pub LegalFrom : O → List E → List E → Type 0
  LegalFrom opening before [] = Unit {0}
  LegalFrom opening before (e ∷ es) = MayFollow opening before e × LegalFrom opening (before ++ e ∷ []) es

  -- a legal history: each event is left by a call that the relation allows after the events before
  abbrev pub IsLegal : O → List (ℕ × E) → Type 0
  IsLegal opening log = LegalFrom opening [] (events_of log)
