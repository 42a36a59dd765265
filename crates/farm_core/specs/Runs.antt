-- That there are runs, and what their journals have.
use Rattle.std.specs.Prelude.{◌≡◌, ℕ, ◌<◌, List, length, map, All, flat_map}
use Rattle.farm_core.specs.declared.entry.Event.{Event}
use Rattle.farm_core.specs.Config.{ConfigData}
use Rattle.farm_core.specs.Step.{step}
use Rattle.farm_core.specs.World.{World, Call, purses_in, view, Steps, Run, entry_of}

-- there are numbers for each tenant, and a ledger for each purse
abbrev pub HasAccounts : World → Type 0
HasAccounts w = (length w.numbers ≡ length w.config.tenants) × (length w.books ≡ purses_in w.config)

-- each call is possible in each state of a farm, and is answered as its tenant's step says
abbrev pub EachCallCanBeMade : Type 0
EachCallCanBeMade = (w : World) → HasAccounts w → (t : ℕ) → t < length w.config.tenants → (event : Event) →
    (new : World) × Steps w t event (step (view t w) event).answer new × HasAccounts new

-- whose a call is, and what it asks for
abbrev pub wish_of : Call → ℕ × Event
wish_of c = (c.tenant, c.event)

-- whatever the tenants of a configuration ask for, there is a run of just these calls
abbrev pub EachSequenceIsARun : Type 0
EachSequenceIsARun = (config : ConfigData) (wanted : List (ℕ × Event)) → All (λ (a : ℕ × Event). a.0 < length config.tenants) wanted →
    (calls : List Call) × (w : World) × Run config calls w × (map wish_of calls ≡ wanted)

-- the journal at the end of a run has the entries of its calls, in their order, and nothing else
abbrev pub JournalsAreTheCalls : Type 0
JournalsAreTheCalls = (config : ConfigData) (calls : List Call) (w : World) → Run config calls w →
    w.journal ≡ flat_map (λ (c : Call). entry_of c.tenant c.event c.answer) calls
