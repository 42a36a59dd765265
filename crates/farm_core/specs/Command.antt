-- The event of a command, when it may need memory, and who waits after it.
use Rattle.std.specs.Prelude.{◌≡◌, ⊤, ℕ, Bool, true, false, not, ◌&&◌, [], ◌∷◌, ◌++◌}
use Rattle.strategy.specs.Search.{Meaning}
use Rattle.job_table.specs.Job.{fresh_search}
use Rattle.farm_core.specs.declared.command.Command.{Command}
use Rattle.farm_core.specs.declared.command.Command.TheVariants as command
use Rattle.farm_core.specs.declared.entry.Event.{Event}
use Rattle.farm_core.specs.declared.entry.Event.TheVariants.{Submit, Fund, Status, Fetch, Cancel, Forget, Ledger}
use Rattle.farm_core.specs.declared.reply.Reply.{Reply}
use Rattle.farm_core.specs.declared.reply.Reply.TheVariants as reply
use Rattle.farm_core.specs.Tenant.{Tenant}
use Rattle.farm_core.specs.Step.{Answer, Replied, step, has_room}
use Rattle.farm_core.specs.World.{World, KeepsTurns}

-- the event that a command asks for
abbrev pub event_of : {J : Type 0} → Command J → Event
event_of (command.Submit plan quanta search) = Submit plan quanta
event_of (command.Fund seq quanta) = Fund seq quanta
event_of (command.Status seq) = Status seq
event_of (command.Fetch seq) = Fetch seq
event_of (command.Cancel seq) = Cancel seq
event_of (command.Forget seq) = Forget seq
event_of command.Ledger = Ledger

-- the search of a submit is fresh: of this tenant and plan, and it has run no node
abbrev pub IsFresh : {J : Type 0} → (J → Meaning) → ℕ → Command J → Type 0
IsFresh meaning t (command.Submit plan quanta search) = meaning search ≡ fresh_search t plan
IsFresh meaning t command = ⊤

-- a reply with the line of a job
abbrev pub is_line : Answer → Bool
is_line (Replied (reply.Line line)) = true
is_line answer = false

-- if the journal has room for its entry, each command may need memory but an accepted cancel
abbrev pub may_need : Tenant → Event → Bool
may_need t (Cancel s) = has_room 1 t && not (is_line (step t (Cancel s)).answer)
may_need t event = has_room 1 t

-- who waits after a command: a new job waits behind all others; a fund or a cancel changes the
-- place of its own job alone
abbrev pub WaitsThen : World → ℕ → Event → Reply → World → Type 0
WaitsThen old t (Submit plan quanta) answer new = (seq : ℕ) → answer ≡ reply.Job seq → new.waiting ≡ old.waiting ++ (t, seq) ∷ []
WaitsThen old t (Fund seq quanta) answer new = KeepsTurns old t seq new
WaitsThen old t (Cancel seq) answer new = KeepsTurns old t seq new
WaitsThen old t event answer new = ⊤
