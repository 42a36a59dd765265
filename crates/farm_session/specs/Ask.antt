-- What a request asks for, and the command of a tenant's call.
use Rattle.std.specs.Prelude.{◌≡◌, ⊤, Option, Some, None}
use Rattle.farm_core.specs.Command.{event_of}
use Rattle.farm_core.specs.declared.command.Command.{Command}
use Rattle.farm_core.specs.declared.command.Command.TheVariants as command
use Rattle.session_lines.specs.declared.request.What.{What}
use Rattle.session_lines.specs.declared.request.What.TheVariants as what
use Rattle.farm_session.specs.declared.ask.Ask.{Ask}
use Rattle.farm_session.specs.declared.ask.Ask.TheVariants.{Call, Turn}
use Rattle.farm_session.specs.declared.ask.TurnAsk.TheVariants as turn

-- a request asks for a call of the farm, which a tenant may make, or for a turn
abbrev pub ask_of : What → Ask
ask_of (what.Submit kind quanta project) = Call (command.Submit (record { project = project; kind = kind }) quanta tt)
ask_of (what.Fund seq quanta) = Call (command.Fund seq quanta)
ask_of (what.Status seq) = Call (command.Status seq)
ask_of (what.Fetch seq) = Call (command.Fetch seq)
ask_of (what.Cancel seq) = Call (command.Cancel seq)
ask_of (what.Forget seq) = Call (command.Forget seq)
ask_of what.Ledger = Call command.Ledger
ask_of (what.Take seq slice) = Turn (turn.Take seq slice)
ask_of (what.Give seq) = Turn (turn.Give seq)
ask_of (what.Turn seq slice) = Turn (turn.Whole seq slice)

-- a call that submits a job
abbrev pub IsSubmit : {J : Type 0} → Command J → Type 0
IsSubmit (command.Submit plan quanta search) = ⊤
IsSubmit call = ⊥

-- the command asks for the same event; or there is none, as there was no memory for the search of a
-- submit
abbrev pub IsCommandOf : {J : Type 0} → Command ⊤ → Option (Command J) → Type 0
IsCommandOf call (Some command) = event_of command ≡ event_of call
IsCommandOf call None = IsSubmit call

-- the search that a command submits
abbrev pub submitted_by : {J : Type 0} → Command J → Option J
submitted_by (command.Submit plan quanta search) = Some search
submitted_by other = None

-- the search of a command that was made, if it is a submit
abbrev pub search_in : {J : Type 0} → Option (Command J) → Option J
search_in (Some command) = submitted_by command
search_in None = None
