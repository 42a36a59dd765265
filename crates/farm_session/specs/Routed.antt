-- How a request of a farm's tenants is routed before the farm is asked.
use Rattle.std.specs.Prelude.{◌<◌, length, ⊤, ℕ, Bool, List, Option, Some, None, Result, Ok, Err, position}
use Rattle.farm_core.specs.declared.command.Command.{Command}
use Rattle.farm_core.specs.declared.config.TenantLine.{TenantLine}
use Rattle.farm_core.specs.declared.reply.Reply.TheVariants as reply
use Rattle.farm_core.specs.Config.{ConfigData}
use Rattle.farm_core.specs.Name.{same_bytes}
use Rattle.session_lines.specs.declared.request.Request.{Request}
use Rattle.session_lines.specs.declared.request.LineFault.{LineFault}
use Rattle.session_lines.specs.declared.request.LineFault.TheVariants.{Eof, Read, TooLong, Syntax, File, NoMemory}
use Rattle.session_lines.specs.declared.said.Said.TheVariants as said
use Rattle.farm_session.specs.declared.ask.Ask.{Ask}
use Rattle.farm_session.specs.declared.ask.Ask.TheVariants as ask
use Rattle.farm_session.specs.Ask.{ask_of}
use Rattle.farm_session.specs.declared.routed.Routed.{Routed}
use Rattle.farm_session.specs.declared.routed.Routed.TheVariants.{End, ReadFailed, Answered, Asked}

-- whether a line is that of the tenant of this name
abbrev pub is_line_of : List ℕ → TenantLine → Bool
is_line_of name line = same_bytes line.name name

-- the number of the tenant of this name
abbrev pub tenant_number : List ℕ → ConfigData → Option ℕ
tenant_number name config = position (is_line_of name) config.tenants

-- what is asked of the farm is asked by a tenant of the configuration
abbrev pub IsKnown : {A : Type 0} → ConfigData → Routed A → Type 0
IsKnown config End = ⊤
IsKnown config ReadFailed = ⊤
IsKnown config (Answered who said) = ⊤
IsKnown config (Asked t who asked) = t < length config.tenants

-- what tenant t asks for, or `NoTenant` if there is none
abbrev pub routed_to : {A : Type 0} → List ℕ → A → Option ℕ → Routed A
routed_to who asked None = Answered (Some who) said.NoTenant
routed_to who asked (Some t) = Asked t who asked

-- what could not be read: the end, or a reply that is settled
abbrev pub fault_routed : {A : Type 0} → LineFault → Routed A
fault_routed Eof = End
fault_routed Read = ReadFailed
fault_routed (TooLong who) = Answered who said.LongLine
fault_routed (Syntax who) = Answered who said.Syntax
fault_routed (File who fault) = Answered (Some who) (said.File fault)
fault_routed (NoMemory who) = Answered (Some who) (said.Reply reply.NoMemory)

-- a script's request, as it is routed: to a tenant, or its reply is settled
abbrev pub routed_of : ConfigData → Result Request LineFault → Routed Ask
routed_of config (Ok request) = routed_to request.who (ask_of request.what) (tenant_number request.who config)
routed_of config (Err fault) = fault_routed fault

-- a session may ask for a call; one that asks for a turn is told *no request*, whoever is named
abbrev pub call_routed_to : ConfigData → List ℕ → Ask → Routed (Command ⊤)
call_routed_to config who (ask.Call call) = routed_to who call (tenant_number who config)
call_routed_to config who (ask.Turn turn) = Answered None said.Syntax

-- a session's request, as it is routed
abbrev pub call_routed : ConfigData → Result Request LineFault → Routed (Command ⊤)
call_routed config (Ok request) = call_routed_to config request.who (ask_of request.what)
call_routed config (Err fault) = fault_routed fault
