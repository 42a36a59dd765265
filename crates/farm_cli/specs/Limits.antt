-- The limits of a project and of a farm, in figures. Elsewhere each limit is named by the constant
-- of the code.
use Rattle.std.specs.Prelude.{◌≡◌, ◌≤◌, ℕ, Bool, List, length, Option, Some, None, nat_le, nat_lt, ◌&&◌, if◌then◌else◌}
use Rattle.mrcpsp.specs.declared.limits.TheConstants.{MOST_ACTIVITIES, MOST_MODES, MOST_RESOURCES, MOST_DURATION, MOST_AMOUNT, MOST_HORIZON}
use Rattle.mrcpsp.specs.declared.feasibility.TheConstants.{MOST_START}
use Rattle.psplib_mm.specs.Text.{number_of}
use Rattle.psplib_mm.specs.declared.reading.TheConstants as file
use Rattle.quanta_till.specs.declared.holding.TheConstants.{LEASE_LIMIT}
use Rattle.strategy.specs.declared.kind.Kind.{Kind}
use Rattle.tenant_book.specs.declared.book.TheConstants as book
use Rattle.farm_core.specs.Config.{ConfigData}
use Rattle.farm_core.specs.declared.config.TheConstants as farm
use Rattle.farm_core.specs.declared.name.TheConstants.{MOST_NAME}
use Rattle.session_lines.specs.RequestLine.{number_in, submit_of}
use Rattle.session_lines.specs.Script.{Item, is_long, shown}
use Rattle.session_lines.specs.declared.reading.TheConstants.{MOST_REQUEST_BYTES}
use Rattle.farm_replay.specs.Output.{IsWritten, IsCutBy, Marked}
use Rattle.farm_replay.specs.declared.script.ReplayFault.TheVariants as fault
use Rattle.farm_replay.specs.Counts.{Counts}
use Rattle.farm_cli.specs.declared.arguments.TheConstants.{MOST_SESSIONS}
use Rattle.file_commands.specs.declared.inputs.TheConstants.{MOST_TEXT}

-- the limits of a project, its schedules and its file
pub record ProblemLimits : Type 0 where
  -- there are at most 202 activities
  pub activities : MOST_ACTIVITIES ≡ 202
  -- an activity has at most 10 modes
  pub modes : MOST_MODES ≡ 10
  -- there are at most 8 resources of either kind
  pub resources : MOST_RESOURCES ≡ 8
  -- a mode takes at most 1,000 periods
  pub duration : MOST_DURATION ≡ 1000
  -- a request, a consumption or a capacity is at most 1,000,000
  pub amount : MOST_AMOUNT ≡ 1000000
  -- the longest durations of all activities are at most 20,000 periods together
  pub horizon : MOST_HORIZON ≡ 20000
  -- an activity starts at 1,000,000,000 at the latest
  pub start : MOST_START ≡ 1000000000
  -- a file has at most 1,048,576 bytes
  pub bytes : file.MOST_BYTES ≡ 1048576

-- the limits of a farm
pub record FarmLimits : Type 0 where
  -- there are at most 64 tenants
  pub tenants : farm.MOST_TENANTS ≡ 64
  -- a name has at most 32 bytes
  pub name : MOST_NAME ≡ 32
  -- at most 1,000 jobs are kept for a tenant
  pub jobs : farm.MOST_JOBS ≡ 1000
  -- a tenant uses at most 1,000,000 entries of the journal
  pub entries : farm.MOST_ENTRIES ≡ 1000000
  -- there are at most 16 workers
  pub workers : farm.MOST_WORKERS ≡ 16
  -- a turn has at most 1,000,000 nodes
  pub slice : farm.MOST_SLICE ≡ 1000000

-- the limits of purses and leases
pub record PurseLimits : Type 0 where
  -- a purse is granted at most 10^12 quanta
  pub granted : book.MOST_QUANTA ≡ 1000000000000
  -- a purse of a configuration is granted at most 10^12 quanta too
  pub configured : farm.MOST_QUANTA ≡ 1000000000000
  -- a lease holds at most 10^12 quanta
  pub leased : LEASE_LIMIT ≡ 1000000000000

-- the limits of requests; for a constant that is private to its crate, by the definition that names
-- it
pub record LineLimits : Type 0 where
  -- a line is too long if it has more than 4,096 bytes
  pub longest : (line : List ℕ) → is_long line ≡ nat_lt 4096 (length (shown line))
  -- a number has at most 18 digits
  pub digits : (word : List ℕ) → number_in word ≡ (if nat_le (length word) 18 then number_of word else None)
  -- the text of a submit has 1 to 20,000 lines
  pub lines : (kind : Kind) (quanta lines : ℕ)
      → submit_of (Some kind) (Some quanta) (Some lines) ≡ (if nat_le 1 lines && nat_le lines 20000 then Some (kind, quanta, lines) else None)
  -- a request has at most 100,000,000 bytes
  pub request : MOST_REQUEST_BYTES ≡ 100000000

-- the most requests of a script
pub record ScriptLimits : Type 0 where
  -- a script that is answered whole has at most 1,000,000 requests
  pub whole : (config : ConfigData) (script : List ℕ) (refuses : Bool) (old new : Option (List ℕ)) (is : IsWritten config script refuses old new) → length is.requests ≤ 1000000
  -- a script with more requests is answered to the 1,000,000th
  pub cut : (from seen : Counts) (config : ConfigData) (script : List ℕ) (requests : List Marked) (rest : List Item) (part : List ℕ)
      → IsCutBy fault.Requests from seen config script requests rest part → length requests ≡ 1000000

-- the most that a command reads or answers
pub record CommandLimits : Type 0 where
  -- 1,048,577 bytes of an input are read, one more than a file may have
  pub bytes : MOST_TEXT ≡ 1048577
  -- at most 64 connections are answered
  pub sessions : MOST_SESSIONS ≡ 64
