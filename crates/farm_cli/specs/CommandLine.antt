-- What the words of a command line ask for, as the kit's `clap` reads them.
use Rattle.std.specs.Prelude.{◌≡◌, ℕ, Bool, true, false, List, Option, Some, codes, unwrap_or}
use Rattle.clap.specs.Words.{App, Row, Rule, Text, new_app, new_rule, with_rule, with_subcommand, first_of, one_of}
use Rattle.clap.specs.declared.builder.value_parser.ValueParser.TheVariants as value_parser
use Rattle.clap.specs.declared.builder.action.ArgAction.TheVariants.{SetTrue}
use Rattle.farm_cli.specs.declared.arguments.TheConstants.{MOST_SESSIONS}
use Rattle.farm_cli.specs.declared.arguments.Task.{Task}
use Rattle.farm_cli.specs.declared.arguments.Task.TheVariants as task

-- an argument that has to be there
abbrev pub needed : Text → Rule
needed id = record (new_rule id) { required = true }

-- check FILE
abbrev pub check_app : App
check_app = with_rule (new_app (codes "check")) (needed (codes "FILE"))

-- a required option of this name with a value
abbrev pub option_rule : Text → Rule
option_rule id = record (needed id) { long = Some id; value_names = 1 }

-- a required option of this name whose value is a number from `least` to `most`
abbrev pub number_rule : Text → ℕ → ℕ → Rule
number_rule id least most = record (option_rule id) { parser = Some (value_parser.Unsigned least most) }

-- the option --config F
abbrev pub config_rule : Rule
config_rule = option_rule (codes "config")

-- an option of this name without a value
abbrev pub flag_rule : Text → Rule
flag_rule id = record (new_rule id) { long = Some id; action = Some SetTrue }

-- replay --config F [--strict] SCRIPT
abbrev pub replay_app : App
replay_app = with_rule (with_rule (with_rule (new_app (codes "replay")) config_rule) (needed (codes "SCRIPT"))) (flag_rule (codes "strict"))

-- serve --config F --port P --sessions K
abbrev pub serve_app : App
serve_app =
    with_rule (with_rule (with_rule (new_app (codes "serve")) config_rule) (number_rule (codes "port") 0 65535)) (number_rule (codes "sessions") 1 MOST_SESSIONS)

-- one of the subcommands has to be named
abbrev pub asking : App → App
asking a = record a { top = record a.top { subcommand_required = true } }

-- a command with the three subcommands
abbrev pub with_three : App → App
with_three a = with_subcommand (with_subcommand (with_subcommand a check_app.top) replay_app.top) serve_app.top

-- farm, with one of the three subcommands
abbrev pub farm_app : App
farm_app = with_three (asking (new_app (codes "farm")))

-- the task is a check of this file
abbrev pub Checks : Text → Task → Type 0
Checks file (task.Check path) = path.now ≡ file
Checks file (task.Replay config script is_strict) = ⊥
Checks file (task.Serve config port sessions) = ⊥

-- the text of a flag
abbrev pub flag_text : Bool → Text
flag_text true = codes "true"
flag_text false = codes "false"

-- the flag is the one of its text
abbrev pub IsSetBy : Option Text → Bool → Type 0
IsSetBy found is_set = (wanted : Bool) → found ≡ Some (flag_text wanted) → is_set ≡ wanted

-- the task is a replay of this script under this configuration
abbrev pub Replays : Text → Text → Option Text → Task → Type 0
Replays config script strict (task.Check path) = ⊥
Replays config script strict (task.Replay f path is_strict) = (f.now ≡ config) × (path.now ≡ script) × IsSetBy strict is_strict
Replays config script strict (task.Serve f p k) = ⊥

-- the task is a service under this configuration, at this port and for this number of connections
abbrev pub Serves : Text → Text → Text → Task → Type 0
Serves config port sessions (task.Check path) = ⊥
Serves config port sessions (task.Replay f path is_strict) = ⊥
Serves config port sessions (task.Serve f p k) = (f.now ≡ config) × (p.now ≡ port) × (k.now ≡ sessions)

-- the text at an argument: a path, a port or a number of connections; `-` if there is none
abbrev pub path_at : Text → List Row → Text
path_at id rows = unwrap_or (first_of id rows) (codes "-")

-- the task of a subcommand with its arguments
pub record Asks (found : Option (Text × List Row)) (t : Task) : Type 0 where
  pub check : (rows : List Row) → found ≡ Some (codes "check", rows) → Checks (path_at (codes "FILE") rows) t
  pub replay : (rows : List Row) → found ≡ Some (codes "replay", rows) → Replays (path_at (codes "config") rows) (path_at (codes "SCRIPT") rows) (one_of (codes "strict") rows) t
  pub serve : (rows : List Row) → found ≡ Some (codes "serve", rows)
      → Serves (path_at (codes "config") rows) (path_at (codes "port") rows) (path_at (codes "sessions") rows) t
