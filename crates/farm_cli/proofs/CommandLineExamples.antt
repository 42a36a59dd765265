-- What worked command lines ask for, computed.
use Rattle.std.proofs.Common.{◌≡◌, ℕ, List, [], ◌∷◌, Option, Some, refl, codes, option_map, option_and_then}
use Rattle.clap.specs.Words.{Row, Text, fault_of, one_of, subcommand_of}
use Rattle.clap.specs.Kinds.{Kinds}
use Rattle.clap.specs.declared.error.kind.ErrorKind.TheVariants as kind
use Rattle.clap.proofs.OnLiterals.{clap_on_literals}
use Rattle.farm_cli.specs.CommandLine.{farm_app, path_at}

-- the subcommand that the words name, with its paths
abbrev paths : List Text → Text × List Row → Text × List Text
paths [] found = (found.0, [])
paths (id ∷ ids) found = (found.0, path_at id found.1 ∷ (paths ids found).1)

abbrev asked : List Text → List Text → Option (Text × List Text)
asked ids words = option_map (paths ids) (subcommand_of farm_app words)

abbrev file : List Text
file = codes "FILE" ∷ []

abbrev service : List Text
service = codes "config" ∷ codes "port" ∷ codes "sessions" ∷ []

abbrev both : List Text
both = codes "config" ∷ codes "SCRIPT" ∷ []

a_check : asked file (codes "farm" ∷ codes "check" ∷ codes "x.mm" ∷ []) ≡ Some (codes "check", codes "x.mm" ∷ [])
unfolding clap_on_literals
a_check = refl

a_check_of_input : asked file (codes "farm" ∷ codes "check" ∷ codes "-" ∷ []) ≡ Some (codes "check", codes "-" ∷ [])
unfolding clap_on_literals
a_check_of_input = refl

a_replay : asked both (codes "farm" ∷ codes "replay" ∷ codes "--config" ∷ codes "k.json" ∷ codes "s" ∷ []) ≡ Some (codes "replay", codes "k.json" ∷ codes "s" ∷ [])
unfolding clap_on_literals
a_replay = refl

a_replay_turned : asked both (codes "farm" ∷ codes "replay" ∷ codes "s" ∷ codes "--config=k.json" ∷ []) ≡ Some (codes "replay", codes "k.json" ∷ codes "s" ∷ [])
unfolding clap_on_literals
a_replay_turned = refl

-- the text of the flag that asks for status 1
abbrev strict : List Text → Option Text
strict words = option_and_then (λ (found : Text × List Row). one_of (codes "strict") found.1) (subcommand_of farm_app words)

a_strict_replay : strict (codes "farm" ∷ codes "replay" ∷ codes "--strict" ∷ codes "--config" ∷ codes "k.json" ∷ codes "s" ∷ []) ≡ Some (codes "true")
unfolding clap_on_literals
a_strict_replay = refl

a_replay_that_goes_on : strict (codes "farm" ∷ codes "replay" ∷ codes "--config" ∷ codes "k.json" ∷ codes "s" ∷ []) ≡ Some (codes "false")
unfolding clap_on_literals
a_replay_that_goes_on = refl

a_service :
    asked service (codes "farm" ∷ codes "serve" ∷ codes "--config" ∷ codes "k.json" ∷ codes "--port" ∷ codes "0" ∷ codes "--sessions" ∷ codes "2" ∷ [])
    ≡ Some (codes "serve", codes "k.json" ∷ codes "0" ∷ codes "2" ∷ [])
unfolding clap_on_literals
a_service = refl

abbrev fault : List Text → Kinds
fault words = fault_of farm_app words

-- these are taken
check_taken : fault (codes "farm" ∷ codes "check" ∷ codes "x.mm" ∷ []) ≡ []
unfolding clap_on_literals
check_taken = refl

replay_taken : fault (codes "farm" ∷ codes "replay" ∷ codes "--config" ∷ codes "k.json" ∷ codes "-" ∷ []) ≡ []
unfolding clap_on_literals
replay_taken = refl

-- and these are not: no file, no configuration, no script, one file too many, another word, an option of another name, and help; another word
-- may be told as either of two kinds
check_of_nothing : fault (codes "farm" ∷ codes "check" ∷ []) ≡ kind.MissingRequiredArgument ∷ []
unfolding clap_on_literals
check_of_nothing = refl

replay_without_config : fault (codes "farm" ∷ codes "replay" ∷ codes "s" ∷ []) ≡ kind.MissingRequiredArgument ∷ []
unfolding clap_on_literals
replay_without_config = refl

replay_of_nothing : fault (codes "farm" ∷ codes "replay" ∷ codes "--config" ∷ codes "k.json" ∷ []) ≡ kind.MissingRequiredArgument ∷ []
unfolding clap_on_literals
replay_of_nothing = refl

two_files : fault (codes "farm" ∷ codes "check" ∷ codes "x" ∷ codes "y" ∷ []) ≡ kind.UnknownArgument ∷ []
unfolding clap_on_literals
two_files = refl

another_word : fault (codes "farm" ∷ codes "dance" ∷ []) ≡ kind.UnknownArgument ∷ kind.InvalidSubcommand ∷ []
unfolding clap_on_literals
another_word = refl

-- the words of a service of so many connections at that port
abbrev serving : List ℕ → List ℕ → List Text
serving port sessions =
    codes "farm" ∷ codes "serve" ∷ codes "--config" ∷ codes "k.json" ∷ codes "--port" ∷ port ∷ codes "--sessions" ∷ sessions ∷ []

serve_taken : fault (serving (codes "65535") (codes "64")) ≡ []
unfolding clap_on_literals
serve_taken = refl

port_too_great : fault (serving (codes "65536") (codes "64")) ≡ kind.ValueValidation ∷ []
unfolding clap_on_literals
port_too_great = refl

no_sessions : fault (serving (codes "0") (codes "0")) ≡ kind.ValueValidation ∷ []
unfolding clap_on_literals
no_sessions = refl

another_option : fault (codes "farm" ∷ codes "replay" ∷ codes "--conf" ∷ codes "k.json" ∷ codes "s" ∷ []) ≡ kind.UnknownArgument ∷ []
unfolding clap_on_literals
another_option = refl

help_of_farm : fault (codes "farm" ∷ codes "--help" ∷ []) ≡ kind.DisplayHelp ∷ []
unfolding clap_on_literals
help_of_farm = refl
