-- What `farm config` writes of the bytes of a file, and why it stops.
use Rattle.std.specs.Prelude.{◌≡◌, ℕ, ◌<◌, ◌≤◌, List, length, ⊤, Ok}
use Rattle.file_commands.specs.declared.inputs.TheConstants.{MOST_TEXT}
use Rattle.farm_core.specs.Config.{ConfigData}
use Rattle.farm_config.specs.Config.{Means, HasFault}
use Rattle.config_cli.specs.ConfigText.{config_text}
use Rattle.config_cli.specs.declared.command.ConfigRefusal.{ConfigRefusal}
use Rattle.config_cli.specs.declared.command.ConfigRefusal.TheVariants as why

-- the file is a configuration, and this is its text
pub record IsShown (file shown : List ℕ) : Type 0 where
  pub config : ConfigData
  pub short : length file < MOST_TEXT
  pub means : Means file (Ok config)
  pub tells : shown ≡ config_text config

-- why a file is refused: it is longer than a configuration may be, or has the first fault
abbrev pub IsRefused : List ℕ → ConfigRefusal → Type 0
IsRefused file why.TooLong = MOST_TEXT ≤ length file
IsRefused file (why.Fault fault) = (length file < MOST_TEXT) × HasFault file fault
IsRefused file why.NoMemory = ⊤
