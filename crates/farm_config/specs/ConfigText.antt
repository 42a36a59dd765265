-- The names of the keys of a configuration.
use Rattle.std.specs.Prelude.{ℕ, List, codes}
use Rattle.farm_config.specs.declared.fault.Key.{Key}
use Rattle.farm_config.specs.declared.fault.Key.TheVariants.{Quanta, Jobs, Entries, Workers, Slice, Purse}

-- the name of a key in a text
abbrev pub key_text : Key → List ℕ
key_text Quanta = codes "quanta"
key_text Jobs = codes "jobs"
key_text Entries = codes "entries"
key_text Workers = codes "workers"
key_text Slice = codes "slice"
key_text Purse = codes "purse"
