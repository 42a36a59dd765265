-- What a script's reader has left.
use Rattle.std.specs.Prelude.{ℕ, List, Option}
use Rattle.std.specs.Io.Buffered.{reader_remaining}
use Rattle.farm_replay.specs.declared.reader.Script.{Script}

-- the bytes that are left, if they are known
abbrev pub script_rest : {R : Type 0} → (R → Option (List ℕ)) → Script R → Option (List ℕ)
script_rest remaining script = reader_remaining remaining script.input
