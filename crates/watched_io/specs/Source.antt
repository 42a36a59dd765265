-- What a source has left.
use Rattle.std.specs.Prelude.{ℕ, List, [], Option, Some}
use Rattle.watched_io.specs.declared.source.Source.{Source}
use Rattle.watched_io.specs.declared.source.Source.TheVariants.{Standard, File, Nothing}

-- the bytes that are left of a source, if they are known
abbrev pub source_rest : {S F : Type 0} → (S → Option (List ℕ)) → (F → Option (List ℕ)) → Source S F → Option (List ℕ)
source_rest input_rest file_rest (Standard input) = input_rest input
source_rest input_rest file_rest (File file) = file_rest file
source_rest input_rest file_rest Nothing = Some []
