use Rattle.std.proofs.Common.{refl}
use Rattle.serial_pass.proofs.PartialLemmas.{empty_set}
use Rattle.serial_pass.proofs.StateLemmas.{nobody_sums}
use Rattle.serial_pass.proofs.tables.nobody.Goals as goal

pub returns-clause-none : goal.returns-clause-none
returns-clause-none c j l = empty_set j

pub returns-clause-sums : goal.returns-clause-sums
returns-clause-sums c p = nobody_sums p _ (λ j l. empty_set j) refl refl refl
