use Rattle.std.proofs.Common.{◌≡◌, ℕ, ◌<◌, length, get_or}
use Rattle.schedule_clauses.specs.declared.meaning.Fact.TheVariants.{InMode}
use Rattle.schedule_clauses.specs.declared.meaning.Term.{Term}
use Rattle.schedule_clauses.proofs.FormLemmas.{yes_of}
use Rattle.schedule_clauses.proofs.forms.modes.modes.Given as goal

abbrev pub invariant-loop-mode : goal.invariant-loop-mode
invariant-loop-mode l = record {
  long : length l.terms.items ≡ l.mode;
  each : (k : ℕ) (d : Term) → k < length l.terms.items → get_or l.terms.items k d ≡ yes_of (InMode l.activity k);
}
