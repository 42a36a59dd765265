use Rattle.std.proofs.Common.{rules, arith, length, refl}
use Rattle.std.proofs.lemmas.Option.{slice_get_read}
use Rattle.std.specs.Cmp.Lexicographic.{same_text}
use Rattle.schedule_clauses.proofs.index.is_at.Goals as goal

pub returns : goal.returns
returns c = λ h. slice_get_read c.args.meanings.now (length c.args.meanings.now) c.args.at c.args.meaning refl c.if-at-meanings.false (first_of (grind (arith, same_text), search (rules, same_text)))
