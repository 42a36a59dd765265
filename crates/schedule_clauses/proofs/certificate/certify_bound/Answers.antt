use Rattle.schedule_clauses.proofs.EncodingLemmas.{each-exceeds}
use Rattle.schedule_clauses.proofs.certificate.certify_bound.Goals as goal

pub returns-in-Ok-clause-exceeds : goal.returns-in-Ok-clause-exceeds
returns-in-Ok-clause-exceeds c = each-exceeds c.args.project.now c.args.bound c.in_ok-formula.formula.clauses c.in_ok-formula.ensures.clauses c.in-Ok.ensures
