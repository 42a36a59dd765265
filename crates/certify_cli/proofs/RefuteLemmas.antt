-- What refuted clauses show of a project.
use Rattle.schedule_clauses.proofs.EncodingLemmas.{each-exceeds, none-feasible}

pub ruleset limit_rules = (each-exceeds)

pub ruleset stock_rules = (none-feasible)
