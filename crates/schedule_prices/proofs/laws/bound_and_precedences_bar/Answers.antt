use Rattle.schedule_prices.proofs.StepLemmas.{late-is-barred, early-is-barred, behind-is-barred}
use Rattle.schedule_prices.proofs.laws.bound_and_precedences_bar.Goals as goal

pub returns-clause-late : goal.returns-clause-late
returns-clause-late c = late-is-barred

pub returns-clause-early : goal.returns-clause-early
returns-clause-early c = early-is-barred

pub returns-clause-behind : goal.returns-clause-behind
returns-clause-behind c = behind-is-barred
