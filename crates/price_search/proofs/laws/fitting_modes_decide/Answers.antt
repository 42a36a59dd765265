use Rattle.price_search.proofs.FittingLemmas.{fitting_suffice, feasible_fit, none_beyond}
use Rattle.price_search.proofs.laws.fitting_modes_decide.Goals as goal

pub returns-clause-suffice : goal.returns-clause-suffice
returns-clause-suffice c = fitting_suffice

pub returns-clause-fit : goal.returns-clause-fit
returns-clause-fit c = feasible_fit

pub returns-clause-beyond : goal.returns-clause-beyond
returns-clause-beyond c = none_beyond
