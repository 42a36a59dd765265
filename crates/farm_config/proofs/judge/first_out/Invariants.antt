use Rattle.std.proofs.Common.{◌≡◌, drop}
use Rattle.farm_config.specs.Config.{all_terms, first_out}
use Rattle.farm_config.proofs.judge.first_out.Given as goal

-- the tenants so far are within range
abbrev pub invariant-loop-line : goal.invariant-loop-line
invariant-loop-line l = first_out (all_terms l.draft) ≡ first_out (all_terms (record l.draft { tenants = drop l.line-index l.draft.tenants }))
