-- A tenant that has a name has a number.
use Rattle.std.proofs.Common.{◌≡◌, ℕ, ◌<◌, List, length, Some}
use Rattle.std.proofs.lemmas.List.Quantifiers.{position-Some}
use Rattle.farm_core.specs.Config.{ConfigData, no_terms}
use Rattle.farm_session.specs.Routed.{is_line_of, tenant_number}

pub known_number : (who : List ℕ) (config : ConfigData) (t : ℕ) → tenant_number who config ≡ Some t → t < length config.tenants
known_number who config t at = (position-Some (is_line_of who) config.tenants t no_terms at).0
