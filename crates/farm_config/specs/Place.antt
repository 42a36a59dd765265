-- Which part of a misnamed tenant is to blame.
use Rattle.std.specs.Prelude.{ℕ, List, Option, Some, slice_get, if◌then◌else◌}
use Rattle.serde_json.specs.Read.{read}
use Rattle.farm_core.specs.declared.config.TenantLine.{TenantLine}
use Rattle.farm_config.specs.declared.place.ConfigPart.{ConfigPart}
use Rattle.farm_config.specs.declared.place.ConfigPart.TheVariants.{Name, Purse}
use Rattle.farm_config.specs.Config.{◌>>=◌, tenants_of, is_name_if_any}

-- the purse if its name is ill formed, and otherwise the tenant's name
abbrev pub part_to_blame : TenantLine → ConfigPart
part_to_blame line = if is_name_if_any line.purse then Name else Purse

-- the part to blame of the tenant at a place of the text
abbrev pub to_blame : List ℕ → ℕ → Option ConfigPart
to_blame bytes index = do
  value ← read bytes
  lines ← tenants_of value
  line ← slice_get lines index
  Some (part_to_blame line)
