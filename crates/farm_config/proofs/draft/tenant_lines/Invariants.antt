use Rattle.std.proofs.Common.{◌≡◌, ◌++◌, map, drop, option_map}
use Rattle.serde_json.specs.View.{view, items_of}
use Rattle.farm_config.specs.Config.{tenant_lines}
use Rattle.farm_config.proofs.draft.tenant_lines.Given as goal

-- the lines so far, and then those of the rest
abbrev pub invariant-loop-value : goal.invariant-loop-value
invariant-loop-value l =
    tenant_lines (items_of (map view l.values))
    ≡ option_map (λ more. l.lines.items ++ more) (tenant_lines (items_of (map view (drop l.value-index l.values))))
