use Rattle.std.proofs.Common.{◌≡◌, ◌++◌, string_bytes}
use Rattle.config_cli.specs.ConfigText.{concat_below, tenant_line}
use Rattle.config_cli.proofs.meaning.put_tenants.Given as goal

abbrev pub invariant-loop-tenant : goal.invariant-loop-tenant
invariant-loop-tenant l = string_bytes l.text ≡ string_bytes l.initial.text ++ concat_below (tenant_line l.config) l.tenant
