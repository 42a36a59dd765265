use Rattle.std.proofs.Common.{◌≡◌}
use denote.Shadow.{shadow}
use denote.Text.{Utf8}
use Rattle.config_cli.specs.ConfigText as text
use Rattle.config_cli.proofs.meaning.purse_name.Given as goal

-- the name as the tenants so far write it, which is a text
abbrev pub invariant-loop-tenant : goal.invariant-loop-tenant
invariant-loop-tenant l = record {
  name : l.name ≡ text.purse_name l.config l.purse l.tenant;
  utf8 : shadow (Utf8 l.name);
}
