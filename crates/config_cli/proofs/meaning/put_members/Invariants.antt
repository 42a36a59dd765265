use Rattle.std.proofs.Common.{◌≡◌, ◌++◌, string_bytes}
use Rattle.config_cli.specs.ConfigText.{concat_below, member_word}
use Rattle.config_cli.proofs.meaning.put_members.Given as goal

abbrev pub invariant-loop-tenant : goal.invariant-loop-tenant
invariant-loop-tenant l = string_bytes l.text ≡ string_bytes l.initial.text ++ concat_below (member_word l.config l.purse) l.tenant
