use Rattle.std.proofs.Common.{◌≡◌, ◌<◌, length, arith, subst, sym, ap, ◌∙◌}
use Rattle.std.proofs.lemmas.List.{length-map}
use Rattle.farm_core.specs.Config.{ConfigData, purse_names}
use Rattle.farm_core.specs.Purses.{purses, purse_of}
use Rattle.farm_core.specs.declared.config.TenantLine.{TenantLine}
use Rattle.farm_core.proofs.SharingLemmas.{counted}
use Rattle.farm_core.proofs.config.Config.purse_of.Goals as goal

pub returns-clause-known : goal.returns-clause-known
returns-clause-known c =
    let names = purse_names c.args.self.now.tenants in
    let inside = ap (λ (v : ConfigData). v.tenants) c.self.view_is in
    let many = length-map c.self.inside.tenants (λ (line : TenantLine). line.purse) in
    let longs = ap length inside in
    let all = length-map c.args.self.now.tenants (λ (line : TenantLine). line.purse) in
    let l : c.args.tenant < length names = omega arith in
    let number : c.number.result ≡ purse_of names c.args.tenant =
    c.number.ensures ∙ c.self.invariant.1.each c.args.tenant (omega arith) ∙ ap (λ lines. purse_of (purse_names lines) c.args.tenant) inside in
    subst (λ n. n < purses names) (sym number) (counted names c.args.tenant l)
