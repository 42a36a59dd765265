use Rattle.std.proofs.Common.{◌≡◌, List, length, get_or, filter, refl, sym, ap, ◌∙◌, subst, arith}
use Rattle.std.specs.Vec.{vec_capacity}
use Rattle.job_table.specs.Table.{JobData, is_out, jobs_of}
use Rattle.farm_core.specs.declared.account.Account.{Account}
use Rattle.farm_core.specs.declared.config.TenantLine.{TenantLine}
use Rattle.farm_core.specs.World.{World, account_of, view}
use Rattle.farm_core.specs.Farm.{IsFarm}
use Rattle.farm_core.proofs.FarmLemmas.{IsRead, read_of}
use Rattle.farm_core.proofs.farm.Farm.has_room.Given.{Over}
use Rattle.farm_core.proofs.farm.Farm.has_room.Goals.{After-out_of}
use Rattle.farm_core.proofs.farm.Farm.has_room.Goals as goal

read : (g : Over) (c : After-out_of g) → IsRead c.args.self.now c.args.tenant c.index-tenants-tenant.result (account_of c.args.self.now c.args.tenant) c.out_of.result
read g c =
    let w : World = c.args.self.now in
    let whole = c.self.view_is in
    let farm : IsFarm w (vec_capacity c.self.inside.journal) = subst (λ (v : World). IsFarm v (vec_capacity c.self.inside.journal)) whole c.self.invariant.0 in
    let lines : c.tenants.result.now ≡ w.config.tenants = c.tenants.ensures.all ∙ ap (λ (v : World). v.config.tenants) whole in
    let line : TenantLine = c.index-tenants-tenant.result in
    read_of w c.args.tenant (vec_capacity c.self.inside.journal) line (account_of w c.args.tenant) c.out_of.result farm c.requires.known
    (c.index-tenants-tenant.is ∙ ap (λ (ls : List TenantLine). get_or ls c.args.tenant line) lines)
    refl
    (c.out_of.ensures ∙ ap (λ (v : World). length (filter (λ (job : JobData). is_out job.phase) (jobs_of c.args.tenant v.rows))) whole)

used_is : (g : Over) (c : After-out_of g) → c.account-used.result.used ≡ (account_of c.args.self.now c.args.tenant).used
used_is g c = ap (λ (a : Account). a.used) c.account-used.ensures.exact

pub overflow_add-result : goal.overflow_add-result
overflow_add-result g c = let it = read g c in omega (arith, used_is g c, it.within, it.few)

pub overflow_add-result-2 : goal.overflow_add-result-2
overflow_add-result-2 g c = let it = read g c in omega (arith, used_is g c, it.within, it.few, c.requires.few)

pub returns-clause-few : goal.returns-clause-few
returns-clause-few g c = let it = read g c in omega (arith, it.used, it.within, it.few)

pub returns-clause-limited : goal.returns-clause-limited
returns-clause-limited g c = (read g c).limited

pub returns-clause-exact : goal.returns-clause-exact
returns-clause-exact g c =
    let it = read g c in
    let limit : (get_or c.tenants.result.now c.args.tenant c.index-tenants-tenant.result).entries ≡ (view c.args.tenant c.args.self.now).terms.entries = ap (λ (l : TenantLine). l.entries) (sym c.index-tenants-tenant.is) ∙ it.entries in
    let used : c.account-used.result.used ≡ (view c.args.tenant c.args.self.now).used = used_is g c ∙ it.used in
    rw (limit, used, it.out_is) refl
