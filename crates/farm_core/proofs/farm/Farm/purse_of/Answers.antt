use Rattle.std.proofs.Common.{◌<◌, length, ap, ◌∙◌, arith}
use Rattle.farm_core.specs.World.{World, purse_in, purses_in}
use Rattle.farm_core.proofs.FarmLemmas.{purses_are, purse_known}
use Rattle.farm_core.proofs.farm.Farm.purse_of.Given.{Over}
use Rattle.farm_core.proofs.farm.Farm.purse_of.Goals.{After-self}
use Rattle.farm_core.proofs.farm.Farm.purse_of.Goals as goal

known : (g : Over) (c : After-self g) → c.args.tenant < length c.self.inside.config.tenants
known g c = omega (arith, c.requires, ap (λ (x : World). length x.config.tenants) c.self.view_is)

pub index-requires : goal.index-requires
index-requires g c =
    let there = (purses_are c.self.inside.config c.self.inside.ledgers.purses.items c.args.tenant 0 c.self.invariant.1 (known g c)).0 in
    omega (arith, there, c.self.inside.ledgers.purses.ok)

pub returns-clause-exact : goal.returns-clause-exact
returns-clause-exact g c =
    let l : c.args.tenant < length c.self.inside.config.tenants = omega (arith, c.requires, ap (λ (x : World). length x.config.tenants) c.self.view_is) in
    c.index.ensures ∙ (purses_are c.self.inside.config c.self.inside.ledgers.purses.items c.args.tenant c.index.result.now c.self.invariant.1 l).1
    ∙ ap (λ (x : World). purse_in x.config c.args.tenant) c.self.view_is

pub returns-clause-known : goal.returns-clause-known
returns-clause-known g c =
    let l : c.args.tenant < length c.self.inside.config.tenants = omega (arith, c.requires, ap (λ (x : World). length x.config.tenants) c.self.view_is) in
    let is = c.index.ensures ∙ (purses_are c.self.inside.config c.self.inside.ledgers.purses.items c.args.tenant c.index.result.now c.self.invariant.1 l).1 in
    omega (arith, is, purse_known c.self.inside.config c.args.tenant l, ap (λ (x : World). purses_in x.config) c.self.view_is)
