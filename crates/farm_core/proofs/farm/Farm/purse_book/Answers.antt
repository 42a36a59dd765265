use Rattle.std.proofs.Common.{get_or, ap, ◌∙◌, subst}
use Rattle.std.specs.Vec.{vec_capacity}
use Rattle.tenant_book.specs.Book.{BookData}
use Rattle.farm_core.specs.World.{World}
use Rattle.farm_core.specs.Farm.{IsFarm}
use Rattle.farm_core.proofs.FarmLemmas.{book_is}
use Rattle.farm_core.proofs.farm.Farm.purse_book.Goals as goal

pub returns : goal.returns
returns g c =
    let w : World = c.args.self.now in
    let farm : IsFarm w (vec_capacity c.self.inside.journal) = subst (λ (v : World). IsFarm v (vec_capacity c.self.inside.journal)) c.self.view_is c.self.invariant.0 in
    let b : BookData = c.index.result.now in
    c.index.ensures ∙ ap (λ (v : World). get_or v.books c.args.number b) c.self.view_is ∙ book_is w c.args.number (vec_capacity c.self.inside.journal) b farm c.requires
