use Rattle.std.proofs.Common.{◌≡◌, refl, ap, ◌∙◌, sym, subst}
use Rattle.std.specs.Vec.{vec_capacity}
use Rattle.farm_core.specs.World.{World, opened}
use Rattle.farm_core.specs.Farm.{IsFarm, purse_numbers}
use Rattle.farm_core.proofs.FarmLemmas.{farm_opened}
use Rattle.farm_core.proofs.farm.Farm.new.Given.{Over}
use Rattle.farm_core.proofs.farm.Farm.new.Goals.{After-new-2}
use Rattle.farm_core.proofs.farm.Farm.new.Goals as goal

whole : (g : Over) (c : After-new-2 g) →
    (let w : World = record { config = c.in_ok-clone_in.field-0; rows = c.new.result.rows; waiting = c.new.result.waiting; journal = c.new-2.result.items; books = c.in_ok-open_books.field-0.items; numbers = c.in_ok-open_numbers.field-0.items } in w)
    ≡ opened c.args.config.now
unfolding opened
whole g c = rw (c.in_ok-clone_in.ensures, c.new.ensures, c.new-2.ensures.items, c.in_ok-open_books.ensures, c.in_ok-open_numbers.ensures) refl

pub returns : goal.returns
returns g c = whole g c

pub invariant_of-result : goal.invariant_of-result
invariant_of-result g c = (
  subst (λ (w : World). IsFarm w (vec_capacity c.new-2.result)) (sym (whole g c)) (farm_opened c.args.config.now (vec_capacity c.new-2.result) c.number_purses.ensures.config),
  c.in_ok-number_purses.ensures.exact ∙ ap purse_numbers (sym c.in_ok-clone_in.ensures),
  tt,
)
