-- What a query asks for.
use Rattle.std.proofs.Common.{◌≡◌, ℕ, refl}
use Rattle.strategy.specs.Search.{Meaning}
use Rattle.farm_core.specs.declared.entry.Event.{Event}
use Rattle.farm_core.specs.declared.entry.Event.TheVariants as event
use Rattle.farm_pool.specs.declared.image.CallImage.TheVariants as said
use Rattle.farm_pool.specs.declared.locked_farm.FarmCall.TheVariants as asked
use Rattle.farm_pool.specs.declared.query.About.{About}
use Rattle.farm_pool.specs.declared.query.About.TheVariants.{Status, Fetch, Ledger}
use Rattle.farm_pool.specs.Calls.{call_image}
use Rattle.farm_pool.specs.Query.{event_about, command_about}

-- a query's command asks for its event
pub asks : {J : Type 0} (meaning : J → Meaning) (t : ℕ) (about : About) → call_image meaning (asked.Asked t (command_about about)) ≡ said.Asked t (event_about about)
asks meaning t (Status seq) = refl
asks meaning t (Fetch seq) = refl
asks meaning t Ledger = refl

pub cancels_nothing : (about : About) (seq : ℕ) → event_about about ≡ event.Cancel seq → ⊥
cancels_nothing (Status s) seq is = absurd (cc is)
cancels_nothing (Fetch s) seq is = absurd (cc is)
cancels_nothing Ledger seq is = absurd (cc is)
