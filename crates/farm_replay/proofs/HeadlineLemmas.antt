-- What was written is isolated and true, by the laws of outputs.
use Rattle.std.proofs.Common.{◌≡◌, ℕ, ◌∙◌, Bool, List, Option, Some, None, ap, refl, subst}
use Rattle.std.specs.Prelude.{Result, Ok, Err, IfSome, OnOk, ⊤}
use Rattle.farm_core.specs.Config.{ConfigData}
use Rattle.farm_core.specs.World.{World, purse}
use Rattle.farm_replay.specs.declared.script.ReplayFault.{ReplayFault}
use Rattle.farm_replay.specs.Output.{opening, parts_after, IsWritten}
use Rattle.farm_replay.specs.Bytes.{EachOutputIsAlone, OutputsAreIsolated}
use Rattle.farm_replay.specs.Closing.{all_back, parts_at_end, HasLed}
use Rattle.farm_replay.specs.Truth.{EachLineIsTrue}
use Rattle.farm_replay.specs.Headline.{IsHeadline}
use Rattle.farm_replay.proofs.IsolationLemmas.{parts_are_isolated}

-- what holds of a whole output holds if it is known
whole : (P Q : List ℕ → Type 0) (result : Result ⊤ ReplayFault) (a b : Option (List ℕ)) → a ≡ b → ((xs : List ℕ) → P xs → Q xs) → OnOk result (IfSome a P) → OnOk result (IfSome b Q)
whole P Q result a b same then h = subst (λ r. OnOk result (IfSome r Q)) same (known a result h)
  where
    known : (a : Option (List ℕ)) (result : Result ⊤ ReplayFault) → OnOk result (IfSome a P) → OnOk result (IfSome a Q)
    known None (Ok u) it = tt
    known (Some xs) (Ok u) it = then xs it
    known a (Err why) it = tt

-- the turns that were held are back
pub led_to_the_end : (config : ConfigData) (a old new : Option (List ℕ)) (refuses : Bool) (result : Result ⊤ ReplayFault) (w farm : World) → ((p : ℕ) → purse p farm ≡ all_back (purse p w))
    → OnOk result (IfSome a (λ xs. HasLed (parts_after config (opening config)) config xs refuses old new w)) → OnOk result (IfSome a (λ xs. HasLed (parts_at_end config) config xs refuses old new farm))
led_to_the_end config a old new refuses result w farm back =
    whole (λ xs. HasLed (parts_after config (opening config)) config xs refuses old new w) (λ xs. HasLed (parts_at_end config) config xs refuses old new farm) result a a refl
    (λ xs it. record { written = it.written; led = λ p. back p ∙ ap all_back (it.led p) })

pub led_written : (config : ConfigData) (a b old new : Option (List ℕ)) (refuses : Bool) (result : Result ⊤ ReplayFault) (farm : World) → a ≡ b
    → OnOk result (IfSome a (λ xs. HasLed (parts_at_end config) config xs refuses old new farm)) → OnOk result (IfSome b (λ xs. IsWritten config xs refuses old new))
led_written config a b old new refuses result farm same =
    whole (λ xs. HasLed (parts_at_end config) config xs refuses old new farm) (λ xs. IsWritten config xs refuses old new) result a b same (λ xs it. it.written)

pub led_headline : OutputsAreIsolated → EachOutputIsAlone → EachLineIsTrue → (config : ConfigData) (a b old new : Option (List ℕ)) (refuses : Bool) (result : Result ⊤ ReplayFault) (farm : World) → a ≡ b
    → OnOk result (IfSome a (λ xs. HasLed (parts_at_end config) config xs refuses old new farm)) → OnOk result (IfSome b (λ xs. IsHeadline config xs refuses old new))
led_headline isolated alone truth config a b old new refuses result farm same =
    whole (λ xs. HasLed (parts_at_end config) config xs refuses old new farm) (λ xs. IsHeadline config xs refuses old new) result a b same
    (λ xs led. let it = led.written in record {
      written = it;
      isolated = λ elsewhere other others all p q names here there alike. (
        isolated config elsewhere xs other it.requests others it.all all p q names here there alike.begins alike.members alike.asks,
        ap all_back (parts_are_isolated config elsewhere it.requests others p q alike.begins alike.members alike.asks),
      );
      alone = alone config xs it.requests it.all;
      truth = record { told = truth.told config xs it.requests it.all; one = truth.one config it.requests };
    })
