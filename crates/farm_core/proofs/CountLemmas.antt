-- What each step keeps.
use Rattle.std.proofs.Common.{◌≡◌, ◌+◌, ◌≤◌, Bool, cond, refl, sym, ap, ◌∙◌, arith}
use Rattle.farm_core.specs.declared.entry.Event.{Event}
use Rattle.farm_core.specs.Tenant.{Tenant}
use Rattle.farm_core.specs.Step.{Step, Effect, Nothing, Notes, Adds, Changes, Drops, done, decided, step}
use Rattle.farm_core.specs.World.{is_noted}
use Rattle.farm_core.proofs.DecisionLemmas.{leaves_entry, entry_told}

-- an effect counts its entry, keeps the terms, what was granted and what other members hold, and takes back nothing that was spent
record Counts (t : Tenant) (told : Bool) (after : Tenant) : Type 0 where
  used : after.used ≡ t.used + cond told 1 0
  terms : after.terms ≡ t.terms
  granted : after.granted ≡ t.granted
  beside : after.beside ≡ t.beside
  spends : t.spent ≤ after.spent

counts : (t : Tenant) (f : Effect) → Counts t (leaves_entry f) (done t f).after
counts t (Nothing answer) = record { used = omega arith; terms = refl; granted = refl; beside = refl; spends = omega arith }
counts t (Notes answer) = record { used = refl; terms = refl; granted = refl; beside = refl; spends = omega arith }
counts t (Adds job) = record { used = refl; terms = refl; granted = refl; beside = refl; spends = omega arith }
counts t (Changes job ran answer) = record { used = refl; terms = refl; granted = refl; beside = refl; spends = omega arith }
counts t (Drops seq) = record { used = refl; terms = refl; granted = refl; beside = refl; spends = omega arith }

-- and so does a step
pub record IsCounted (t : Tenant) (it : Step) : Type 0 where
  pub used : it.after.used ≡ t.used + cond (is_noted it.answer) 1 0
  pub terms : it.after.terms ≡ t.terms
  pub granted : it.after.granted ≡ t.granted
  pub beside : it.after.beside ≡ t.beside
  pub spends : t.spent ≤ it.after.spent

pub step_counted : (t : Tenant) (e : Event) → IsCounted t (step t e)
step_counted t e =
    let it = counts t (decided t e) in
    record { used = it.used ∙ ap (λ b. t.used + cond b 1 0) (sym (entry_told t e)); terms = it.terms; granted = it.granted; beside = it.beside; spends = it.spends }
