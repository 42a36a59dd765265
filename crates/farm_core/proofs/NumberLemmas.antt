-- A step gives the next number, or none.
use Rattle.std.proofs.Common.{◌≡◌, ℕ, ◌+◌, ◌≤◌, sym, ap, arith}
use Rattle.farm_core.specs.declared.entry.Event.{Event}
use Rattle.farm_core.specs.declared.reply.Reply.{Reply}
use Rattle.farm_core.specs.declared.reply.Reply.TheVariants as reply
use Rattle.farm_core.specs.Tenant.{Tenant}
use Rattle.farm_core.specs.Step.{Replied, Step, done, step}
use Rattle.farm_core.proofs.DecisionLemmas.{Tells, each_decision}

-- a call that makes a job gives it the next number, and counts on
pub record IsNumbered (t : Tenant) (s : Step) : Type 0 where
  pub grows : t.next ≤ s.after.next
  pub gives : (n : ℕ) → s.answer ≡ Replied (reply.Job n) → (n ≡ t.next) × (s.after.next ≡ n + 1)

-- a note is of no job that was made
note_makes : (t : Tenant) (answer : Reply) (n : ℕ) → Tells t answer → Replied answer ≡ Replied (reply.Job n) → ⊥
note_makes t (reply.Job m) n tells is = tells
note_makes t answer n tells is = absurd (cc)

pub step_numbered : (t : Tenant) (e : Event) → IsNumbered t (step t e)
step_numbered t =
    each_decision t (λ e f. IsNumbered t (done t f))
    (record {
      full = λ e. record { grows = omega arith; gives = λ n is. absurd (cc) };
      idle = λ e. record { grows = omega arith; gives = λ n is. absurd (cc) };
      notes = λ e answer room it. record { grows = omega arith; gives = λ n is. absurd (note_makes t answer n it.tells is) };
      adds = λ plan quanta room some. record { grows = omega arith; gives = λ n is. let same : t.next ≡ n = cc in (sym same, ap (λ k. k + 1) same) };
      funds = λ s quanta job room found can. record { grows = omega arith; gives = λ n is. absurd (cc) };
      cancels = λ s job new room found gone. record { grows = omega arith; gives = λ n is. absurd (cc) };
      drops = λ s job room found ended. record { grows = omega arith; gives = λ n is. absurd (cc) };
      takes = λ s slice job room found waits. record { grows = omega arith; gives = λ n is. absurd (cc) };
      gives = λ s ran job found may. record { grows = omega arith; gives = λ n is. absurd (cc) };
    })
