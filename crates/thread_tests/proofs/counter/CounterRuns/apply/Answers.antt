use Rattle.std.proofs.Common.{◌+◌, Some, refl, ap, sym, ◌∙◌, subst}
use Rattle.thread_tests.specs.declared.counter.Added.{Added}
use Rattle.thread_tests.specs.declared.counter.Ask.{Ask}
use Rattle.thread_tests.specs.declared.counter.Reply.TheVariants.{Is}
use Rattle.thread_tests.specs.Counting.{total, Counted}
use Rattle.thread_tests.proofs.Totals.{total-push}
use Rattle.thread_tests.proofs.counter.CounterRuns.apply.Goals as goal

pub invariant_of-self : goal.invariant_of-self
invariant_of-self c =
    let it = c.args.self.now in
    let k = c.in-Add.amount in
    let e : Added = record { amount = k } in
    record { replays = ap (λ n. n + k) it.replays ∙ (sym (total-push it.start it.history.items e) ∙ ap (total it.start) (sym c.in-Ok.ensures.items)) }

pub returns-in-Ok : goal.returns-in-Ok
returns-in-Ok c =
    let it = c.args.self.now in
    let k = c.in-Add.amount in
    let e : Added = record { amount = k } in
    (refl, (Some e, c.in-Ok.ensures.items, subst (λ (call : Ask). Counted it.start it.history.items call (Some e) (Is (it.sum + k))) (sym c.in-Add.is) (refl, ap (λ n. n + k) it.replays)))
