use Rattle.std.proofs.Common.{◌≡◌, ◌-◌, ◌<◌, ◌≤◌, ℕ, true, List, min, get_or, length, subst, sym, arith, ⊎_elim}
use Rattle.std.proofs.lemmas.Bool.{cases_eq, cases_lt}
use Rattle.mrcpsp.specs.Project.{size, successors, precedes}
use Rattle.mrcpsp.specs.Schedule.{start_of, finish}
use Rattle.mrcpsp.specs.Breach.{StartsEarly}
use Rattle.mrcpsp.proofs.BreachLemmas.{listed-precedes, early-listed}
use Rattle.mrcpsp.proofs.feasibility.early_successor.Goals as goal
use Rattle.mrcpsp.proofs.feasibility.early_successor.Goals.{then-start-end, else-start-end}

pub loop-successor-preserved : goal.loop-successor-preserved
loop-successor-preserved c =
    let p = c.args.fitting.now.project.now in let s = c.args.fitting.now.schedule.now in
    let so_far = c.loop-successor.invariant in
    let i = c.loop-successor.successor-index in
    let xs = c.successors-successor-items.result.now in
    let after : ℕ = get_or xs i 0 - 1 in
    let some = (c.successors-successor-items.ensures.later i 0 c.loop-successor-test.true).0 in
    elim c.if-start-end.branch [
      | then-start-end w ↦
          let now : w.min-first.result ≡ min c.loop-successor.first after = w.min-first.ensures in
          let follows : precedes p c.args.before after ≡ true = subst (λ (ys : List ℕ). precedes p c.args.before (get_or ys i 0 - 1) ≡ true) (sym c.successors-successor-items.ensures.exact) (listed-precedes p c.args.before i
          (subst (λ (ys : List ℕ). i < length ys) c.successors-successor-items.ensures.exact c.loop-successor-test.true)
          (subst (λ (ys : List ℕ). 0 < get_or ys i 0) c.successors-successor-items.ensures.exact (omega arith))) in
          let early : start_of s after < finish p s c.args.before = omega (arith, w.if-start-end.true, c.start.ensures.exact, c.finish-end.ensures.exact) in
          rw w.first-is
          (record {
            found = λ inside. ⊎_elim
                (λ (lower : after < c.loop-successor.first). let e : w.min-first.result ≡ after = omega (arith, now) in rw e (follows, early))
                (λ (higher : c.loop-successor.first ≤ after). let e : w.min-first.result ≡ c.loop-successor.first = omega (arith, now) in rw e (so_far.found (omega (arith, inside, e))))
                (cases_lt after c.loop-successor.first);
            least = λ k l begun. ⊎_elim
                (λ (e : k ≡ i). rw e (omega (arith, now)))
                (λ (ne : k ≡ i → ⊥). omega (arith, now, so_far.least k (omega arith) begun))
                (cases_eq k i);
          })
      | else-start-end w ↦
          rw w.first-is
          (record {
            found = so_far.found;
            least = λ k l begun. ⊎_elim
                (λ (e : k ≡ i). let here : start_of s after < finish p s c.args.before = rw e at begun in omega (arith, here, w.if-start-end.false, c.start.ensures.exact, c.finish-end.ensures.exact))
                (λ (ne : k ≡ i → ⊥). so_far.least k (omega arith) begun)
                (cases_eq k i);
          })
    ]

pub returns-then-first-size : goal.returns-then-first-size
returns-then-first-size c =
    let p = c.args.fitting.now.project.now in let s = c.args.fitting.now.schedule.now in
    let inside : c.loop-successor.first < size p = omega (arith, c.if-first-size.true, c.size-size.ensures.exact) in
    let least = early-listed p s c.args.before c.loop-successor.first (subst (λ (ys : List ℕ). (k : ℕ) → k < length ys → start_of s (get_or ys k 0 - 1) < finish p s c.args.before → c.loop-successor.first ≤ get_or ys k 0 - 1) c.successors-successor-items.ensures.exact (λ k l begun. c.loop-successor.invariant.least k (omega (arith, l, c.loop-successor-test.false)) begun)) in
    (inside, c.loop-successor.invariant.found inside, λ k l early. omega (arith, l, least k early))

pub returns-else-first-size : goal.returns-else-first-size
returns-else-first-size c =
    let p = c.args.fitting.now.project.now in let s = c.args.fitting.now.schedule.now in
    let least = early-listed p s c.args.before c.loop-successor.first (subst (λ (ys : List ℕ). (k : ℕ) → k < length ys → start_of s (get_or ys k 0 - 1) < finish p s c.args.before → c.loop-successor.first ≤ get_or ys k 0 - 1) c.successors-successor-items.ensures.exact (λ k l begun. c.loop-successor.invariant.least k (omega (arith, l, c.loop-successor-test.false)) begun)) in
    λ j l early. omega (arith, l, least j early, c.if-first-size.false, c.size-size.ensures.exact)
