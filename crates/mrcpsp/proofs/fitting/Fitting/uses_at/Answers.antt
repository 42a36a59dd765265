use Rattle.std.proofs.Common.{◌≡◌, ◌+◌, ◌<◌, ◌≤◌, ℕ, get_or, arith, ⊎_elim}
use Rattle.std.proofs.lemmas.Bool.{both_ways, cases_lt}
use Rattle.mrcpsp.specs.Numbers.{sum_below}
use Rattle.mrcpsp.specs.Project.{size}
use Rattle.mrcpsp.specs.Schedule.{load, mode_of, start_of, finish}
use Rattle.mrcpsp.proofs.NumbersLemmas.{sum_below-more}
use Rattle.mrcpsp.proofs.ProjectLemmas.{load-running, load-before, load-over}
use Rattle.mrcpsp.proofs.fitting.Fitting.uses_at.Goals as goal
use Rattle.mrcpsp.proofs.fitting.Fitting.uses_at.Goals.{then-is_running, else-is_running}

pub loop-activity-preserved : goal.loop-activity-preserved
unfolding finish
loop-activity-preserved c =
    let p = c.args.self.now.project.now in let s = c.args.self.now.schedule.now in
    let t : ℕ = c.args.period in
    let j = c.loop-activity.activity in
    let so_far = c.loop-activity.invariant in
    let inside : j < size p = omega (arith, c.loop-activity-test.true, c.loop-activity.auto.activity-end, c.size-activity-end.ensures.exact) in
    let end : get_or c.args.finishes.now j 0 ≡ finish p s j = c.requires j inside in
    let start : c.start.result ≡ start_of s j = c.start.ensures.exact in
    let at : ℕ → ℕ → ℕ = λ r i. load p r t i (mode_of s i) (start_of s i) in
    let more : (r : ℕ) → sum_below (at r) (j + 1) ≡ sum_below (at r) j + at r j = λ r. sum_below-more (at r) j in
    elim c.if-is_running.branch [
      | then-is_running w ↦
          let run = c.is_running.ensures.0 w.if-is_running.true in
          let ends_later : t < finish p s j = omega (arith, run.1) in
          let added = w.add_requests.ensures in
          rw w.uses-is
          (record {
            fit = w.add_requests.array_long;
            sums = λ r l. omega (arith, more r, so_far.sums r l, added.sums r l, load-running p r t j (mode_of s j) (start_of s j) (omega (arith, run.0)) ends_later);
            few = λ r. omega (arith, so_far.few r, added.few r);
          })
      | else-is_running w ↦
          let idle : (r : ℕ) → at r j ≡ 0 = λ r.
          ⊎_elim (λ (early : t < start_of s j). load-before p r t j (mode_of s j) (start_of s j) early)
          (λ (begun : start_of s j ≤ t).
          ⊎_elim (λ (run : t < finish p s j). absurd (both_ways c.is_running.result w.if-is_running.false (c.is_running.ensures.1 (omega arith, omega arith))))
          (λ (over : finish p s j ≤ t). load-over p r t j (mode_of s j) (start_of s j) over)
          (cases_lt t (finish p s j)))
          (cases_lt t (start_of s j)) in
          rw w.uses-is
          (record {
            fit = so_far.fit;
            sums = λ r l. omega (arith, more r, so_far.sums r l, idle r);
            few = λ r. omega (arith, so_far.few r);
          })
    ]
