-- How far an activity may move, by one more activity.
use Rattle.std.proofs.Common.{◌≡◌, ℕ, ◌+◌, ◌-◌, ◌<◌, ◌≤◌, ◌↔◌, true, false, min, arith, ⊎_elim}
use Rattle.std.proofs.lemmas.Bool.{cases_eq}
use Rattle.mrcpsp.specs.Project.{ProjectData, size, precedes}
use Rattle.mrcpsp.specs.Schedule.{ScheduleData, start_of, finish, makespan}
use Rattle.mrcpsp.proofs.NumbersLemmas.{at-le-max_below}
use Rattle.plan_cli.specs.Slack.{MayMove, IsSlackBy}

pub finish_within : (p : ProjectData) (s : ScheduleData) (j : ℕ) → j < size p → finish p s j ≤ makespan p s
unfolding makespan
finish_within p s j l = at-le-max_below (finish p s) (size p) j l

-- before any other activity was looked at
pub may_first : (p : ProjectData) (s : ScheduleData) (j e : ℕ) → (finish p s j + e ≤ makespan p s) ↔ MayMove p s j 0 e
may_first p s j e = (λ h. record { within = h; before = λ k lt is. absurd (omega arith) }, λ m. m.within)

-- activity n is a successor
pub may_next : (p : ProjectData) (s : ScheduleData) (j n latest : ℕ) → precedes p j n ≡ true → ((e : ℕ) → (finish p s j + e ≤ latest) ↔ MayMove p s j n e)
    → (e : ℕ) → (finish p s j + e ≤ min latest (start_of s n)) ↔ MayMove p s j (n + 1) e
may_next p s j n latest is h e = (
  λ (le : finish p s j + e ≤ min latest (start_of s n)).
      let m : MayMove p s j n e = (h e).0 (omega (arith, le)) in
      record {
        within = m.within;
        before = λ k lt pre. ⊎_elim (λ (same : k ≡ n). rw same (omega (arith, le))) (λ (ne : k ≡ n → ⊥). m.before k (omega arith) pre) (cases_eq k n);
      },
  λ m.
      let shorter : MayMove p s j n e = record { within = m.within; before = λ k lt pre. m.before k (omega arith) pre } in
      omega (arith, (h e).1 shorter, m.before n (omega arith) is),
)

-- activity n is none
pub may_other : (p : ProjectData) (s : ScheduleData) (j n latest : ℕ) → precedes p j n ≡ false → ((e : ℕ) → (finish p s j + e ≤ latest) ↔ MayMove p s j n e)
    → (e : ℕ) → (finish p s j + e ≤ latest) ↔ MayMove p s j (n + 1) e
may_other p s j n latest none h e = (
  λ le.
      let m : MayMove p s j n e = (h e).0 le in
      record {
        within = m.within;
        before = λ k lt pre.
            ⊎_elim (λ (same : k ≡ n). absurd (let is : precedes p j n ≡ true = rw same at pre in cc)) (λ (ne : k ≡ n → ⊥). m.before k (omega arith) pre) (cases_eq k n);
      },
  λ m.
      let shorter : MayMove p s j n e = record { within = m.within; before = λ k lt pre. m.before k (omega arith) pre } in
      (h e).1 shorter,
)

-- all activities were looked at
pub slack_is : (p : ProjectData) (s : ScheduleData) (j n latest : ℕ) → finish p s j ≤ latest → ((e : ℕ) → (finish p s j + e ≤ latest) ↔ MayMove p s j n e)
    → IsSlackBy p s j n (latest - finish p s j)
slack_is p s j n latest le h = record { may = (h (latest - finish p s j)).0 (omega arith); most = λ e m. omega (arith, (h e).1 m) }
