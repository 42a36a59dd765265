use Rattle.std.proofs.Common.{◌≡◌, ℕ, ◌+◌, ◌≤◌, ◌↔◌, min, arith, sym, ap, ◌∙◌}
use Rattle.mrcpsp.specs.Project.{size}
use Rattle.mrcpsp.specs.Schedule.{start_of, finish}
use Rattle.plan_cli.specs.Slack.{MayMove}
use Rattle.plan_cli.proofs.SlackLemmas.{finish_within, may_first, may_next, may_other, slack_is}
use Rattle.plan_cli.proofs.slack.slack_of.Goals.{then-precedes, else-precedes}
use Rattle.plan_cli.proofs.slack.slack_of.Goals as goal

pub loop-after-init : goal.loop-after-init
loop-after-init c =
    let p = c.args.fitting.now.project.now in
    let s = c.args.fitting.now.schedule.now in
    rw (c.finish-finish.ensures.exact, c.makespan-latest.ensures) (finish_within p s c.args.activity c.requires.activity, λ e. may_first p s c.args.activity e)

pub loop-after-preserved : goal.loop-after-preserved
loop-after-preserved c =
    let p = c.args.fitting.now.project.now in
    let s = c.args.fitting.now.schedule.now in
    let j = c.args.activity in
    let n = c.loop-after.after in
    let latest = c.loop-after.latest in
    let f : c.finish-finish.result ≡ finish p s j = c.finish-finish.ensures.exact in
    let le : finish p s j ≤ latest = rw f at c.loop-after.invariant.0 in
    let may : (e : ℕ) → (finish p s j + e ≤ latest) ↔ MayMove p s j n e = rw f at c.loop-after.invariant.1 in
    elim c.if-precedes.branch [
      | then-precedes w ↦
          let next : c.if-precedes.latest ≡ min latest (start_of s n) = w.latest-is ∙ w.min-latest.ensures ∙ ap (λ k. min latest k) w.start.ensures.exact in
          let starts : finish p s j ≤ start_of s n = c.requires.feasible.precedence j n c.requires.activity (omega (arith, c.loop-after-test.true, c.loop-after.auto.after-end, c.size-after-end.ensures.exact)) (sym w.if-precedes.ensures) in
          rw (next, f) (omega (arith, le, starts), may_next p s j n latest (sym w.if-precedes.ensures) may)
      | else-precedes w ↦ rw (w.latest-is, f) (le, may_other p s j n latest (sym w.if-precedes.ensures) may)
    ]

pub returns : goal.returns
returns c =
    let p = c.args.fitting.now.project.now in
    let s = c.args.fitting.now.schedule.now in
    let j = c.args.activity in
    let f : c.finish-finish.result ≡ finish p s j = c.finish-finish.ensures.exact in
    let all : c.loop-after.after ≡ size p = omega (arith, c.loop-after-test.false, c.loop-after.auto.after-end, c.size-after-end.ensures.exact) in
    let le : finish p s j ≤ c.loop-after.latest = rw f at c.loop-after.invariant.0 in
    let may : (e : ℕ) → (finish p s j + e ≤ c.loop-after.latest) ↔ MayMove p s j (size p) e = rw (f, all) at c.loop-after.invariant.1 in
    rw f (slack_is p s j (size p) c.loop-after.latest le may)
