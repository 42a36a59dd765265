use Rattle.std.proofs.Common.{◌≡◌, ◌<◌, ◌∷◌, All, get_or, arith, sym, ap, ◌∙◌, true, false}
use Rattle.std.proofs.lemmas.List.Elements.{All-head, All-tail}
use Rattle.mrcpsp.specs.Project.{size}
use Rattle.strategy.specs.Pass.{activity_at}
use Rattle.rule_search.specs.Rule.{is_ahead}
use Rattle.rule_search.proofs.OrderLemmas.{first_alone, stays_more, changes_more, first_of_all}
use Rattle.rule_search.proofs.ChoiceLemmas.{rule_order, rule_finds, measured_all}
use Rattle.rule_search.proofs.choice.first_activity.Goals as goal
use Rattle.rule_search.proofs.choice.first_activity.Goals.{then-not-is_ahead, else-not-is_ahead}

pub loop-activity-init : goal.loop-activity-init
loop-activity-init c =
    let p = c.args.pass.now.project in let head = c.in_ok-head.head.now in let rest = c.in_ok-head.rest.now in
    let inside : All (λ j. j < size p) (head ∷ rest) = rw c.in_ok-head.ensures.cases.0 at c.eligible.ensures.inside in
    record {
      best = first_alone (is_ahead p c.args.kind) (rule_order p c.args.kind c.requires.rule) head;
      inside = All-head (λ j. j < size p) head rest inside;
      others = All-tail (λ j. j < size p) head rest inside;
    }

pub is_ahead-requires-clause-one : goal.is_ahead-requires-clause-one
is_ahead-requires-clause-one c = omega (arith, c.loop-activity.invariant.inside, measured_all c.args.pass.now.project c.args.measures.now c.requires.measured)

pub is_ahead-requires-clause-other : goal.is_ahead-requires-clause-other
is_ahead-requires-clause-other c =
    omega (arith, c.loop-activity.invariant.others c.loop-activity.activity-index 0 c.loop-activity-test.true, measured_all c.args.pass.now.project c.args.measures.now c.requires.measured)

pub loop-activity-preserved : goal.loop-activity-preserved
loop-activity-preserved c =
    let p = c.args.pass.now.project in let ahead = is_ahead p c.args.kind in
    let head = c.in_ok-head.head.now in let rest = c.in_ok-head.rest.now in
    let i = c.loop-activity.activity-index in let first = c.loop-activity.first in
    let so_far = c.loop-activity.invariant in
    let tested : c.is_ahead.result ≡ is_ahead p c.args.kind first (get_or rest i 0) = c.is_ahead.ensures p c.requires.measured in
    elim c.if-not-is_ahead.branch [
      | then-not-is_ahead w ↦
          let behind : c.is_ahead.result ≡ false = w.if-not-is_ahead.true in
          record {
            best = rw w.first-is (changes_more ahead (rule_order p c.args.kind c.requires.rule) head rest i first c.loop-activity-test.true so_far.best (sym tested ∙ behind));
            inside = rw w.first-is (so_far.others i 0 c.loop-activity-test.true);
            others = so_far.others;
          }
      | else-not-is_ahead w ↦
          let in_front : c.is_ahead.result ≡ true = w.if-not-is_ahead.false in
          record {
            best = rw w.first-is (stays_more ahead head rest i first c.loop-activity-test.true so_far.best (sym tested ∙ in_front));
            inside = rw w.first-is so_far.inside;
            others = so_far.others;
          }
    ]

pub returns-clause-exact : goal.returns-clause-exact
returns-clause-exact c i =
    let p = c.args.pass.now.project in let xs = c.eligible.result.now in
    sym (first_of_all (is_ahead p c.args.kind) xs c.in_ok-head.head.now c.in_ok-head.rest.now c.loop-activity.activity-index c.loop-activity.first c.in_ok-head.ensures.cases.0 c.loop-activity-test.false c.loop-activity.invariant.best)
    ∙ rule_finds p c.args.kind i xs c.requires.rule
    ∙ ap (activity_at p c.args.kind i) c.eligible.ensures.exact
