use Rattle.std.proofs.Common.{◌<◌, ◌∷◌, ◌∙◌, All, nat_le, sym}
use Rattle.std.proofs.lemmas.List.Elements.{All-head, All-tail}
use Rattle.mrcpsp.specs.Project.{mode_count, duration}
use Rattle.rule_search.proofs.OrderLemmas.{least_order, first_alone, stays_more, changes_more, first_of_all}
use Rattle.rule_search.proofs.choice.first_mode.Goals as goal
use Rattle.rule_search.proofs.choice.first_mode.Goals.{then-not-is_as_short, else-not-is_as_short}

pub loop-mode-init : goal.loop-mode-init
loop-mode-init c =
    let p = c.args.project.now in let j = c.args.activity in let head = c.in_ok-head.head.now in let rest = c.in_ok-head.rest.now in
    let inside : All (λ m. m < mode_count p j) (head ∷ rest) = rw c.in_ok-head.ensures.cases.0 at c.requires.modes in
    record {
      best = first_alone (λ x y. nat_le (duration p j x) (duration p j y)) (least_order (duration p j)) head;
      inside = All-head (λ m. m < mode_count p j) head rest inside;
      others = All-tail (λ m. m < mode_count p j) head rest inside;
    }

pub loop-mode-preserved : goal.loop-mode-preserved
loop-mode-preserved c =
    let p = c.args.project.now in let j = c.args.activity in let head = c.in_ok-head.head.now in let rest = c.in_ok-head.rest.now in
    let i = c.loop-mode.mode-index in let first = c.loop-mode.first in let so_far = c.loop-mode.invariant in
    elim c.if-not-is_as_short.branch [
      | then-not-is_as_short w ↦ record {
        best = rw w.first-is (changes_more (λ x y. nat_le (duration p j x) (duration p j y)) (least_order (duration p j)) head rest i first c.loop-mode-test.true so_far.best (sym c.is_as_short.ensures ∙ w.if-not-is_as_short.true));
        inside = rw w.first-is (so_far.others i 0 c.loop-mode-test.true);
        others = so_far.others;
      }
      | else-not-is_as_short w ↦ record {
        best = rw w.first-is (stays_more (λ x y. nat_le (duration p j x) (duration p j y)) head rest i first c.loop-mode-test.true so_far.best (sym c.is_as_short.ensures ∙ w.if-not-is_as_short.false));
        inside = rw w.first-is so_far.inside;
        others = so_far.others;
      }
    ]

pub returns : goal.returns
returns c =
    let p = c.args.project.now in let j = c.args.activity in
    sym (first_of_all (λ x y. nat_le (duration p j x) (duration p j y)) c.args.modes.now c.in_ok-head.head.now c.in_ok-head.rest.now c.loop-mode.mode-index c.loop-mode.first c.in_ok-head.ensures.cases.0 c.loop-mode-test.false c.loop-mode.invariant.best)
