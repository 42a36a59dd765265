use Rattle.std.proofs.Common.{◌≡◌, ℕ, true, ◌+◌, ◌-◌, Option, Some, arith, refl, sym, ap, ◌∙◌, subst}
use Rattle.strategy.specs.Outcome.{is_closed}
use Rattle.strategy.specs.Tree.{is_too_late}
use Rattle.tree_search.specs.Search.{StandsAt}
use Rattle.tree_search.specs.Tree.{IsTree, best_in}
use Rattle.tree_search.specs.declared.search.Tree as stack
use Rattle.tree_search.specs.declared.cursor.Cursor.{Cursor}
use Rattle.tree_search.specs.declared.incumbent.Incumbent.{Incumbent}
use Rattle.tree_search.proofs.ShownLemmas.{RunsTo, at_bound, over_all, over_bound, run_on, tree_later}
use Rattle.tree_search.proofs.search.Tree.run_with.Goals as goal
use Rattle.tree_search.proofs.search.Tree.run_with.Goals.{then-left-eq0-via-then-left-eq0, then-left-eq0-via-else-left-eq0+then-is_reached_now}

pub returns-then-is_reached-clause-over : goal.returns-then-is_reached-clause-over
returns-then-is_reached-clause-over c plan k at some =
    let t : stack.Tree = c.args.self.now in
    let same : k ≡ k + 0 = omega arith in
    subst (λ (n : ℕ). is_closed plan n ≡ true) same (over_bound plan k t at (at_bound plan k t at ∙ sym (c.is_reached.ensures plan.project at.tree.incumbent) ∙ c.if-is_reached.true))

pub returns-in_default-clause-over : goal.returns-in_default-clause-over
returns-in_default-clause-over c plan k at some =
    let same : k ≡ k + 0 = omega arith in
    subst (λ (n : ℕ). is_closed plan n ≡ true) same (over_all plan k c.args.self.now at c.in_default.is)

pub returns-in_default-top-clause-going : goal.returns-in_default-top-clause-going
returns-in_default-top-clause-going c plan k at =
    let most = c.args.most in
    let left = c.loop-next.left in
    let t : stack.Tree = record c.loop-next.self { top = Some c.loop-next.candidate } in
    let visited = c.visit-visited in
    let ran = visited.result.ran in
    let later : stack.Tree = record { path = visited.new.path; top = visited.result.top; incumbent = visited.new.incumbent; bound = t.bound; width = t.width } in
    let so_far = c.loop-next.invariant in
    let here = so_far.here plan k at in
    let kept : IsTree plan.project later = tree_later plan.project t later here.tree visited.ensures.project refl refl visited.ensures.early visited.ensures.incumbent visited.ensures.top in
    let runs : RunsTo plan.project t ran later = rw here.tree.own at visited.ensures.nodes in
    let both = run_on plan k (most - left) ran t later here kept runs (so_far.above plan k at) (so_far.going plan k at) in
    let same : most - left + ran ≡ most - (left - ran) = omega (arith, so_far.within, visited.ensures.few) in
    (rw same at both).1

pub returns-in_default-top-clause-over : goal.returns-in_default-top-clause-over
returns-in_default-top-clause-over c plan k at few =
    let most = c.args.most in
    let left = c.loop-next.left in
    let t : stack.Tree = record c.loop-next.self { top = Some c.loop-next.candidate } in
    let visited = c.visit-visited in
    let ran = visited.result.ran in
    let later : stack.Tree = record { path = visited.new.path; top = visited.result.top; incumbent = visited.new.incumbent; bound = t.bound; width = t.width } in
    let so_far = c.loop-next.invariant in
    let here = so_far.here plan k at in
    let kept : IsTree plan.project later = tree_later plan.project t later here.tree visited.ensures.project refl refl visited.ensures.early visited.ensures.incumbent visited.ensures.top in
    let runs : RunsTo plan.project t ran later = rw here.tree.own at visited.ensures.nodes in
    let both = run_on plan k (most - left) ran t later here kept runs (so_far.above plan k at) (so_far.going plan k at) in
    let same : most - left + ran ≡ most - (left - ran) = omega (arith, so_far.within, visited.ensures.few) in
    over_all plan (k + (most - (left - ran))) later (rw same at both).0 c.in_default-top.is

pub returns-then-left-eq0-clause-ran : goal.returns-then-left-eq0-clause-ran
returns-then-left-eq0-clause-ran c plan k at =
    let most = c.args.most in
    let left = c.loop-next.left in
    let t : stack.Tree = record c.loop-next.self { top = Some c.loop-next.candidate } in
    let visited = c.visit-visited in
    let ran = visited.result.ran in
    let later : stack.Tree = record { path = visited.new.path; top = visited.result.top; incumbent = visited.new.incumbent; bound = t.bound; width = t.width } in
    let so_far = c.loop-next.invariant in
    let here = so_far.here plan k at in
    let kept : IsTree plan.project later = tree_later plan.project t later here.tree visited.ensures.project refl refl visited.ensures.early visited.ensures.incumbent visited.ensures.top in
    let runs : RunsTo plan.project t ran later = rw here.tree.own at visited.ensures.nodes in
    let both = run_on plan k (most - left) ran t later here kept runs (so_far.above plan k at) (so_far.going plan k at) in
    let same : most - left + ran ≡ most - (left - ran) = omega (arith, so_far.within, visited.ensures.few) in
    subst (λ (x : Option Cursor). StandsAt (record later { top = x }) plan (k + (most - (left - ran)))) c.in-Some-top.is (rw same at both).0

pub returns-then-left-eq0-clause-going : goal.returns-then-left-eq0-clause-going
returns-then-left-eq0-clause-going c plan k at =
    let most = c.args.most in
    let left = c.loop-next.left in
    let t : stack.Tree = record c.loop-next.self { top = Some c.loop-next.candidate } in
    let visited = c.visit-visited in
    let ran = visited.result.ran in
    let later : stack.Tree = record { path = visited.new.path; top = visited.result.top; incumbent = visited.new.incumbent; bound = t.bound; width = t.width } in
    let so_far = c.loop-next.invariant in
    let here = so_far.here plan k at in
    let kept : IsTree plan.project later = tree_later plan.project t later here.tree visited.ensures.project refl refl visited.ensures.early visited.ensures.incumbent visited.ensures.top in
    let runs : RunsTo plan.project t ran later = rw here.tree.own at visited.ensures.nodes in
    let both = run_on plan k (most - left) ran t later here kept runs (so_far.above plan k at) (so_far.going plan k at) in
    let same : most - left + ran ≡ most - (left - ran) = omega (arith, so_far.within, visited.ensures.few) in
    (rw same at both).1

pub returns-then-left-eq0-clause-over : goal.returns-then-left-eq0-clause-over
returns-then-left-eq0-clause-over c plan k at few =
    let most = c.args.most in
    let left = c.loop-next.left in
    let t : stack.Tree = record c.loop-next.self { top = Some c.loop-next.candidate } in
    let visited = c.visit-visited in
    let ran = visited.result.ran in
    let later : stack.Tree = record { path = visited.new.path; top = visited.result.top; incumbent = visited.new.incumbent; bound = t.bound; width = t.width } in
    let so_far = c.loop-next.invariant in
    let here = so_far.here plan k at in
    let kept : IsTree plan.project later = tree_later plan.project t later here.tree visited.ensures.project refl refl visited.ensures.early visited.ensures.incumbent visited.ensures.top in
    let runs : RunsTo plan.project t ran later = rw here.tree.own at visited.ensures.nodes in
    let both = run_on plan k (most - left) ran t later here kept runs (so_far.above plan k at) (so_far.going plan k at) in
    let same : most - left + ran ≡ most - (left - ran) = omega (arith, so_far.within, visited.ensures.few) in
    elim c.then-left-eq0.branch [
      | then-left-eq0-via-then-left-eq0 w ↦ absurd (omega (arith, w.if-left-eq0.true, few))
      | then-left-eq0-via-else-left-eq0+then-is_reached_now w ↦
          let there = (rw same at both).0 in
          let late = w.is_reached_now.ensures plan.project kept.incumbent (λ full. ap (λ (i : Incumbent). is_too_late plan.project (best_in i) t.bound) (visited.ensures.same full) ∙ sym (at_bound plan (k + (most - left)) t here) ∙ so_far.above plan k at) in
          over_bound plan (k + (most - (left - ran))) later there (at_bound plan (k + (most - (left - ran))) later there ∙ sym late ∙ w.if-is_reached_now.true)
    ]

pub loop-next-preserved : goal.loop-next-preserved
loop-next-preserved c =
    let most = c.args.most in
    let left = c.loop-next.left in
    let t : stack.Tree = record c.loop-next.self { top = Some c.loop-next.candidate } in
    let visited = c.visit-visited in
    let ran = visited.result.ran in
    let later : stack.Tree = record { path = visited.new.path; top = visited.result.top; incumbent = visited.new.incumbent; bound = t.bound; width = t.width } in
    let so_far = c.loop-next.invariant in
    record {
      within = omega (arith, so_far.within);
      some = omega (arith, c.if-left-eq0.false);
      wide = so_far.wide;
      here = λ plan k at.
          let here = so_far.here plan k at in
          let kept : IsTree plan.project later = tree_later plan.project t later here.tree visited.ensures.project refl refl visited.ensures.early visited.ensures.incumbent visited.ensures.top in
          let runs : RunsTo plan.project t ran later = rw here.tree.own at visited.ensures.nodes in
          let both = run_on plan k (most - left) ran t later here kept runs (so_far.above plan k at) (so_far.going plan k at) in
          let same : most - left + ran ≡ most - (left - ran) = omega (arith, so_far.within, visited.ensures.few) in
          subst (λ (x : Option Cursor). StandsAt (record later { top = x }) plan (k + (most - (left - ran)))) c.in-Some-top.is (rw same at both).0;
      above = λ plan k at.
          let here = so_far.here plan k at in
          let kept : IsTree plan.project later = tree_later plan.project t later here.tree visited.ensures.project refl refl visited.ensures.early visited.ensures.incumbent visited.ensures.top in
          let runs : RunsTo plan.project t ran later = rw here.tree.own at visited.ensures.nodes in
          let both = run_on plan k (most - left) ran t later here kept runs (so_far.above plan k at) (so_far.going plan k at) in
          let same : most - left + ran ≡ most - (left - ran) = omega (arith, so_far.within, visited.ensures.few) in
          let late = c.is_reached_now.ensures plan.project kept.incumbent (λ full. ap (λ (i : Incumbent). is_too_late plan.project (best_in i) t.bound) (visited.ensures.same full) ∙ sym (at_bound plan (k + (most - left)) t here) ∙ so_far.above plan k at) in
          at_bound plan (k + (most - left + ran)) later both.0 ∙ sym late ∙ c.if-is_reached_now.false;
      going = λ plan k at.
          let here = so_far.here plan k at in
          let kept : IsTree plan.project later = tree_later plan.project t later here.tree visited.ensures.project refl refl visited.ensures.early visited.ensures.incumbent visited.ensures.top in
          let runs : RunsTo plan.project t ran later = rw here.tree.own at visited.ensures.nodes in
          let both = run_on plan k (most - left) ran t later here kept runs (so_far.above plan k at) (so_far.going plan k at) in
          let same : most - left + ran ≡ most - (left - ran) = omega (arith, so_far.within, visited.ensures.few) in
          (rw same at both).1;
    }
