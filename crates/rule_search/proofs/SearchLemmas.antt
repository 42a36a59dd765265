-- The state of a rule's pass, and what it shows.
use Rattle.std.proofs.Common.{◌≡◌, ℕ, ◌+◌, ◌*◌, ◌<◌, true, false, nat_le, nat_lt, List, [], length, Option, Some, None, IfSome, option_map, arith, refl, sym, ap, subst, ◌∙◌}
use Rattle.std.proofs.lemmas.Bool.{leb-true, leb-false, cond-true, cond-false, lt-ltb, le-ltb}
use Rattle.mrcpsp.specs.Project.{ProjectData, size}
use Rattle.mrcpsp.specs.Schedule.{makespan}
use Rattle.mrcpsp.specs.Placed.{Placed, latest, schedule_of}
use Rattle.strategy.specs.Pass.{placed_after, pass}
use Rattle.strategy.specs.Outcome.{rule_best, best_of, all_run, best_after}
use Rattle.strategy.specs.declared.plan.Plan.{Plan}
use Rattle.strategy.specs.declared.kind.Kind.{Kind}
use Rattle.strategy.specs.declared.kind.Kind.TheVariants.{Tree, RuleLft, RuleMts, RuleSpt, Sample}
use Rattle.serial_pass.specs.Pass.{PassData, after_node}
use Rattle.serial_pass.proofs.PassLemmas.{after-node_more, after-length}
use Rattle.rule_search.specs.Rule.{IsRule}
use Rattle.rule_search.specs.Search.{StandsAt}
use Rattle.rule_search.specs.declared.search.RulePass.{RulePass}

-- ---- the kinds that are rules

all_by_rule : (p : ProjectData) (kind : Kind) (k : ℕ) → IsRule kind → all_run p kind k ≡ nat_le (size p) k
all_by_rule p Tree k rule = absurd rule
all_by_rule p RuleLft k rule = refl
all_by_rule p RuleMts k rule = refl
all_by_rule p RuleSpt k rule = refl
all_by_rule p (Sample seed) k rule = absurd rule

best_by_rule : (p : ProjectData) (kind : Kind) (k : ℕ) → IsRule kind → best_of p kind k ≡ rule_best p kind k
best_by_rule p Tree k rule = absurd rule
best_by_rule p RuleLft k rule = refl
best_by_rule p RuleMts k rule = refl
best_by_rule p RuleSpt k rule = refl
best_by_rule p (Sample seed) k rule = absurd rule

-- ---- the best schedule

pub best_before : (plan : Plan) (k : ℕ) → IsRule plan.kind → k < size plan.project → best_after plan k ≡ None
unfolding best_after
best_before plan k rule early =
    best_by_rule plan.project plan.kind k rule ∙ cond-true (nat_lt k (size plan.project)) None (pass plan.project plan.kind 0) (lt-ltb k (size plan.project) early)

best_whole : (plan : Plan) (k : ℕ) → IsRule plan.kind → k ≡ size plan.project → option_map (schedule_of (size plan.project)) (placed_after plan.project plan.kind k 0 []) ≡ best_after plan k
unfolding best_after pass
best_whole plan k rule whole =
    let p = plan.project in let kind = plan.kind in
    let first : 0 * size p ≡ 0 = omega arith in
    let shown : best_of p kind k ≡ pass p kind 0 = best_by_rule p kind k rule ∙ cond-false (nat_lt k (size p)) None (pass p kind 0) (le-ltb k (size p) (omega arith)) in
    let done : option_map (schedule_of (size p)) (placed_after p kind (size p) 0 []) ≡ pass p kind 0 = ap (λ i. option_map (schedule_of (size p)) (placed_after p kind (size p) i [])) (sym first) in
    ap (λ n. option_map (schedule_of (size p)) (placed_after p kind n 0 [])) whole ∙ done ∙ sym shown

-- all activities are placed
placed_whole : (plan : Plan) (k : ℕ) (placed : Option (List Placed)) → placed ≡ placed_after plan.project plan.kind k 0 [] → k ≡ size plan.project → IfSome placed (λ now. length now ≡ size plan.project)
placed_whole plan k placed at whole =
    let p = plan.project in
    let long : IfSome (placed_after p plan.kind k 0 []) (λ now. length now ≡ length {A = Placed} [] + k) = after-length p plan.kind k 0 [] in
    let all : length {A = Placed} [] + k ≡ size p = omega (arith, whole) in
    rw at (subst (λ m. IfSome (placed_after p plan.kind k 0 []) (λ now. length now ≡ m)) all long)

-- the latest finish of a whole pass is its schedule's makespan
makespan_whole : (p : ProjectData) (placed : Option (List Placed)) (told : Option ℕ) → IfSome placed (λ now. length now ≡ size p) → told ≡ option_map (latest p) placed
    → IfSome placed (λ now. length now ≡ size p → told ≡ Some (makespan p (schedule_of (size p) now))) → told ≡ option_map (makespan p) (option_map (schedule_of (size p)) placed)
makespan_whole p None told long exact whole = exact
makespan_whole p (Some now) told long exact whole = whole long

-- ---- the state of the pass

pub all_shown : (r : RulePass) (plan : Plan) (k : ℕ) → StandsAt r plan k → nat_le r.size r.nodes ≡ all_run plan.project plan.kind k
all_shown r plan k at = ap (λ n. nat_le n r.nodes) at.all ∙ ap (nat_le (size plan.project)) at.count ∙ sym (all_by_rule plan.project plan.kind k at.rule)

-- before its end there is no schedule
pub none_shown : (r : RulePass) (plan : Plan) (k : ℕ) → StandsAt r plan k → nat_le r.size r.nodes ≡ false → best_after plan k ≡ None
none_shown r plan k at early = best_before plan k at.rule (omega (arith, leb-false r.size r.nodes early, at.all, at.count))

-- at its end there is the schedule of the pass
pub whole_shown : (r : RulePass) (plan : Plan) (k : ℕ) (told : Option ℕ) → StandsAt r plan k → nat_le r.size r.nodes ≡ true → told ≡ option_map (latest r.pass.project) r.pass.placed
    → IfSome r.pass.placed (λ now. length now ≡ size r.pass.project → told ≡ Some (makespan r.pass.project (schedule_of (size r.pass.project) now))) → told ≡ option_map (makespan plan.project) (best_after plan k)
whole_shown r plan k told at whole exact known =
    let p = plan.project in
    let last : k ≡ size p = omega (arith, leb-true r.size r.nodes whole, at.all, at.count, at.within) in
    makespan_whole p r.pass.placed told (placed_whole plan k r.pass.placed at.placed last) (rw at.project at exact) (rw at.project at known)
    ∙ ap (option_map (makespan p)) (ap (option_map (schedule_of (size p))) at.placed ∙ best_whole plan k at.rule last)

-- of which not all nodes have run, there is a node to run
pub node_left : (plan : Plan) (k : ℕ) → IsRule plan.kind → all_run plan.project plan.kind k ≡ false → k < size plan.project
node_left plan k rule going = leb-false (size plan.project) k (sym (all_by_rule plan.project plan.kind k rule) ∙ going)

-- ---- one node

-- what it leaves placed
pub record HasRun (plan : Plan) (k : ℕ) (next : PassData) : Type 0 where
  pub project : next.project ≡ plan.project
  pub placed : next.placed ≡ placed_after plan.project plan.kind (k + 1) 0 []

pub has_run : (r : RulePass) (plan : Plan) (k : ℕ) (next : PassData) → StandsAt r plan k → ((i : ℕ) → next ≡ record { project = r.pass.project; placed = after_node r.pass.project r.kind i r.pass.placed }) → HasRun plan k next
has_run r plan k next at ran =
    let p = plan.project in
    record {
      project = ap (λ (a : PassData). a.project) (ran 0) ∙ at.project;
      placed = ap (λ (a : PassData). a.placed) (ran (0 + k))
          ∙ ap (λ (kind : Kind). after_node r.pass.project kind (0 + k) r.pass.placed) at.kind
          ∙ ap (λ (q : ProjectData). after_node q plan.kind (0 + k) r.pass.placed) at.project
          ∙ ap (after_node p plan.kind (0 + k)) at.placed
          ∙ sym (after-node_more p plan.kind k 0 []);
    }

-- a node before the last
pub run_early : (r next : RulePass) (plan : Plan) (k : ℕ) → StandsAt r plan k → k < size plan.project → HasRun plan k next.pass → next ≡ record r { pass = next.pass; nodes = r.nodes + 1 } → nat_le r.size (r.nodes + 1) ≡ false → StandsAt next plan (k + 1)
run_early r next plan k at within ran is early =
    let more : k + 1 < size plan.project = omega (arith, leb-false r.size (r.nodes + 1) early, at.all, at.count) in
    rw is (record {
      rule = at.rule;
      kind = at.kind;
      count = ap (λ n. n + 1) at.count;
      all = at.all;
      few = at.few;
      within = omega arith;
      measured = at.measured;
      project = ran.project;
      placed = ran.placed;
      reserved = λ _. at.reserved within;
      found = at.found ∙ best_before plan k at.rule within ∙ sym (best_before plan (k + 1) at.rule more);
    })

-- the last one
pub run_last : (r next : RulePass) (plan : Plan) (k : ℕ) → StandsAt r plan k → k < size plan.project → HasRun plan k next.pass → next ≡ record r { pass = next.pass; nodes = r.nodes + 1; room = next.room; best = next.best } → nat_le r.size (r.nodes + 1) ≡ true
    → next.best ≡ option_map (schedule_of (size next.pass.project)) next.pass.placed → StandsAt next plan (k + 1)
run_last r next plan k at within ran is whole made =
    let p = plan.project in
    let last : k + 1 ≡ size p = omega (arith, leb-true r.size (r.nodes + 1) whole, within, at.all, at.count) in
    let found : next.best ≡ best_after plan (k + 1) = made ∙ ap (λ (q : ProjectData). option_map (schedule_of (size q)) next.pass.placed) ran.project ∙ ap (option_map (schedule_of (size p))) ran.placed ∙ best_whole plan (k + 1) at.rule last in
    rw is (record {
      rule = at.rule;
      kind = at.kind;
      count = ap (λ n. n + 1) at.count;
      all = at.all;
      few = at.few;
      within = omega arith;
      measured = at.measured;
      project = ran.project;
      placed = ran.placed;
      reserved = λ early. absurd (omega arith);
      found = found;
    })
