-- What a rule chooses.
use Rattle.std.proofs.Common.{◌≡◌, ℕ, List, [], Option, Some, None, option_map, length, refl, sym, ap, ◌∙◌}
use Rattle.std.specs.Prelude.{option_and_then}
use Rattle.std.specs.List.{find, list_all}
use Rattle.std.proofs.lemmas.List.FromFn.{length-map-range_with_len}
use Rattle.mrcpsp.specs.Project.{ProjectData, size, duration}
use Rattle.mrcpsp.specs.Values.{shortest, lft, mts}
use Rattle.mrcpsp.specs.Placed.{Placed}
use Rattle.measures.specs.Measures.{ValuesData, values_of, measures_of}
use Rattle.strategy.specs.Candidate.{Candidate}
use Rattle.strategy.specs.Pass.{first_least, activity_at, mode_at, chosen_at}
use Rattle.strategy.specs.declared.kind.Kind.{Kind}
use Rattle.strategy.specs.declared.kind.Kind.TheVariants.{Tree, RuleLft, RuleMts, RuleSpt, Sample}
use Rattle.serial_pass.specs.Pass.{eligible_in, allowed_in, chosen_in}
use Rattle.rule_search.specs.Rule.{IsRule, is_ahead}
use Rattle.rule_search.proofs.OrderLemmas.{IsOrder, least_order, greatest_order}

pub rule_order : (p : ProjectData) (kind : Kind) → IsRule kind → IsOrder (is_ahead p kind)
rule_order p Tree rule = absurd rule
rule_order p RuleLft rule = least_order (lft p)
rule_order p RuleMts rule = greatest_order (mts p)
rule_order p RuleSpt rule = least_order (shortest p)
rule_order p (Sample seed) rule = absurd rule

-- the first by the rule's order is the activity that the rule chooses
pub rule_finds : (p : ProjectData) (kind : Kind) (i : ℕ) (xs : List ℕ) → IsRule kind → find (λ x. list_all (is_ahead p kind x) xs) xs ≡ activity_at p kind i xs
rule_finds p Tree i xs rule = absurd rule
rule_finds p RuleLft i xs rule = refl
rule_finds p RuleMts i xs rule = refl
rule_finds p RuleSpt i xs rule = refl
rule_finds p (Sample seed) i xs rule = absurd rule

shortest_mode : (p : ProjectData) (kind : Kind) (i j : ℕ) (modes : List ℕ) → IsRule kind → mode_at p kind i j modes ≡ first_least (duration p j) modes
shortest_mode p Tree i j modes rule = absurd rule
shortest_mode p RuleLft i j modes rule = refl
shortest_mode p RuleMts i j modes rule = refl
shortest_mode p RuleSpt i j modes rule = refl
shortest_mode p (Sample seed) i j modes rule = absurd rule

none_void : (p : ProjectData) (kind : Kind) (i : ℕ) → IsRule kind → activity_at p kind i [] ≡ None
none_void p Tree i rule = absurd rule
none_void p RuleLft i rule = refl
none_void p RuleMts i rule = refl
none_void p RuleSpt i rule = refl
none_void p (Sample seed) i rule = absurd rule

-- the candidate, from what the activity and the mode are
abbrev pub candidate_of : ℕ → Option ℕ → Option Candidate
candidate_of j mode = option_map (λ m. record { activity = j; mode = m }) mode

chosen_by : (p : ProjectData) (kind : Kind) (i : ℕ) (placed : Option (List Placed)) → IsRule kind → chosen_in p kind i placed ≡ option_and_then (λ j. candidate_of j (mode_at p kind i j (allowed_in p placed j))) (activity_at p kind i (eligible_in p placed))
unfolding chosen_at
chosen_by p kind i None rule = rw (none_void p kind i rule) refl
chosen_by p kind i (Some placed) rule = refl

pub chosen_none : (p : ProjectData) (kind : Kind) (i : ℕ) (placed : Option (List Placed)) → IsRule kind → None ≡ activity_at p kind i (eligible_in p placed) → None ≡ chosen_in p kind i placed
chosen_none p kind i placed rule activity =
    sym (chosen_by p kind i placed rule ∙ ap (option_and_then (λ j. candidate_of j (mode_at p kind i j (allowed_in p placed j)))) (sym activity))

pub chosen_mode : (p : ProjectData) (kind : Kind) (i : ℕ) (placed : Option (List Placed)) (j : ℕ) (mode : Option ℕ) → IsRule kind → Some j ≡ activity_at p kind i (eligible_in p placed) → mode ≡ first_least (duration p j) (allowed_in p placed j) → candidate_of j mode ≡ chosen_in p kind i placed
chosen_mode p kind i placed j mode rule activity least =
    sym (chosen_by p kind i placed rule ∙ ap (option_and_then (λ j. candidate_of j (mode_at p kind i j (allowed_in p placed j)))) (sym activity)
    ∙ ap (candidate_of j) (shortest_mode p kind i j (allowed_in p placed j) rule ∙ sym least))

-- the measures of a project are of each of its activities
pub measured_all : (p : ProjectData) (measures : List ValuesData) → measures ≡ measures_of p → length measures ≡ size p
measured_all p measures are = ap length are ∙ length-map-range_with_len (values_of p) 0 (size p)
