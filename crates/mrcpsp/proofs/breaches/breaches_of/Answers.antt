use Rattle.std.proofs.Common.{rules, ◌≡◌, ◌∷◌, List, [], ◌++◌, length, refl, sym, ap, ◌∙◌, arith}
use Rattle.std.proofs.lemmas.Bool.Decides.{nat_tests}
use Rattle.std.specs.List.{flat_map, range_with_len}
use Rattle.mrcpsp.specs.Project.{size, renewables}
use Rattle.mrcpsp.specs.declared.breach.Breach.{Breach}
use Rattle.mrcpsp.specs.Breaches.{missing_modes, early_after, overuse_of, short_stocks, other_breaches}
use Rattle.mrcpsp.proofs.AllBreachesLemmas.{modes_told, others_told, all_modes_exist}
use Rattle.mrcpsp.proofs.breaches.breaches_of.Goals as goal

no_length : (told : List Breach) → length told ≡ 0 → told ≡ []
no_length [] e = refl
no_length (b ∷ told) e = absurd (omega arith)

pub returns-then-not-is_empty : goal.returns-then-not-is_empty
returns-then-not-is_empty c =
    let p = c.args.project.now in
    let s = c.args.schedule.now in
    let told = c.push_modes.new.told.items in
    let all : told ≡ missing_modes p s = search rules in
    let some : missing_modes p s ≡ [] → ⊥ = λ none.
    let e : length told ≡ 0 = ap (λ (bs : List Breach). length bs) (all ∙ none) in
    let long : length told ≡ 0 → ⊥ = grind (arith, nat_tests) in
    long e in
    all ∙ modes_told p s (c.if-not-has_shape.ensures.0 refl) some

pub invariant_of-fitting-clause-modes : goal.invariant_of-fitting-clause-modes
invariant_of-fitting-clause-modes c =
    let p = c.args.project.now in
    let s = c.args.schedule.now in
    let told = c.push_modes.new.told.items in
    let all : told ≡ missing_modes p s = search rules in
    let e : length told ≡ 0 = grind (arith, nat_tests) in
    all_modes_exist p s (sym all ∙ no_length told e)

pub returns : goal.returns
returns c =
    let p = c.args.project.now in
    let s = c.args.schedule.now in
    let told = c.push_modes.new.told.items in
    let one = c.push_all_early.new.told.items in
    let two = c.push_all_overused.new.told.items in
    let all : told ≡ missing_modes p s = search rules in
    let e : length told ≡ 0 = grind (arith, nat_tests) in
    let none : told ≡ [] = no_length told e in
    let early = flat_map (early_after p s) (range_with_len 0 (size p)) in
    let over = flat_map (overuse_of p s) (range_with_len 0 (renewables p)) in
    let first : one ≡ early = c.in_ok-push_all_early.ensures ∙ ap (λ l. l ++ early) none in
    let second : two ≡ early ++ over = c.in_ok-push_all_overused.ensures ∙ ap (λ l. l ++ over) first in
    let third : c.push_short.new.told.items ≡ other_breaches p s = c.in_ok-push_short.ensures ∙ ap (λ l. l ++ short_stocks p s) second in
    third ∙ others_told p s (c.if-not-has_shape.ensures.0 refl) (sym all ∙ none)
