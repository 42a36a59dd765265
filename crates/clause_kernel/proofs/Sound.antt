-- Propagation along entailed clauses is sound.
use Rattle.std.proofs.Common.{◌≡◌, ◌⊎◌, ℕ, ◌==◌, ◌||◌, ◌&&◌, not, Bool, true, false, cond, nat_lt, List, [], ◌∷◌, length, map, Option, Some, None, arith, refl, sym, ◌∙◌, ap, ⊎_elim, inl, inr}
use Rattle.std.specs.List.{list_any}
use Rattle.std.proofs.lemmas.Bool.{cases_Bool, eqb-true, true≢false}
use Rattle.clause_kernel.specs.Clauses.{negated, literal_true, clause_true, Satisfies, Entails}
use Rattle.clause_kernel.specs.Propagation.{with_true, open_literals, unit_of, propagates, clause_at, is_fixed, follows_by}
use Rattle.clause_kernel.specs.Kernel.{Held, IsEntailed}
use Rattle.clause_kernel.proofs.LiteralLemmas.{negated-true}

-- what is taken as true is true
record IsSound (v trues : ℕ → Bool) : Type 0 where
  pub each : (l : ℕ) → trues l ≡ true → literal_true v l ≡ true

or_cases : (a b : Bool) → (a || b) ≡ true → (a ≡ true) ⊎ (b ≡ true)
or_cases true b h = inl refl
or_cases false b h = inr h

or_false : (a b : Bool) → (a || b) ≡ false → (a ≡ false) × (b ≡ false)
or_false true b h = absurd (true≢false h)
or_false false b h = (refl, h)

and_second : (a b : Bool) → (a && b) ≡ true → b ≡ true
and_second true b h = h
and_second false b h = absurd (true≢false (sym h))

not_both : (a : Bool) → a ≡ true → a ≡ false → ⊥
not_both a h e = true≢false (sym h ∙ e)

none-true : (v : ℕ → Bool) (l : ℕ) → list_any (λ q. q == l) [] ≡ true → literal_true v l ≡ true
none-true v l h = absurd (true≢false (sym h))

equal-true : (v : ℕ → Bool) (q l : ℕ) → literal_true v q ≡ true → (q == l) ≡ true → literal_true v l ≡ true
equal-true v q l holds e = rw (← eqb-true q l e) holds

one-true : (v : ℕ → Bool) (q : ℕ) → literal_true v q ≡ true → (l : ℕ) → list_any (λ r. r == l) (q ∷ []) ≡ true → literal_true v l ≡ true
one-true v q holds l h = ⊎_elim (λ (e : (q == l) ≡ true). equal-true v q l holds e) (λ (e : false ≡ true). absurd (true≢false (sym e))) (or_cases (q == l) false h)

negation-true : (v : ℕ → Bool) (q : ℕ) → literal_true v q ≡ false → literal_true v (negated q) ≡ true
negation-true v q fails = negated-true v q ∙ ap not fails

negations-true : (v : ℕ → Bool) (clause : List ℕ) → list_any (literal_true v) clause ≡ false → (l : ℕ) → list_any (λ r. r == l) (map negated clause) ≡ true → literal_true v l ≡ true
negations-true v [] fails l h = none-true v l h
negations-true v (q ∷ qs) fails l h =
    let both : (literal_true v q ≡ false) × (list_any (literal_true v) qs ≡ false) = or_false (literal_true v q) (list_any (literal_true v) qs) fails in
    ⊎_elim
    (λ (e : (negated q == l) ≡ true). equal-true v (negated q) l (negation-true v q both.0) e)
    (λ (e : list_any (λ r. r == l) (map negated qs) ≡ true). negations-true v qs both.1 l e)
    (or_cases (negated q == l) (list_any (λ r. r == l) (map negated qs)) h)

with-sound : (v : ℕ → Bool) (n : ℕ) (trues : ℕ → Bool) (more : List ℕ) → IsSound v trues → ((l : ℕ) → list_any (λ q. q == l) more ≡ true → literal_true v l ≡ true) → IsSound v (with_true n trues more)
with-sound v n trues more sound all = record {
  each = λ l h.
      ⊎_elim
      (λ (e : trues l ≡ true). sound.each l e)
      (λ (e : (nat_lt l n && list_any (λ q. q == l) more) ≡ true). all l (and_second (nat_lt l n) (list_any (λ q. q == l) more) e))
      (or_cases (trues l) (nat_lt l n && list_any (λ q. q == l) more) h);
}

-- a literal whose negation is taken as true is false
closed-false : (v trues : ℕ → Bool) (q : ℕ) → IsSound v trues → trues (negated q) ≡ true → literal_true v q ≡ false
closed-false v trues q sound h =
    ⊎_elim
    (λ (e : literal_true v q ≡ true). absurd (not_both (literal_true v (negated q)) (sound.each (negated q) h) (negated-true v q ∙ ap not e)))
    (λ (e : literal_true v q ≡ false). e)
    (cases_Bool (literal_true v q))

kept-true : (v trues : ℕ → Bool) (q : ℕ) (qs : List ℕ) (b : Bool) → IsSound v trues → trues (negated q) ≡ b → (literal_true v q ≡ true) ⊎ (list_any (literal_true v) (open_literals trues qs) ≡ true) → list_any (literal_true v) (cond (not b) (q ∷ open_literals trues qs) (open_literals trues qs)) ≡ true
kept-true v trues q qs true sound closed (inl h) = absurd (not_both (literal_true v q) h (closed-false v trues q sound closed))
kept-true v trues q qs true sound closed (inr h) = h
kept-true v trues q qs false sound closed (inl h) = rw h refl
kept-true v trues q qs false sound closed (inr h) = ⊎_elim (λ (e : literal_true v q ≡ true). rw e refl) (λ (e : literal_true v q ≡ false). rw e h) (cases_Bool (literal_true v q))

-- a true clause has a true literal among its open ones
open-true : (v trues : ℕ → Bool) (clause : List ℕ) → IsSound v trues → list_any (literal_true v) clause ≡ true → list_any (literal_true v) (open_literals trues clause) ≡ true
open-true v trues [] sound h = h
open-true v trues (q ∷ qs) sound h =
    kept-true v trues q qs (trues (negated q)) sound refl
    (⊎_elim
    (λ (e : literal_true v q ≡ true). inl e)
    (λ (e : list_any (literal_true v) qs ≡ true). inr (open-true v trues qs sound e))
    (or_cases (literal_true v q) (list_any (literal_true v) qs) h))

unit-true : (v : ℕ → Bool) (left : List ℕ) → list_any (literal_true v) left ≡ true → (l : ℕ) → list_any (λ q. q == l) (unit_of left) ≡ true → literal_true v l ≡ true
unit-true v [] holds l h = none-true v l h
unit-true v (q ∷ []) holds l h = ⊎_elim (λ (e : literal_true v q ≡ true). one-true v q e l h) (λ (e : false ≡ true). absurd (true≢false (sym e))) (or_cases (literal_true v q) false holds)
unit-true v (q ∷ r ∷ rest) holds l h = none-true v l h

nothing-false : (v : ℕ → Bool) (left : List ℕ) → list_any (literal_true v) left ≡ true → (length left == 0) ≡ true → ⊥
nothing-false v [] holds h = true≢false (sym holds)
nothing-false v (q ∷ qs) holds h = absurd (let e : length (q ∷ qs) ≡ 0 = eqb-true (length (q ∷ qs)) 0 h in omega arith)

-- the clauses that are there are true
abbrev AreTrue : (ℕ → Bool) → List (Option (List ℕ)) → Type 0
AreTrue v [] = Unit {0}
AreTrue v (None ∷ rest) = Unit {0}
AreTrue v (Some c ∷ rest) = (list_any (literal_true v) c ≡ true) × AreTrue v rest

propagates-sound : (v : ℕ → Bool) (n : ℕ) (clauses : List (Option (List ℕ))) (trues : ℕ → Bool) → AreTrue v clauses → IsSound v trues → propagates n clauses trues ≡ true → ⊥
propagates-sound v n [] trues holds sound h = true≢false (sym h)
propagates-sound v n (None ∷ rest) trues holds sound h = true≢false (sym h)
propagates-sound v n (Some c ∷ rest) trues holds sound h =
    let left : list_any (literal_true v) (open_literals trues c) ≡ true = open-true v trues c sound holds.0 in
    ⊎_elim
    (λ (e : (length (open_literals trues c) == 0) ≡ true). nothing-false v (open_literals trues c) left e)
    (λ (e : propagates n rest (with_true n trues (unit_of (open_literals trues c))) ≡ true).
    propagates-sound v n rest (with_true n trues (unit_of (open_literals trues c))) holds.1 (with-sound v n trues (unit_of (open_literals trues c)) sound (unit-true v (open_literals trues c) left)) e)
    (or_cases (length (open_literals trues c) == 0) (propagates n rest (with_true n trues (unit_of (open_literals trues c)))) h)

hint-true : (v : ℕ → Bool) (c : Option (List ℕ)) (rest : List (Option (List ℕ))) → ((d : List ℕ) → c ≡ Some d → list_any (literal_true v) d ≡ true) → AreTrue v rest → AreTrue v (c ∷ rest)
hint-true v None rest one others = tt
hint-true v (Some d) rest one others = (one d refl, others)

hints-true : (v : ℕ → Bool) (clauses : List (Option (List ℕ))) (hints : List ℕ) → ((n : ℕ) (c : List ℕ) → clause_at clauses n ≡ Some c → list_any (literal_true v) c ≡ true) → AreTrue v (map (clause_at clauses) hints)
hints-true v clauses [] each = tt
hints-true v clauses (h ∷ hs) each = hint-true v (clause_at clauses h) (map (clause_at clauses) hs) (each h) (hints-true v clauses hs each)

met-true : (v trues : ℕ → Bool) (clause : List ℕ) → IsSound v trues → list_any trues clause ≡ true → list_any (literal_true v) clause ≡ true
met-true v trues [] sound h = h
met-true v trues (q ∷ qs) sound h =
    ⊎_elim
    (λ (e : trues q ≡ true). rw (sound.each q e) refl)
    (λ (e : list_any trues qs ≡ true).
    ⊎_elim (λ (t : literal_true v q ≡ true). rw t refl) (λ (f : literal_true v q ≡ false). rw f (met-true v trues qs sound e)) (cases_Bool (literal_true v q)))
    (or_cases (trues q) (list_any trues qs) h)

pub literal-here : (v : ℕ → Bool) (l : ℕ) → clause_true v (l ∷ []) ≡ true → literal_true v l ≡ true
unfolding clause_true
literal-here v l h = ⊎_elim (λ (e : literal_true v l ≡ true). e) (λ (e : false ≡ true). absurd (true≢false (sym e))) (or_cases (literal_true v l) false h)

fixed-sound : (formula : List (List ℕ)) (k : Held) (v : ℕ → Bool) → IsEntailed formula k → Satisfies v formula → IsSound v (is_fixed k.fixed)
fixed-sound formula k v trusted holds = record { each = λ l h. literal-here v l ((trusted.fixed l h).sure v holds) }

follows-here : (formula : List (List ℕ)) (k : Held) (clause hints : List ℕ) (v : ℕ → Bool) → IsEntailed formula k → Satisfies v formula → follows_by k.clauses k.fixed clause hints ≡ true → list_any (literal_true v) clause ≡ false → ⊥
unfolding clause_true
follows-here formula k clause hints v trusted holds h fails =
    let n : ℕ = length k.fixed in
    let sound : IsSound v (with_true n (is_fixed k.fixed) (map negated clause)) = with-sound v n (is_fixed k.fixed) (map negated clause) (fixed-sound formula k v trusted holds) (negations-true v clause fails) in
    ⊎_elim
    (λ (e : list_any (with_true n (is_fixed k.fixed) (map negated clause)) clause ≡ true). not_both (list_any (literal_true v) clause) (met-true v (with_true n (is_fixed k.fixed) (map negated clause)) clause sound e) fails)
    (λ (e : propagates n (map (clause_at k.clauses) hints) (with_true n (is_fixed k.fixed) (map negated clause)) ≡ true).
    propagates-sound v n (map (clause_at k.clauses) hints) (with_true n (is_fixed k.fixed) (map negated clause)) (hints-true v k.clauses hints (λ m c at. (trusted.clauses m c at).sure v holds)) sound e)
    (or_cases (list_any (with_true n (is_fixed k.fixed) (map negated clause)) clause) (propagates n (map (clause_at k.clauses) hints) (with_true n (is_fixed k.fixed) (map negated clause))) h)

-- what follows from entailed clauses is entailed
pub follows-sound : (formula : List (List ℕ)) (k : Held) (clause hints : List ℕ) → IsEntailed formula k → follows_by k.clauses k.fixed clause hints ≡ true → Entails formula clause
unfolding clause_true
follows-sound formula k clause hints trusted h = record {
  sure = λ v holds.
      ⊎_elim
      (λ (e : list_any (literal_true v) clause ≡ true). e)
      (λ (e : list_any (literal_true v) clause ≡ false). absurd (follows-here formula k clause hints v trusted holds h e))
      (cases_Bool (list_any (literal_true v) clause));
}
