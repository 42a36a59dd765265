-- Clauses stay good while variables and clauses come.
use Rattle.std.proofs.Common.{◌≡◌, ℕ, zero, suc, ◌+◌, ◌*◌, ◌/◌, ◌%◌, ◌<◌, ◌≤◌, ◌==◌, true, false, not, List, [], ◌∷◌, ◌++◌, length, get_or, take, Option, Some, None, unwrap_or, length-append, take_all, arith, refl, sym, ap, ◌∙◌, ⊎_elim}
use Rattle.std.specs.List.{list_any, slice_get}
use Rattle.std.proofs.lemmas.Bool.{cases_Bool, cases_lt, eqb-true, eqb-false, true≢false, or_cases}
use Rattle.std.proofs.lemmas.List.{get_or_append_left}
use Rattle.std.proofs.Math.Seq.{get_or-append_seam}
use Rattle.std.proofs.lemmas.List.Elements.{All-append}
use Rattle.std.proofs.lemmas.List.Folds.{list_any_more, list_any_at}
use Rattle.mrcpsp.specs.Project.{ProjectData, size}
use Rattle.std.proofs.lemmas.List.FromFn.{length-map-range_with_len}
use Rattle.measures.specs.Measures.{ValuesData, values_of, measures_of}
use Rattle.mrcpsp.specs.Schedule.{ScheduleData, IsFeasible, IsOptimal, IsInfeasible, makespan}
use Rattle.schedule_prices.specs.Choices.{EachExceeds}
use Rattle.schedule_clauses.specs.Satisfied.{SatisfiedByShort, SatisfiedByFeasible}
use Rattle.clause_kernel.specs.Clauses.{literal_true, clause_true, Satisfies, IsUnsatisfiable}
use Rattle.schedule_clauses.specs.Meaning.{IsWithin, IsValid, holds, term_true, some_true}
use Rattle.schedule_clauses.specs.Encoding.{intended, IsTold, IsGood, AreGood, Extends}
use Rattle.schedule_clauses.specs.declared.meaning.Fact.{Fact}
use Rattle.schedule_clauses.specs.declared.meaning.Term.{Term}

pub even_is : (x : ℕ) → ((2 * x) % 2 == 0) ≡ true
even_is x = ⊎_elim (λ e. e) (λ (e : ((2 * x) % 2 == 0) ≡ false). absurd (eqb-false ((2 * x) % 2) 0 e (omega arith))) (cases_Bool ((2 * x) % 2 == 0))

pub odd_is : (x : ℕ) → ((2 * x + 1) % 2 == 0) ≡ false
odd_is x = ⊎_elim (λ (e : ((2 * x + 1) % 2 == 0) ≡ true). absurd (let f = eqb-true ((2 * x + 1) % 2) 0 e in omega arith)) (λ e. e) (cases_Bool ((2 * x + 1) % 2 == 0))

pub half_even : (x : ℕ) → (2 * x) / 2 ≡ x
half_even x = omega arith

pub half_odd : (x : ℕ) → (2 * x + 1) / 2 ≡ x
half_odd x = omega arith

pub ruleset sign_rules = (even_is, odd_is, half_even, half_odd)

-- a true term holds by its sign
term_holds : (p : ProjectData) (s : ScheduleData) (a : Term) → term_true p s a ≡ true → holds p s a.meaning ≡ a.positive
term_holds p s a h =
    ⊎_elim
    (λ (e : a.positive ≡ true). rw e at h ∙ sym e)
    (λ (e : a.positive ≡ false).
    ⊎_elim (λ (f : holds p s a.meaning ≡ true). absurd (true≢false (sym (rw (e, f) at h)))) (λ (f : holds p s a.meaning ≡ false). f ∙ sym e) (cases_Bool (holds p s a.meaning)))
    (cases_Bool a.positive)

pub extends-refl : (a : List Fact) → Extends a a
extends-refl a = record { each = λ x m e. e }

pub extends-trans : (a b d : List Fact) → Extends a b → Extends b d → Extends a d
extends-trans a b d p q = record { each = λ x m e. q.each x m (p.each x m e) }

good-extends : (p : ProjectData) (s : ScheduleData) (a b : List Fact) (c : List ℕ) → Extends a b → IsGood p s a c → IsGood p s b c
good-extends p s a b c e g = record { place = g.place; inside = g.inside; told = record { meaning = g.told.meaning; stands = e.each (get_or c g.place 0 / 2) g.told.meaning g.told.stands; holds = g.told.holds } }

good-old : (p : ProjectData) (s : ScheduleData) (a : List Fact) (c : List ℕ) (l : ℕ) → IsGood p s a c → IsGood p s a (c ++ l ∷ [])
good-old p s a c l g = record {
  place = g.place;
  inside = simp (length-append c (l ∷ [])) (let h = g.inside in omega arith);
  told = let h : g.place < length c = g.inside in rw (get_or_append_left c (l ∷ []) 0 g.place h) g.told;
}

good-new : (p : ProjectData) (s : ScheduleData) (a : List Fact) (c : List ℕ) (l : ℕ) → IsTold p s a l → IsGood p s a (c ++ l ∷ [])
good-new p s a c l t = record {
  place = length c;
  inside = simp (length-append c (l ∷ [])) (omega arith);
  told = rw (get_or-append_seam c l [] 0) t;
}

pub good-none : (p : ProjectData) (a : List Fact) (c : List ℕ) (terms : List Term) (s : ScheduleData) → some_true p s (take 0 terms) ≡ true → IsGood p s a c
good-none p a c terms s h = absurd (true≢false (sym h))

pub good-more : (p : ProjectData) (before after : List Fact) (c : List ℕ) (l : ℕ) (terms : List Term) (i : ℕ) (d : Term) → i < length terms → Extends before after → slice_get after (l / 2) ≡ Some ((get_or terms i d).meaning) → (l % 2 == 0) ≡ (get_or terms i d).positive → ((s : ScheduleData) → some_true p s (take i terms) ≡ true → IsGood p s before c) → (s : ScheduleData) → some_true p s (take (i + 1) terms) ≡ true → IsGood p s after (c ++ l ∷ [])
good-more p before after c l terms i d inside extends stands sign so_far s h =
    ⊎_elim
    (λ (old : list_any (term_true p s) (take i terms) ≡ true). good-old p s after c l (good-extends p s before after c extends (so_far s old)))
    (λ (new : term_true p s (get_or terms i d) ≡ true). good-new p s after c l (record { meaning = (get_or terms i d).meaning; stands = stands; holds = term_holds p s (get_or terms i d) new ∙ sym sign }))
    (or_cases (list_any (term_true p s) (take i terms)) (term_true p s (get_or terms i d)) (sym (list_any_more (term_true p s) terms i d inside) ∙ h))

single : (c d : List ℕ) (k : ℕ) → k < 1 → get_or (c ∷ []) k d ≡ c
single c d zero h = refl
single c d (suc k) h = absurd (omega arith)

-- one more clause, after more variables
pub are-good-more : (p : ProjectData) (limit : Option ℕ) (before after : List Fact) (clauses : List (List ℕ)) (c : List ℕ) (terms : List Term) → AreGood p limit before clauses → Extends before after → IsValid p limit terms → ((s : ScheduleData) → some_true p s (take (length terms) terms) ≡ true → IsGood p s after c) → AreGood p limit after (clauses ++ c ∷ [])
are-good-more p limit before after clauses c terms good extends valid so_far = record {
  each = λ s short.
      All-append (λ (c : List ℕ). IsGood p s after c) clauses (c ∷ [])
      (λ k d inside. good-extends p s before after (get_or clauses k d) extends (good.each s short k d inside))
      (λ k d inside. rw (single c d k inside) (so_far s (rw (take_all (length terms) terms (omega arith)) (valid.sure s short))));
}

pub are-good-none : (p : ProjectData) (limit : Option ℕ) (a : List Fact) → AreGood p limit a []
are-good-none p limit a = record { each = λ s short k d inside. absurd (omega arith) }

-- more variables alone
pub are-good-extends : (p : ProjectData) (limit : Option ℕ) (before after : List Fact) (clauses now : List (List ℕ)) → AreGood p limit before clauses → Extends before after → now ≡ clauses → AreGood p limit after now
are-good-extends p limit before after clauses now good extends same = rw same (record { each = λ s short k d inside. good-extends p s before after (get_or clauses k d) extends (good.each s short k d inside) })

pub ruleset add_rules = (extends-refl, extends-trans, good-none)

pub ruleset new_rules = (are-good-none)

-- a good clause is true at the intended values
literal_is : (p : ProjectData) (s : ScheduleData) (a : List Fact) (l : ℕ) → IsTold p s a l → literal_true (intended p s a) l ≡ true
unfolding literal_true intended
literal_is p s a l t =
    ⊎_elim
    (λ (e : (l % 2 == 0) ≡ true). rw (e, t.stands) (t.holds ∙ e))
    (λ (e : (l % 2 == 0) ≡ false). rw (e, t.stands) (ap not (t.holds ∙ e)))
    (cases_Bool (l % 2 == 0))

clause_is : (p : ProjectData) (s : ScheduleData) (a : List Fact) (c : List ℕ) → IsGood p s a c → clause_true (intended p s a) c ≡ true
unfolding clause_true
clause_is p s a c g = list_any_at (literal_true (intended p s a)) c g.place 0 g.inside (literal_is p s a (get_or c g.place 0) g.told)

pub satisfied : (p : ProjectData) (limit : Option ℕ) (a : List Fact) (clauses : List (List ℕ)) (s : ScheduleData) → AreGood p limit a clauses → IsWithin p limit s → Satisfies (intended p s a) clauses
satisfied p limit a clauses s good within = record { each = λ k d inside. clause_is p s a (get_or clauses k d) (good.each s within k d inside) }

some_same : (a b : ℕ) → Some a ≡ Some b → a ≡ b
some_same a b e = ap (λ (o : Option ℕ). unwrap_or o 0) e

-- a short schedule is within the bound as a limit, and each feasible one where there is none
pub by-short : (p : ProjectData) (bound : ℕ) (a : List Fact) (clauses : List (List ℕ)) → AreGood p (Some bound) a clauses → SatisfiedByShort p bound clauses
by-short p bound a clauses good = record {
  values = λ s feasible short. (intended p s a, satisfied p (Some bound) a clauses s good (record { feasible = feasible; short = λ b e. rw (some_same bound b e) at short }));
}

pub by-feasible : (p : ProjectData) (a : List Fact) (clauses : List (List ℕ)) → AreGood p None a clauses → SatisfiedByFeasible p clauses
by-feasible p a clauses good = record {
  values = λ s feasible. (intended p s a, satisfied p None a clauses s good (record { feasible = feasible; short = λ b e. cc }));
}

pub each-exceeds : (p : ProjectData) (bound : ℕ) (clauses : List (List ℕ)) → SatisfiedByShort p bound clauses → IsUnsatisfiable clauses → (s : ScheduleData) → IsFeasible p s → bound < makespan p s
each-exceeds p bound clauses by un s feasible =
    ⊎_elim
    (λ (longer : bound < makespan p s). longer)
    (λ (l : makespan p s ≤ bound). absurd (let found = by.values s feasible l in un.none found.0 found.1))
    (cases_lt bound (makespan p s))

-- no schedule is feasible where the clauses that each satisfies cannot all be true
pub none-feasible : (p : ProjectData) (clauses : List (List ℕ)) → SatisfiedByFeasible p clauses → IsUnsatisfiable clauses → IsInfeasible p
none-feasible p clauses by un = λ s feasible. let found = by.values s feasible in un.none found.0 found.1

-- no schedule is shorter where each exceeds one period less
pub optimal : (p : ProjectData) (s : ScheduleData) (bound : ℕ) → IsFeasible p s → makespan p s ≡ bound + 1 → EachExceeds p bound → IsOptimal p s
optimal p s bound feasible e exceeds = record { feasible = feasible; least = λ other h. let l = exceeds other h in omega arith }

pub optimal-zero : (p : ProjectData) (s : ScheduleData) → IsFeasible p s → makespan p s ≡ 0 → IsOptimal p s
optimal-zero p s feasible e = record { feasible = feasible; least = λ other h. omega arith }

pub ruleset short_rules = (by-short)

pub ruleset feasible_rules = (by-feasible)

pub ruleset infeasible_rules = (none-feasible)

pub measured_all : (p : ProjectData) (measures : List ValuesData) → measures ≡ measures_of p → length measures ≡ size p
measured_all p measures e = ap length e ∙ length-map-range_with_len (values_of p) 0 (size p)

pub ruleset exceed_rules = (each-exceeds)

pub ruleset optimal_rules = (optimal-zero)
