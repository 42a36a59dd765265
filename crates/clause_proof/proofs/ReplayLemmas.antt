-- What one clause infers, and what a derivation by clauses in order leaves.
use Rattle.std.proofs.Common.{◌≡◌, ◌⊎◌, ℕ, zero, suc, ◌+◌, ◌-◌, ◌/◌, ◌%◌, ◌<◌, ◌≤◌, ◌==◌, Bool, true, false, not, List, length, get_or, arith, refl, sym, ◌∙◌, ⊎_elim, inl, inr}
use Rattle.std.proofs.lemmas.Bool.{cases_Bool, eqb-true, eqb-false, not-true, true≢false}
use Rattle.std.proofs.Math.Bool.{not-not}
use Rattle.std.proofs.lemmas.List.Folds.{list_any_none, list_any_at}
use Rattle.clause_kernel.specs.Clauses.{negated, literal_true, clause_true}
use Rattle.clause_proof.specs.Propagation.{IsSound, IsFresh, IsAssigned, HasOnly, HasNone, Infers, Assumes, IsTautology, SatisfiesUsed, Follows, Keeps}

even_or_odd : (l : ℕ) → (((l % 2 == 0) ≡ true) × (l % 2 ≡ 0)) ⊎ (((l % 2 == 0) ≡ false) × (l % 2 ≡ 1))
even_or_odd l =
    ⊎_elim
    (λ (e : (l % 2 == 0) ≡ true). inl (e, eqb-true (l % 2) 0 e))
    (λ (e : (l % 2 == 0) ≡ false). let ne : l % 2 ≡ 0 → ⊥ = eqb-false (l % 2) 0 e in inr (e, omega arith))
    (cases_Bool (l % 2 == 0))

even_next : (l : ℕ) → l % 2 ≡ 0 → ((l + 1) % 2 == 0) ≡ false
even_next l e =
    ⊎_elim
    (λ (f : ((l + 1) % 2 == 0) ≡ true). absurd (let g = eqb-true ((l + 1) % 2) 0 f in omega arith))
    (λ (f : ((l + 1) % 2 == 0) ≡ false). f)
    (cases_Bool ((l + 1) % 2 == 0))

odd_before : (l : ℕ) → l % 2 ≡ 1 → ((l - 1) % 2 == 0) ≡ true
odd_before l e =
    ⊎_elim
    (λ (f : ((l - 1) % 2 == 0) ≡ true). f)
    (λ (f : ((l - 1) % 2 == 0) ≡ false). absurd (let g : (l - 1) % 2 ≡ 0 → ⊥ = eqb-false ((l - 1) % 2) 0 f in omega arith))
    (cases_Bool ((l - 1) % 2 == 0))

half_even : (l : ℕ) → l % 2 ≡ 0 → (l + 1) / 2 ≡ l / 2
half_even l e = omega arith

half_odd : (l : ℕ) → l % 2 ≡ 1 → (l - 1) / 2 ≡ l / 2
half_odd l e = omega arith

pub negated-true : (v : ℕ → Bool) (l : ℕ) → literal_true v (negated l) ≡ not (literal_true v l)
unfolding literal_true negated
negated-true v l =
    ⊎_elim
    (λ (e : ((l % 2 == 0) ≡ true) × (l % 2 ≡ 0)). rw (e.0, even_next l e.1, half_even l e.1) refl)
    (λ (e : ((l % 2 == 0) ≡ false) × (l % 2 ≡ 1)). rw (e.0, odd_before l e.1, half_odd l e.1, not-not (v (l / 2))) refl)
    (even_or_odd l)

-- a literal that is kept as false is false
pub stands_false : (v : ℕ → Bool) (values : List ℕ) (mark q : ℕ) → IsSound v values mark → mark ≤ get_or values (negated q) 0 → literal_true v q ≡ false
stands_false v values mark q sound h = not-true (literal_true v q) (sym (negated-true v q) ∙ sound.each (negated q) h)

-- a clause all of whose literals are false is false
pub all_false : (v : ℕ → Bool) (clause : List ℕ) → ((k d : ℕ) → k < length clause → literal_true v (get_or clause k d) ≡ false) → clause_true v clause ≡ false
unfolding clause_true
all_false v clause h = list_any_none (literal_true v) clause h

-- where all others are false, the one left is true
only-true : (clause values : List ℕ) (mark other : ℕ) (v : ℕ → Bool) → clause_true v clause ≡ true → HasOnly clause values mark other → IsSound v values mark → literal_true v other ≡ true
only-true clause values mark other v holds only sound =
    ⊎_elim
    (λ (e : literal_true v other ≡ true). e)
    (λ (e : literal_true v other ≡ false).
    let wrong : clause_true v clause ≡ false = all_false v clause (λ k d inside.
    ⊎_elim
    (λ (same : get_or clause k d ≡ other). rw same e)
    (λ (h : mark ≤ get_or values (negated (get_or clause k d)) 0). stands_false v values mark (get_or clause k d) sound h)
    (only.each k d inside)) in
    absurd (true≢false (sym holds ∙ wrong)))
    (cases_Bool (literal_true v other))

assigned-sound : (v : ℕ → Bool) (before after : List ℕ) (mark l : ℕ) → literal_true v l ≡ true → IsAssigned before after l mark → IsSound v before mark → IsSound v after mark
assigned-sound v before after mark l holds assigned sound = record {
  each = λ k h.
      ⊎_elim
      (λ (same : get_or after k 0 ≡ get_or before k 0). sound.each k (omega arith))
      (λ (new : (k ≡ l) × (get_or after k 0 ≡ mark)). rw (new.0) holds)
      (assigned.each k);
}

assigned-fresh : (before after : List ℕ) (mark l : ℕ) → IsAssigned before after l mark → IsFresh before (mark + 1) → IsFresh after (mark + 1)
assigned-fresh before after mark l assigned fresh = record {
  each = λ k.
      ⊎_elim
      (λ (same : get_or after k 0 ≡ get_or before k 0). let low = fresh.each k in omega arith)
      (λ (new : (k ≡ l) × (get_or after k 0 ≡ mark)). let e : get_or after k 0 ≡ mark = new.1 in omega arith)
      (assigned.each k);
}

pub infers-nothing : (clause values : List ℕ) (mark : ℕ) → Infers clause values values mark false
infers-nothing clause values mark = record { sound = λ v holds sound. sound; none = λ e. cc; fresh = λ fresh. fresh }

pub infers-conflict : (clause values : List ℕ) (mark : ℕ) (conflict : Bool) → (conflict ≡ true → HasNone clause values mark) → Infers clause values values mark conflict
infers-conflict clause values mark conflict none = record {
  sound = λ v holds sound. sound;
  none = λ so v holds sound. true≢false (sym holds ∙ all_false v clause (λ k d inside. stands_false v values mark (get_or clause k d) sound ((none so).each k d inside)));
  fresh = λ fresh. fresh;
}

pub infers-unit : (clause before after : List ℕ) (mark other : ℕ) → HasOnly clause before mark other → IsAssigned before after other mark → Infers clause before after mark false
infers-unit clause before after mark other only assigned = record {
  sound = λ v holds sound. assigned-sound v before after mark other (only-true clause before mark other v holds only sound) assigned sound;
  none = λ e. cc;
  fresh = assigned-fresh before after mark other assigned;
}

pub fresh-later : (values : List ℕ) (mark : ℕ) → IsFresh values mark → IsFresh values (mark + 1)
fresh-later values mark fresh = record { each = λ l. let low = fresh.each l in omega arith }

pub assumes-zero : (clause values : List ℕ) (mark : ℕ) → IsFresh values mark → Assumes clause 0 values mark
assumes-zero clause values mark fresh = record { sound = λ v no. record { each = λ l h. absurd (let low = fresh.each l in omega arith) } }

-- one more literal is false
pub assumes-more : (clause before after : List ℕ) (mark i d : ℕ) → IsAssigned before after (negated (get_or clause i d)) mark → Assumes clause i before mark → Assumes clause (i + 1) after mark
assumes-more clause before after mark i d assigned assumes = record {
  sound = λ v no.
      let holds : literal_true v (negated (get_or clause i d)) ≡ true = rw (negated-true v (get_or clause i d), no i d (omega arith)) refl in
      assigned-sound v before after mark (negated (get_or clause i d)) holds assigned (assumes.sound v (λ k d below. no k d (omega arith)));
}

pub assumed-fresh : (before after : List ℕ) (mark l : ℕ) → IsAssigned before after l mark → IsFresh before (mark + 1) → IsFresh after (mark + 1)
assumed-fresh before after mark l assigned fresh = assigned-fresh before after mark l assigned fresh

-- no literal of a false clause is true
literal_false : (v : ℕ → Bool) (clause : List ℕ) (k d : ℕ) → k < length clause → clause_true v clause ≡ false → literal_true v (get_or clause k d) ≡ false
unfolding clause_true
literal_false v clause k d inside e =
    ⊎_elim
    (λ (h : literal_true v (get_or clause k d) ≡ true). absurd (true≢false (sym (list_any_at (literal_true v) clause k d inside h) ∙ e)))
    (λ (h : literal_true v (get_or clause k d) ≡ false). h)
    (cases_Bool (literal_true v (get_or clause k d)))

-- a clause is true where its being false cannot be
true_by : (v : ℕ → Bool) (clause : List ℕ) → (clause_true v clause ≡ false → ⊥) → clause_true v clause ≡ true
true_by v clause h =
    ⊎_elim (λ (e : clause_true v clause ≡ true). e) (λ (e : clause_true v clause ≡ false). absurd (h e)) (cases_Bool (clause_true v clause))

-- a literal of the clause and its negation both are in it
pub assumes-true : (clause values : List ℕ) (mark i d : ℕ) → i < length clause → mark ≤ get_or values (get_or clause i d) 0 → Assumes clause i values mark → IsTautology clause
assumes-true clause values mark i d inside h assumes = record {
  sure = λ v. true_by v clause (λ e. true≢false (sym ((assumes.sound v (λ k d below. literal_false v clause k d (omega arith) e)).each (get_or clause i d) h) ∙ literal_false v clause i d inside e));
}

-- a literal that is kept as true is true wherever the used clauses before `at` are and the clause
-- is not
pub record Derives (clauses : List (List ℕ)) (used : List Bool) (at : ℕ) (clause values : List ℕ) (mark : ℕ) : Type 0 where
  pub sound : (v : ℕ → Bool) → SatisfiesUsed v clauses used at → clause_true v clause ≡ false → IsSound v values mark

pub keeps-refl : (used : List Bool) → Keeps used used
keeps-refl used = record { each = λ k h. h }

pub keeps-trans : (a b c : List Bool) → Keeps a b → Keeps b c → Keeps a c
keeps-trans a b c p q = record { each = λ k h. q.each k (p.each k h) }

pub satisfies-fewer : (v : ℕ → Bool) (clauses : List (List ℕ)) (before after : List Bool) (at : ℕ) → Keeps before after → SatisfiesUsed v clauses after at → SatisfiesUsed v clauses before at
satisfies-fewer v clauses before after at keeps all = record { each = λ k below h. all.each k below (keeps.each k h) }

pub derives-first : (clauses : List (List ℕ)) (used : List Bool) (at : ℕ) (clause values : List ℕ) (mark : ℕ) → Assumes clause (length clause) values mark → Derives clauses used at clause values mark
derives-first clauses used at clause values mark assumes = record { sound = λ v all e. assumes.sound v (λ k d inside. literal_false v clause k d inside e) }

pub ruleset infer_rules = (infers-nothing, infers-conflict, infers-unit)

pub ruleset assume_rules = (assumes-zero, assumes-true, assumes-more, fresh-later, assumed-fresh)

pub ruleset replay_rules = (keeps-refl, keeps-trans, derives-first)
