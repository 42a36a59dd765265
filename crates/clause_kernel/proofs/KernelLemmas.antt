-- What a kernel keeps as it learns and forgets.
use Rattle.std.proofs.Common.{◌≡◌, ◌⊎◌, ℕ, zero, suc, ◌<◌, ◌≤◌, ◌||◌, not, inl, inr, length-set, Bool, true, false, cond, nat_lt, List, [], ◌∷◌, ◌++◌, length, get_or, set, replicate, Option, Some, None, arith, refl, sym, ◌∙◌, ap, ⊎_elim, get_or-set_same, get_or-set_other}
use Rattle.std.proofs.lemmas.Bool.{true≢false}
use Rattle.std.proofs.Math.ListN.{get_or-eq_default}
use Rattle.clause_kernel.specs.Clauses.{negated, literal_true, clause_true, Entails, IsUnsatisfiable}
use Rattle.clause_kernel.specs.Propagation.{clause_at, is_fixed}
use Rattle.clause_kernel.specs.Kernel.{Held, IsEntailed, Adds, put_at}
use Rattle.clause_kernel.proofs.Sound.{follows-sound, literal-here}
use Rattle.clause_kernel.proofs.LiteralLemmas.{negated-true}

or_cases : (a b : Bool) → (a || b) ≡ true → (a ≡ true) ⊎ (b ≡ true)
or_cases true b h = inl refl
or_cases false b h = inr h

same_or_not : (k at : ℕ) → (k ≡ at) ⊎ (k ≡ at → ⊥)
same_or_not k at = grind arith

inside_or_not : (k n : ℕ) → (k < n) ⊎ (n ≤ k)
inside_or_not k n = grind arith

-- the empty clause is never true
refuted-empty : (formula : List (List ℕ)) → Entails formula [] → IsUnsatisfiable formula
unfolding clause_true
refuted-empty formula entails = record { none = λ v all. true≢false (sym (entails.sure v all)) }

-- nor are a literal and its negation
refuted-pair : (formula : List (List ℕ)) (l : ℕ) → Entails formula (l ∷ []) → Entails formula (negated l ∷ []) → IsUnsatisfiable formula
refuted-pair formula l one other = record {
  none = λ v all.
      let here : literal_true v l ≡ true = literal-here v l (one.sure v all) in
      let there : literal_true v (negated l) ≡ true = literal-here v (negated l) (other.sure v all) in
      true≢false (sym there ∙ (negated-true v l ∙ ap not here));
}

pub entailed-refuted : (formula : List (List ℕ)) (k : Held) → IsEntailed formula k → Entails formula [] → IsEntailed formula (record { clauses = k.clauses; fixed = k.fixed; refuted = true })
entailed-refuted formula k trusted entails = record { clauses = trusted.clauses; fixed = trusted.fixed; refuted = λ e. refuted-empty formula entails }

fixed-more : (formula : List (List ℕ)) (fixed : List Bool) (l q : ℕ) → ((m : ℕ) → is_fixed fixed m ≡ true → Entails formula (m ∷ [])) → Entails formula (l ∷ []) → is_fixed (set fixed l true) q ≡ true → Entails formula (q ∷ [])
fixed-more formula fixed l q each entails h =
    ⊎_elim
    (λ (e : q ≡ l). rw e entails)
    (λ (n : q ≡ l → ⊥). each q (sym (get_or-set_other fixed l q true false n) ∙ h))
    (same_or_not q l)

pub entailed-fixed : (formula : List (List ℕ)) (k : Held) (l : ℕ) → IsEntailed formula k → Entails formula (l ∷ []) → IsEntailed formula (record { clauses = k.clauses; fixed = set k.fixed l true; refuted = k.refuted || is_fixed k.fixed (negated l) })
entailed-fixed formula k l trusted entails = record {
  clauses = trusted.clauses;
  fixed = λ q h. fixed-more formula k.fixed l q trusted.fixed entails h;
  refuted = λ h.
      ⊎_elim
      (λ (e : k.refuted ≡ true). trusted.refuted e)
      (λ (e : is_fixed k.fixed (negated l) ≡ true). refuted-pair formula l entails (trusted.fixed (negated l) e))
      (or_cases k.refuted (is_fixed k.fixed (negated l)) h);
}

some-same : (c d : List ℕ) → Some c ≡ Some d → c ≡ d
some-same c d e = cc

set-at : (clauses : List (Option (List ℕ))) (n m : ℕ) (x : Option (List ℕ)) (c : List ℕ) → clause_at (set clauses n x) m ≡ Some c → (x ≡ Some c) ⊎ (clause_at clauses m ≡ Some c)
set-at clauses n m x c h =
    ⊎_elim
    (λ (e : m ≡ n).
    ⊎_elim
    (λ (inside : n < length clauses). inl (sym (get_or-set_same clauses n x None inside) ∙ rw e at h))
    (λ (out : length clauses ≤ n). let none : clause_at (set clauses n x) m ≡ None = get_or-eq_default (set clauses n x) None (rw (e, length-set clauses n x) out) in cc)
    (inside_or_not n (length clauses)))
    (λ (other : m ≡ n → ⊥). inr (sym (get_or-set_other clauses n m x None other) ∙ h))
    (same_or_not m n)

more-at : (clauses : List (Option (List ℕ))) (m : ℕ) (x : Option (List ℕ)) (c : List ℕ) → clause_at (clauses ++ x ∷ []) m ≡ Some c → (x ≡ Some c) ⊎ (clause_at clauses m ≡ Some c)
more-at [] zero x c h = inl h
more-at [] (suc m) x c h = inr h
more-at (y ∷ ys) zero x c h = inr h
more-at (y ∷ ys) (suc m) x c h = more-at ys m x c h

put-at : (clauses : List (Option (List ℕ))) (n m : ℕ) (x : Option (List ℕ)) (c : List ℕ) (b : Bool) → clause_at (cond b (set clauses n x) (clauses ++ x ∷ [])) m ≡ Some c → (x ≡ Some c) ⊎ (clause_at clauses m ≡ Some c)
put-at clauses n m x c true h = set-at clauses n m x c h
put-at clauses n m x c false h = more-at clauses m x c h

pub entailed-kept : (formula : List (List ℕ)) (k : Held) (n : ℕ) (c : List ℕ) → IsEntailed formula k → Entails formula c → IsEntailed formula (record { clauses = put_at k.clauses n (Some c); fixed = k.fixed; refuted = k.refuted })
entailed-kept formula k n c trusted entails = record {
  clauses = λ m d h.
      ⊎_elim
      (λ (e : Some c ≡ Some d). rw (some-same c d e) at entails)
      (λ (e : clause_at k.clauses m ≡ Some d). trusted.clauses m d e)
      (put-at k.clauses n m (Some c) d (nat_lt n (length k.clauses)) h);
  fixed = trusted.fixed;
  refuted = trusted.refuted;
}

pub entailed-forgotten : (formula : List (List ℕ)) (k : Held) (n : ℕ) → IsEntailed formula k → IsEntailed formula (record { clauses = set k.clauses n None; fixed = k.fixed; refuted = k.refuted })
entailed-forgotten formula k n trusted = record {
  clauses = λ m d h.
      ⊎_elim
      (λ (e : None ≡ Some d). cc)
      (λ (e : clause_at k.clauses m ≡ Some d). trusted.clauses m d e)
      (set-at k.clauses n m None d h);
  fixed = trusted.fixed;
  refuted = trusted.refuted;
}

pub added-kept : (k : Held) (c : List ℕ) (n : ℕ) (clauses : List (Option (List ℕ))) → 2 ≤ length c → n < 4294967295 → clause_at k.clauses n ≡ None → clauses ≡ put_at k.clauses n (Some c) → Adds k c n (record { clauses = clauses; fixed = k.fixed; refuted = k.refuted })
added-kept k [] n clauses long small free e = absurd (omega arith)
added-kept k (l ∷ []) n clauses long small free e = absurd (omega arith)
added-kept k (l ∷ q ∷ rest) n clauses long small free e = record { numbered = (small, free); clauses = e; fixed = refl; refuted = refl }

none-fixed : (n l : ℕ) → is_fixed (replicate n false) l ≡ true → ⊥
none-fixed zero l h = true≢false (sym h)
none-fixed (suc n) zero h = true≢false (sym h)
none-fixed (suc n) (suc l) h = none-fixed n l h

none≢some : (c : List ℕ) → None ≡ Some c → ⊥
none≢some c h = cc

pub entailed-none : (formula : List (List ℕ)) (n : ℕ) → IsEntailed formula (record { clauses = []; fixed = replicate n false; refuted = false })
entailed-none formula n = record {
  clauses = λ m c h. absurd (none≢some c h);
  fixed = λ l h. absurd (none-fixed n l h);
  refuted = λ h. absurd (true≢false (sym h));
}

-- a formula entails its clauses
pub entails-own : (formula : List (List ℕ)) (n : ℕ) → n < length formula → Entails formula (get_or formula n [])
entails-own formula n inside = record { sure = λ v holds. holds.each n [] inside }

pub entailed-appended : (formula : List (List ℕ)) (k : Held) (c : List ℕ) → IsEntailed formula k → Entails formula c → IsEntailed formula (record { clauses = k.clauses ++ Some c ∷ []; fixed = k.fixed; refuted = k.refuted })
entailed-appended formula k c trusted entails = record {
  clauses = λ m d h.
      ⊎_elim
      (λ (e : Some c ≡ Some d). rw (some-same c d e) at entails)
      (λ (e : clause_at k.clauses m ≡ Some d). trusted.clauses m d e)
      (more-at k.clauses m (Some c) d h);
  fixed = trusted.fixed;
  refuted = trusted.refuted;
}

pub entailed-freed : (formula : List (List ℕ)) (k : Held) → IsEntailed formula k → IsEntailed formula (record { clauses = k.clauses ++ None ∷ []; fixed = k.fixed; refuted = k.refuted })
entailed-freed formula k trusted = record {
  clauses = λ m d h.
      ⊎_elim
      (λ (e : None ≡ Some d). absurd (none≢some d e))
      (λ (e : clause_at k.clauses m ≡ Some d). trusted.clauses m d e)
      (more-at k.clauses m None d h);
  fixed = trusted.fixed;
  refuted = trusted.refuted;
}

pub entailed-at : (formula : List (List ℕ)) (k : Held) (n : ℕ) (c : List ℕ) → IsEntailed formula k → clause_at k.clauses n ≡ Some c → Entails formula c
entailed-at formula k n c trusted h = trusted.clauses n c h

pub entailed-literal : (formula : List (List ℕ)) (k : Held) (l : ℕ) → IsEntailed formula k → is_fixed k.fixed l ≡ true → Entails formula (l ∷ [])
entailed-literal formula k l trusted h = trusted.fixed l h

pub ruleset lemma_rules = (entailed-at, entailed-literal)

pub ruleset new_rules = (entailed-none)

pub ruleset given_rules = (entails-own)

pub ruleset give_rules = (entailed-appended, entailed-freed)

pub ruleset learn_rules = (follows-sound)

pub ruleset refute_rules = (entailed-refuted)

pub ruleset fix_rules = (entailed-fixed)

pub ruleset keep_rules = (entailed-kept, added-kept)

pub ruleset admit_rules = (entailed-kept)

pub ruleset forget_rules = (entailed-forgotten)
