-- Marks of literals as sets of literals.
use Rattle.std.proofs.Common.{◌≡◌, ◌⊎◌, ℕ, ◌+◌, ◌<◌, ◌≤◌, ◌==◌, ◌||◌, ◌&&◌, max, Bool, true, false, cond, nat_lt, nat_le, List, [], ◌∷◌, length, length-set, map, set, drop, replicate, zero, suc, add-one, arith, refl, sym, ◌∙◌, ap, slice_index, ⊎_elim, inl, inr, get_or-set_same, get_or-set_other}
use Rattle.std.specs.List.{list_any}
use Rattle.std.proofs.lemmas.Grind.{common_steps}
use Rattle.std.proofs.lemmas.List.{length-map, map-set, get_or-replicate, length-replicate}
use Rattle.std.proofs.Math.Seq.{map-set_same, drop-cons}
use Rattle.std.proofs.Math.ListN.{get_or-map, get_or-eq_default}
use Rattle.clause_kernel.specs.Clauses.{negated}
use Rattle.clause_kernel.specs.Propagation.{with_true, is_fixed}
use Rattle.clause_kernel.specs.Marks.{is_marked, IsFresh, fixed_of}

same_or_not : (k at : ℕ) → (k ≡ at) ⊎ (k ≡ at → ⊥)
same_or_not k at = grind arith

ext : (f g : ℕ → Bool) → ((l : ℕ) → f l ≡ g l) → f ≡ g
ext f g h = λ i l. h l i

mark-case : (values : List ℕ) (mark l : ℕ) → IsFresh values mark → (max (slice_index values l) mark == 4294967295) ≡ (slice_index values l == 4294967295)
mark-case values mark l fresh = let below : mark < 4294967295 = fresh.below in let cases : (slice_index values l ≤ mark) ⊎ (slice_index values l ≡ 4294967295) = fresh.each l in grind (arith, common_steps)

marked-at : (n mark v q l : ℕ) → l ≡ q → q < n → nat_le mark (max v mark) ≡ (nat_le mark v || (nat_lt l n && ((q == l) || false)))
marked-at n mark v q l e inside = grind (arith, common_steps)

marked-else : (b c : Bool) (q l : ℕ) → (l ≡ q → ⊥) → b ≡ (b || (c && ((q == l) || false)))
marked-else b c q l other = grind (arith, common_steps)

marked-past : (b : Bool) (n q l : ℕ) → (q < n → ⊥) → b ≡ (b || (nat_lt l n && ((q == l) || false)))
marked-past b n q l out = grind (arith, common_steps)

pub marked-here : (values : List ℕ) (q mark : ℕ) → q < length values → is_marked (set values q (max (slice_index values q) mark)) mark ≡ with_true (length values) (is_marked values mark) (q ∷ [])
marked-here values q mark inside = ext (is_marked (set values q (max (slice_index values q) mark)) mark) (with_true (length values) (is_marked values mark) (q ∷ [])) (λ l.
    ⊎_elim
    (λ (e : l ≡ q). rw (e, get_or-set_same values q (max (slice_index values q) mark) 0 inside) (marked-at (length values) mark (slice_index values q) q q refl inside))
    (λ (n : l ≡ q → ⊥). rw (get_or-set_other values q l (max (slice_index values q) mark) 0 n) (marked-else (nat_le mark (slice_index values l)) (nat_lt l (length values)) q l n))
    (same_or_not l q))

pub marked-out : (values : List ℕ) (q mark : ℕ) → (q < length values → ⊥) → is_marked values mark ≡ with_true (length values) (is_marked values mark) (q ∷ [])
marked-out values q mark out = ext (is_marked values mark) (with_true (length values) (is_marked values mark) (q ∷ [])) (λ l. marked-past (nat_le mark (slice_index values l)) (length values) q l out)

pub fixed-here : (values : List ℕ) (q mark : ℕ) → IsFresh values mark → fixed_of (set values q (max (slice_index values q) mark)) ≡ fixed_of values
fixed-here values q mark fresh = map-set_same (λ m. m == 4294967295) values q (max (slice_index values q) mark) 0 (mark-case values mark q fresh)

or-none : (a b : Bool) → (a || (b && false)) ≡ a
or-none a b = grind (arith, common_steps)

or-more : (a b c d : Bool) → (a || (b && (c || d))) ≡ ((a || (b && (c || false))) || (b && d))
or-more a b c d = grind (arith, common_steps)

-- no literals more
pub with_none : (n : ℕ) (t : ℕ → Bool) → with_true n t [] ≡ t
with_none n t = ext (with_true n t []) t (λ l. or-none (t l) (nat_lt l n))

-- literals one by one
pub with_more : (n : ℕ) (t : ℕ → Bool) (q : ℕ) (qs : List ℕ) → with_true n t (q ∷ qs) ≡ with_true n (with_true n t (q ∷ [])) qs
with_more n t q qs = ext (with_true n t (q ∷ qs)) (with_true n (with_true n t (q ∷ [])) qs) (λ l. or-more (t l) (nat_lt l n) (q == l) (list_any (λ r. r == l) qs))

pub fixed_length : (values others : List ℕ) → fixed_of values ≡ fixed_of others → length values ≡ length others
fixed_length values others e = sym (length-map values (λ m. m == 4294967295)) ∙ (ap length e ∙ length-map others (λ m. m == 4294967295))

fresh-case : (value last mark : ℕ) → last < mark → mark ≤ 4294967295 → ((value ≤ last) ⊎ (value ≡ 4294967295)) → nat_le mark value ≡ (value == 4294967295)
fresh-case value last mark above most cases = grind (arith, common_steps)

fixed-at : (values : List ℕ) (l : ℕ) → is_fixed (fixed_of values) l ≡ (slice_index values l == 4294967295)
fixed-at values l = get_or-map (λ m. m == 4294967295) values l 0

-- below a new mark only fixed literals are marked
pub marked-fresh : (values : List ℕ) (last mark : ℕ) → IsFresh values last → last < mark → mark ≤ 4294967295 → is_marked values mark ≡ is_fixed (fixed_of values)
marked-fresh values last mark fresh above most = ext (is_marked values mark) (is_fixed (fixed_of values)) (λ l. fresh-case (slice_index values l) last mark above most (fresh.each l) ∙ sym (fixed-at values l))

pub fresh-next : (values : List ℕ) (last : ℕ) → IsFresh values last → last + 1 < 4294967295 → IsFresh values (last + 1)
fresh-next values last fresh most = record { below = most; each = λ l. let h : (slice_index values l ≤ last) ⊎ (slice_index values l ≡ 4294967295) = fresh.each l in grind arith }

inside_or_not : (k n : ℕ) → (k < n) ⊎ (n ≤ k)
inside_or_not k n = grind arith

-- each value is nothing or the mark of fixed ones
pub fresh-none : (values : List ℕ) → ((k : ℕ) → k < length values → (slice_index values k ≡ 0) ⊎ (slice_index values k ≡ 4294967295)) → IsFresh values 0
fresh-none values h = record {
  below = omega arith;
  each = λ l.
      ⊎_elim
      (λ (inside : l < length values). let e : (slice_index values l ≡ 0) ⊎ (slice_index values l ≡ 4294967295) = h l inside in grind arith)
      (λ (out : length values ≤ l). let e : slice_index values l ≡ 0 = get_or-eq_default values 0 out in grind arith)
      (inside_or_not l (length values));
}

-- what a mark becomes
abbrev pub cleared : ℕ → ℕ
cleared v = cond (v == 4294967295) 4294967295 0

pub cleared-case : (v : ℕ) → (cleared v == 4294967295) ≡ (v == 4294967295)
cleared-case v = grind (arith, common_steps)

pub cleared-is : (v : ℕ) → (cleared v ≡ 0) ⊎ (cleared v ≡ 4294967295)
cleared-is v = grind (arith, common_steps)

pub cleared-each : (values : List ℕ) (i v : ℕ) → i < length values → (v ≡ 0) ⊎ (v ≡ 4294967295) → ((k : ℕ) → k < i → (slice_index values k ≡ 0) ⊎ (slice_index values k ≡ 4294967295)) → (k : ℕ) → k < i + 1 → (slice_index (set values i v) k ≡ 0) ⊎ (slice_index (set values i v) k ≡ 4294967295)
cleared-each values i v inside is all k below =
    ⊎_elim
    (λ (e : k ≡ i). rw (e, get_or-set_same values i v 0 inside) is)
    (λ (n : k ≡ i → ⊥). rw (get_or-set_other values i k v 0 n) (all k (omega arith)))
    (same_or_not k i)

pub fixed-cleared : (values : List ℕ) (i v : ℕ) → (v == 4294967295) ≡ (slice_index values i == 4294967295) → fixed_of (set values i v) ≡ fixed_of values
fixed-cleared values i v e = map-set_same (λ m. m == 4294967295) values i v 0 e

pub assume-step : (n : ℕ) (t s : ℕ → Bool) (clause : List ℕ) (i : ℕ) → i < length clause → s ≡ with_true n t (negated (slice_index clause i) ∷ []) → with_true n t (map negated (drop i clause)) ≡ with_true n s (map negated (drop (i + 1) clause))
assume-step n t s clause i inside e = rw (drop-cons clause i 0 inside, e, add-one) (with_more n t (negated (slice_index clause i)) (map negated (drop (suc i) clause)))

pub fixed-set : (values : List ℕ) (q : ℕ) → fixed_of (set values q 4294967295) ≡ set (fixed_of values) q true
fixed-set values q = map-set (λ m. m == 4294967295) values q 4294967295

pub fresh-set : (values : List ℕ) (last q : ℕ) → IsFresh values last → IsFresh (set values q 4294967295) last
fresh-set values last q fresh = record {
  below = fresh.below;
  each = λ l.
      ⊎_elim
      (λ (e : l ≡ q).
      ⊎_elim
      (λ (inside : q < length values). inr (rw e (get_or-set_same values q 4294967295 0 inside)))
      (λ (out : length values ≤ q). let none : slice_index (set values q 4294967295) l ≡ 0 = get_or-eq_default (set values q 4294967295) 0 (rw (e, length-set values q 4294967295) out) in grind arith)
      (inside_or_not q (length values)))
      (λ (n : l ≡ q → ⊥). rw (get_or-set_other values q l 4294967295 0 n) (fresh.each l))
      (same_or_not l q);
}

pub fixed-none : (n : ℕ) → fixed_of (replicate n 0) ≡ replicate n false
fixed-none zero = refl
fixed-none (suc n) = rw (fixed-none n) refl

pub fresh-zero : (n : ℕ) → IsFresh (replicate n 0) 0
fresh-zero n = fresh-none (replicate n 0) (λ k inside. inl (get_or-replicate n k 0 0 (rw (length-replicate {A = ℕ} n 0) at inside)))

pub count-fixed : (values : List ℕ) → length (fixed_of values) ≡ length values
count-fixed values = length-map values (λ m. m == 4294967295)

pub ruleset count_rules = (count-fixed)

pub ruleset new_rules = (fixed-none, fresh-zero)

pub ruleset fix_rules = (fixed-set, fresh-set)

pub ruleset clear_rules = (fresh-none, fixed-cleared)

pub ruleset next_rules = (marked-fresh, fresh-next)

pub ruleset assign_rules = (marked-here, marked-out, fixed-here)

pub ruleset assume_rules = (with_none, with_more)

pub ruleset open_rules = (marked-out)

pub ruleset propagate_rules = (with_none)
