-- Activities that wait for one predecessor less, one after the other.
use Rattle.std.proofs.Common.{◌≡◌, ℕ, zero, suc, ◌+◌, ◌<◌, ◌≤◌, ◌==◌, ◌||◌, Bool, true, false, List, length, get_or, set, length-set, take, add-one, arith, refl, sym, ap, ◌∙◌, ⊎_elim}
use Rattle.std.specs.List.{list_any}
use Rattle.std.proofs.lemmas.Bool.{both_ways, cases_eq, eq-eqb, ne_eqb, or_right}
use Rattle.std.proofs.lemmas.List.{get_or-set_same, get_or-set_other, take_more}
use Rattle.std.proofs.lemmas.List.Recursion.{or_push}
use Rattle.serial_sgs.specs.Members.{has}
use Rattle.serial_sgs.specs.Waiting.{AreOthers}
use Rattle.serial_pass.specs.declared.waiting.Wait.{Wait}
use Rattle.serial_pass.specs.Waiting.{AreTold, HaveEntered, no_wait, told}

any_more : (others : List ℕ) (i j : ℕ) → i < length others → list_any (λ s. s == j) (take (i + 1) others) ≡ (list_any (λ s. s == j) (take i others) || (get_or others i 0 == j))
any_more others i j inside =
    ap (list_any (λ s. s == j)) (take_more others i 0 inside)
    ∙ or_push (list_any (λ (s : ℕ). s == j)) (λ (s : ℕ). s == j) refl (λ _ _. refl) (take i others) (get_or others i 0)

-- none of those before is the same
pub fresh : (others : List ℕ) (n i k : ℕ) → AreOthers n others → k ≤ i → i < length others → list_any (λ s. s == get_or others i 0) (take k others) ≡ false
fresh others n i zero apart l inside = refl
fresh others n i (suc k) apart l inside =
    rw (← add-one) (any_more others k (get_or others i 0) (omega arith) ∙ neither _ _ (fresh others n i k apart (omega arith) inside) (ne_eqb (get_or others k 0) (get_or others i 0) (apart.apart k i (omega arith) inside)))
  where
    neither : (x y : Bool) → x ≡ false → y ≡ false → (x || y) ≡ false
    neither x y a b = rw (a, b) refl

pub record IsTelling (after : List ℕ) (i finish point : ℕ) (waits later : List Wait) (words now : List ℕ) : Type 0 where
  pub told : AreTold (take i after) finish point waits later
  pub entered : HaveEntered (take i after) later words now

pub telling_none : (after : List ℕ) (finish point : ℕ) (waits : List Wait) (words : List ℕ) → IsTelling after 0 finish point waits waits words words
telling_none after finish point waits words = record {
  told = record { count = refl; own = λ s e. absurd (both_ways false refl e); rest = λ s _. refl };
  entered = record { own = λ s e. absurd (both_ways false refl e); rest = λ s _. refl };
}

-- the next one is still to be counted
pub untold : (after : List ℕ) (n i finish point : ℕ) (waits later : List Wait) (words now : List ℕ) → AreOthers n after → i < length after → IsTelling after i finish point waits later words now → (get_or later (get_or after i 0) no_wait ≡ get_or waits (get_or after i 0) no_wait) × (has now (get_or after i 0) ≡ has words (get_or after i 0))
untold after n i finish point waits later words now apart inside was =
    let new = fresh after n i i apart (omega arith) inside in
    (was.told.rest (get_or after i 0) new, was.entered.rest (get_or after i 0) new)

pub telling_next : (after : List ℕ) (n i finish point : ℕ) (waits later : List Wait) (words now more : List ℕ) → AreOthers n after → n ≡ length waits → i < length after → IsTelling after i finish point waits later words now → has more (get_or after i 0) ≡ ((told finish point (get_or later (get_or after i 0) no_wait)).missing == 0) → ((j : ℕ) → (j ≡ get_or after i 0 → ⊥) → has more j ≡ has now j) → IsTelling after (i + 1) finish point waits (set later (get_or after i 0) (told finish point (get_or later (get_or after i 0) no_wait))) words more
telling_next after n i finish point waits later words now more apart all inside was own rest =
    let x : ℕ = get_or after i 0 in
    let new : Wait = told finish point (get_or later x no_wait) in
    let before = untold after n i finish point waits later words now apart inside was in
    let among : x < length later = omega (arith, apart.inside i 0 inside, all, was.told.count) in
    let here : get_or (set later x new) x no_wait ≡ new = get_or-set_same later x new no_wait among in
    let there : (s : ℕ) → (s ≡ x → ⊥) → get_or (set later x new) s no_wait ≡ get_or later s no_wait = λ s ne. get_or-set_other later x s new no_wait ne in
    let listed : (s : ℕ) → (s ≡ x → ⊥) → list_any (λ k. k == s) (take (i + 1) after) ≡ list_any (λ k. k == s) (take i after) = λ s ne. any_more after i s inside ∙ or_no _ _ (ne_eqb x s (λ e. ne (sym e))) in
    record {
      told = record {
        count = length-set later x new ∙ was.told.count;
        own = λ s e.
            ⊎_elim
            (λ (same : s ≡ x). rw same (here ∙ ap (told finish point) before.0))
            (λ (ne : s ≡ x → ⊥). there s ne ∙ was.told.own s (sym (listed s ne) ∙ e))
            (cases_eq s x);
        rest = λ s e.
            ⊎_elim
            (λ (same : s ≡ x). absurd (both_ways _ e (ap (λ (k : ℕ). list_any (λ j. j == k) (take (i + 1) after)) same ∙ any_more after i x inside ∙ or_right _ _ (eq-eqb x x refl))))
            (λ (ne : s ≡ x → ⊥). there s ne ∙ was.told.rest s (sym (listed s ne) ∙ e))
            (cases_eq s x);
      };
      entered = record {
        own = λ s e.
            ⊎_elim
            (λ (same : s ≡ x). rw same (own ∙ ap (λ (w : Wait). w.missing == 0) (sym here)))
            (λ (ne : s ≡ x → ⊥). rest s ne ∙ was.entered.own s (sym (listed s ne) ∙ e) ∙ ap (λ (w : Wait). w.missing == 0) (sym (there s ne)))
            (cases_eq s x);
        rest = λ s e.
            ⊎_elim
            (λ (same : s ≡ x). absurd (both_ways _ e (ap (λ (k : ℕ). list_any (λ j. j == k) (take (i + 1) after)) same ∙ any_more after i x inside ∙ or_right _ _ (eq-eqb x x refl))))
            (λ (ne : s ≡ x → ⊥). rest s ne ∙ was.entered.rest s (sym (listed s ne) ∙ e))
            (cases_eq s x);
      };
    }
  where
    or_no : (x y : Bool) → y ≡ false → (x || y) ≡ x
    or_no true y e = refl
    or_no false y e = e
