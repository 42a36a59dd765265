-- Who waits for whom, as one more is placed or the last one is taken back.
use Rattle.std.proofs.Common.{◌≡◌, ℕ, zero, suc, ◌+◌, ◌<◌, ◌≤◌, true, false, ◌&&◌, ◌||◌, ◌==◌, Bool, not, cond, nat_lt, List, [], ◌∷◌, length, get_or, set, length-set, take, replicate, add-one, arith, refl, sym, ap, ◌∙◌, ⊎_elim}
use Rattle.std.specs.List.{list_any}
use Rattle.std.proofs.lemmas.Bool.{cases_lt, cases_eq, cases_Bool, eq-eqb, ne_eqb, ltb-true, cond-false}
use Rattle.std.proofs.lemmas.List.{length-replicate, get_or-replicate, get_or-set_same, get_or-set_other, take_more}
use Rattle.std.proofs.lemmas.List.Recursion.{or_push}
use Rattle.serial_sgs.specs.Waiting.{IsWaiting, IsLess, AreOthers, is_open}
use Rattle.serial_sgs.proofs.MemberLemmas.{empty_word}

-- where everybody is marked nobody may come next
pub marked_all : (n : ℕ) (missing : List ℕ) → n ≤ 255 → length missing ≡ n → IsWaiting (record { flags = replicate n true; missing = missing }) (0 ∷ 0 ∷ 0 ∷ 0 ∷ [])
marked_all n missing few same = record {
  same = same ∙ sym (length-replicate n true);
  few = omega (arith, length-replicate n true);
  exact = λ j l. empty_word j l ∙ sym (closed j);
}
  where
    both_false : (x y z : Bool) → x ≡ false → (x && (y && z)) ≡ false
    both_false x y z e = rw e refl

    not_below : (x y : ℕ) → y ≤ x → nat_lt x y ≡ false
    not_below x y l = ⊎_elim (λ (e : nat_lt x y ≡ true). absurd (omega (arith, ltb-true x y e, l))) (λ e. e) (cases_Bool (nat_lt x y))

    middle_false : (x y z : Bool) → y ≡ false → (x && (y && z)) ≡ false
    middle_false true y z e = rw e refl
    middle_false false y z e = refl

    closed : (j : ℕ) → is_open (record { flags = replicate n true; missing = missing }) j ≡ false
    closed j =
        ⊎_elim
        (λ (inside : j < n). middle_false (nat_lt j (length (replicate n true))) (not (get_or (replicate n true) j false)) (get_or missing j 0 == 0) (ap not (get_or-replicate n j true false inside)))
        (λ (past : n ≤ j). both_false (nat_lt j (length (replicate n true))) (not (get_or (replicate n true) j false)) (get_or missing j 0 == 0) (not_below j (length (replicate n true)) (omega (arith, length-replicate n true))))
        (cases_lt j n)

any_more : (others : List ℕ) (i j : ℕ) → i < length others → list_any (λ s. s == j) (take (i + 1) others) ≡ (list_any (λ s. s == j) (take i others) || (get_or others i 0 == j))
any_more others i j inside =
    ap (list_any (λ s. s == j)) (take_more others i 0 inside)
    ∙ or_push (list_any (λ (s : ℕ). s == j)) (λ (s : ℕ). s == j) refl (λ _ _. refl) (take i others) (get_or others i 0)

-- none of those before is the same
fresh_so_far : (others : List ℕ) (n i k : ℕ) → AreOthers n others → k ≤ i → i < length others → list_any (λ s. s == get_or others i 0) (take k others) ≡ false
fresh_so_far others n i zero apart l inside = refl
fresh_so_far others n i (suc k) apart l inside =
    rw (← add-one) (any_more others k (get_or others i 0) (omega arith) ∙ neither _ _ (fresh_so_far others n i k apart (omega arith) inside) (ne_eqb (get_or others k 0) (get_or others i 0) (apart.apart k i (omega arith) inside)))
  where
    neither : (x y : Bool) → x ≡ false → y ≡ false → (x || y) ≡ false
    neither x y a b = rw (a, b) refl

one_if : (x y : Bool) → y ≡ false → cond {A = ℕ} (x || y) 1 0 ≡ cond x 1 0
one_if true y e = refl
one_if false y e = ap (λ b. cond {A = ℕ} b 1 0) e

one_more : (x y : Bool) → y ≡ true → cond {A = ℕ} (x || y) 1 0 ≡ 1
one_more true y e = refl
one_more false y e = ap (λ b. cond {A = ℕ} b 1 0) e

-- what it misses has not changed so far
pub still : (others more less : List ℕ) (n i : ℕ) → AreOthers n others → i < length others → IsLess (take i others) more less → get_or less (get_or others i 0) 0 ≡ get_or more (get_or others i 0) 0
still others more less n i apart inside so_far =
    let s : ℕ = get_or others i 0 in
    let none : cond {A = ℕ} (list_any (λ x. x == s) (take i others)) 1 0 ≡ 0 = cond-false _ 1 0 (fresh_so_far others n i i apart (omega arith) inside) in
    omega (arith, so_far.each s, none)

changed : (others : List ℕ) (i : ℕ) → i < length others → (j : ℕ) → (j ≡ get_or others i 0 → ⊥) → cond {A = ℕ} (list_any (λ s. s == j) (take (i + 1) others)) 1 0 ≡ cond (list_any (λ s. s == j) (take i others)) 1 0
changed others i inside j ne =
    ap (λ b. cond {A = ℕ} b 1 0) (any_more others i j inside) ∙ one_if (list_any (λ s. s == j) (take i others)) (get_or others i 0 == j) (ne_eqb (get_or others i 0) j (λ e. ne (sym e)))

counted : (others : List ℕ) (i : ℕ) → i < length others → cond {A = ℕ} (list_any (λ s. s == get_or others i 0) (take (i + 1) others)) 1 0 ≡ 1
counted others i inside =
    let s : ℕ = get_or others i 0 in
    ap (λ b. cond {A = ℕ} b 1 0) (any_more others i s inside) ∙ one_more (list_any (λ x. x == s) (take i others)) (s == s) (eq-eqb s s refl)

-- one of the others misses one less
pub less_next : (others more less : List ℕ) (n i now : ℕ) → AreOthers n others → i < length others → IsLess (take i others) more less → get_or others i 0 < length less → now + 1 ≡ get_or less (get_or others i 0) 0 → IsLess (take (i + 1) others) more (set less (get_or others i 0) now)
less_next others more less n i now apart inside so_far known drop =
    let s : ℕ = get_or others i 0 in
    record {
      count = length-set less s now ∙ so_far.count;
      each = λ j.
          ⊎_elim
          (λ (e : j ≡ s). rw e (omega (arith, get_or-set_same less s now 0 known, counted others i inside, still others more less n i apart inside so_far)))
          (λ (ne : j ≡ s → ⊥). omega (arith, get_or-set_other less s j now 0 ne, changed others i inside j ne, so_far.each j))
          (cases_eq j s);
    }

-- or one more
pub more_next : (others more less : List ℕ) (n i now : ℕ) → AreOthers n others → i < length others → IsLess (take i others) more less → get_or others i 0 < length more → now ≡ get_or more (get_or others i 0) 0 + 1 → IsLess (take (i + 1) others) (set more (get_or others i 0) now) less
more_next others more less n i now apart inside so_far known rise =
    let s : ℕ = get_or others i 0 in
    record {
      count = so_far.count ∙ sym (length-set more s now);
      each = λ j.
          ⊎_elim
          (λ (e : j ≡ s). rw e (omega (arith, get_or-set_same more s now 0 known, counted others i inside, still others more less n i apart inside so_far)))
          (λ (ne : j ≡ s → ⊥). omega (arith, get_or-set_other more s j now 0 ne, changed others i inside j ne, so_far.each j))
          (cases_eq j s);
    }
