-- Tenants are of one purse where they share one by name, and never else.
use Rattle.std.proofs.Common.{◌≡◌, ◌≢◌, ◌⊎◌, inl, inr, ⊎_elim, ℕ, zero, suc, ◌+◌, ◌-◌, ◌<◌, ◌≤◌, ◌&&◌, eqb, Bool, true, false, cond, List, [], ◌∷◌, length, filter, get_or, Option, Some, None, refl, sym, ap, ◌∙◌, subst, arith}
use Rattle.std.proofs.lemmas.Bool.Decides.{nat_tests}
use Rattle.std.specs.List.{range_with_len}
use Rattle.mrcpsp.specs.Numbers.{first_from}
use Rattle.mrcpsp.proofs.NumbersLemmas.{first_from-le}
use Rattle.farm_core.specs.Name.{same_bytes}
use Rattle.farm_core.specs.Purses.{purse_name, is_shared, first_member, is_first, passing, purse_of, purses, members_of, place_of}
use Rattle.farm_core.specs.Laws.{PursesAreShared}
use Rattle.farm_core.proofs.PlaceLemmas.{at_place, in_place, all_pass, first_from-most, nth_of}

split : (a b : Bool) → (a && b) ≡ true → (a ≡ true) × (b ≡ true)
split true b h = (refl, h)
split false b h = absurd (cc)

bytes_are : (xs ys : List ℕ) → same_bytes xs ys ≡ true → xs ≡ ys
bytes_are [] [] h = refl
bytes_are [] (y ∷ ys) h = absurd (cc)
bytes_are (x ∷ xs) [] h = absurd (cc)
bytes_are (x ∷ xs) (y ∷ ys) h =
    let both = split (eqb x y) (same_bytes xs ys) h in
    let first = both.0 in
    let heads : x ≡ y = grind (arith, nat_tests) in
    ap (λ (n : ℕ). n ∷ xs) heads ∙ ap (λ (ns : List ℕ). y ∷ ns) (bytes_are xs ys both.1)

shared_are : (n m : Option (List ℕ)) → is_shared n m ≡ true → n ≡ m
shared_are (Some a) (Some b) h = ap Some (bytes_are a b h)
shared_are (Some a) None h = absurd (cc)
shared_are None m h = absurd (cc)

pub shared_back : (n m : Option (List ℕ)) → is_shared n m ≡ true → is_shared m n ≡ true
shared_back n m h =
    let e = shared_are n m h in
    subst (λ (k : Option (List ℕ)). is_shared k n ≡ true) e (subst (λ (k : Option (List ℕ)). is_shared n k ≡ true) (sym e) h)

shared_on : (n m o : Option (List ℕ)) → is_shared n m ≡ true → is_shared m o ≡ true → is_shared n o ≡ true
shared_on n m o h i = subst (λ (k : Option (List ℕ)). is_shared n k ≡ true) (shared_are m o i) h

pub is_eq : (a b : ℕ) → a ≡ b → eqb a b ≡ true
is_eq a b e = grind (arith, nat_tests)

pub is_ne : (a b : ℕ) → a ≢ b → eqb a b ≡ false
is_ne a b e = grind (arith, nat_tests)

-- ---- the first member

hit_or_end : (test : ℕ → Bool) (k t : ℕ) → (first_from test k t ≡ t + k) ⊎ (test (first_from test k t) ≡ true)
hit_or_end test zero t = inl (omega arith)
hit_or_end test (suc k) t = by (hit_or_end test k (t + 1)) (test t) refl
  where
    by : (first_from test k (t + 1) ≡ t + 1 + k) ⊎ (test (first_from test k (t + 1)) ≡ true) → (b : Bool) → test t ≡ b
        → (cond b t (first_from test k (t + 1)) ≡ t + suc k) ⊎ (test (cond b t (first_from test k (t + 1))) ≡ true)
    by rest true h = inr h
    by (inl e) false h = inl (e ∙ omega arith)
    by (inr e) false h = inr e

abbrev Names : Type 0
Names = List (Option (List ℕ))

first_at_most : (names : Names) (t : ℕ) → first_member names t ≤ t
unfolding first_member
first_at_most names t =
    let most = first_from-most (λ u. is_shared (purse_name names u) (purse_name names t)) t 0 in
    omega arith

first_is : (names : Names) (t : ℕ) → (first_member names t ≡ t) ⊎ (is_shared (purse_name names (first_member names t)) (purse_name names t) ≡ true)
unfolding first_member
first_is names t =
    ⊎_elim
    (λ (e : first_from (λ u. is_shared (purse_name names u) (purse_name names t)) t 0 ≡ 0 + t). inl (e ∙ omega arith))
    (λ (e : is_shared (purse_name names (first_from (λ u. is_shared (purse_name names u) (purse_name names t)) t 0)) (purse_name names t) ≡ true). inr e)
    (hit_or_end (λ u. is_shared (purse_name names u) (purse_name names t)) t 0)

first_least : (names : Names) (t u : ℕ) → is_shared (purse_name names u) (purse_name names t) ≡ true → first_member names t ≤ u
unfolding first_member
first_least names t u h = first_from-le (λ v. is_shared (purse_name names v) (purse_name names t)) t 0 u (omega arith) h

first_up_to : (names : Names) (t u : ℕ) → is_shared (purse_name names t) (purse_name names u) ≡ true → first_member names t ≤ first_member names u
first_up_to names t u h =
    let back = shared_back (purse_name names t) (purse_name names u) h in
    ⊎_elim
    (λ (e : first_member names u ≡ u). subst (λ (n : ℕ). first_member names t ≤ n) (sym e) (first_least names t u back))
    (λ (e : is_shared (purse_name names (first_member names u)) (purse_name names u) ≡ true). first_least names t (first_member names u) (shared_on (purse_name names (first_member names u)) (purse_name names u) (purse_name names t) e back))
    (first_is names u)

same_first : (names : Names) (t u : ℕ) → is_shared (purse_name names t) (purse_name names u) ≡ true → first_member names t ≡ first_member names u
same_first names t u h =
    let below = first_up_to names t u h in
    let above = first_up_to names u t (shared_back (purse_name names t) (purse_name names u) h) in
    omega arith

first_stays : (names : Names) (t : ℕ) → first_member names (first_member names t) ≡ first_member names t
first_stays names t =
    ⊎_elim
    (λ (e : first_member names t ≡ t). ap (first_member names) e)
    (λ (e : is_shared (purse_name names (first_member names t)) (purse_name names t) ≡ true). same_first names (first_member names t) t e)
    (first_is names t)

is_first_one : (names : Names) (k : ℕ) → first_member names k ≡ k → is_first names (0 + k) ≡ true
is_first_one names k h =
    let at : 0 + k ≡ k = omega arith in
    ap (is_first names) at ∙ is_eq (first_member names k) k h

-- ---- the number

same_number : (names : Names) (t u : ℕ) → purse_of names t ≡ purse_of names u → first_member names t ≡ first_member names u
unfolding purse_of
same_number names t u h =
    let n : ℕ = suc (first_member names t + first_member names u) in
    let one = at_place (is_first names) 0 n (first_member names t) 0 (omega arith) (is_first_one names (first_member names t) (first_stays names t)) in
    let two = at_place (is_first names) 0 n (first_member names u) 0 (omega arith) (is_first_one names (first_member names u) (first_stays names u)) in
    let both : 0 + first_member names t ≡ 0 + first_member names u = sym one ∙ ap (λ (i : ℕ). get_or (filter (is_first names) (range_with_len 0 n)) i 0) h ∙ two in
    omega arith

-- a tenant has the number of its purse's first member, which is how many first members come before it
pub joined : (names : Names) (t : ℕ) → purse_of names t ≡ purse_of names (first_member names t)
unfolding purse_of
joined names t = ap (λ (n : ℕ). length (filter (is_first names) (range_with_len 0 n))) (sym (first_stays names t))

pub founded : (names : Names) (t : ℕ) → first_member names t ≡ t → purse_of names t ≡ length (passing (is_first names) t)
unfolding purse_of
founded names t h = ap (λ (n : ℕ). length (passing (is_first names) n)) h

shared : (names : Names) (t u : ℕ) → is_shared (purse_name names t) (purse_name names u) ≡ true → purse_of names t ≡ purse_of names u
unfolding purse_of
shared names t u h = ap (λ (n : ℕ). length (filter (is_first names) (range_with_len 0 n))) (same_first names t u h)

pub apart : (names : Names) (t u : ℕ) → purse_of names t ≡ purse_of names u → (t ≡ u) ⊎ (is_shared (purse_name names t) (purse_name names u) ≡ true)
apart names t u h =
    let same = same_number names t u h in
    ⊎_elim
    (λ (e : first_member names t ≡ t).
    ⊎_elim
    (λ (d : first_member names u ≡ u). inl (sym e ∙ same ∙ d))
    (λ (d : is_shared (purse_name names (first_member names u)) (purse_name names u) ≡ true). inr (subst (λ (n : ℕ). is_shared (purse_name names n) (purse_name names u) ≡ true) (sym same ∙ e) d))
    (first_is names u))
    (λ (e : is_shared (purse_name names (first_member names t)) (purse_name names t) ≡ true).
    let back = shared_back (purse_name names (first_member names t)) (purse_name names t) e in
    ⊎_elim
    (λ (d : first_member names u ≡ u). inr (subst (λ (n : ℕ). is_shared (purse_name names t) (purse_name names n) ≡ true) (same ∙ d) back))
    (λ (d : is_shared (purse_name names (first_member names u)) (purse_name names u) ≡ true).
    inr (shared_on (purse_name names t) (purse_name names (first_member names t)) (purse_name names u) back (subst (λ (n : ℕ). is_shared (purse_name names n) (purse_name names u) ≡ true) (sym same) d)))
    (first_is names u))
    (first_is names t)

pub is_own : (names : Names) (t : ℕ) → eqb (purse_of names (0 + t)) (purse_of names t) ≡ true
is_own names t =
    let at : 0 + t ≡ t = omega arith in
    is_eq (purse_of names (0 + t)) (purse_of names t) (ap (purse_of names) at)

found : (names : Names) (t d : ℕ) → t < length names → get_or (members_of names (purse_of names t)) (place_of names t) d ≡ t
unfolding members_of place_of
found names t d l = at_place (λ u. eqb (purse_of names u) (purse_of names t)) 0 (length names) t d l (is_own names t) ∙ omega arith

pub counted : (names : Names) (t : ℕ) → t < length names → purse_of names t < purses names
unfolding purse_of purses
counted names t l =
    let most = first_at_most names t in
    in_place (is_first names) 0 (length names) (first_member names t) (omega arith) (is_first_one names (first_member names t) (first_stays names t))

number_of_first : (f : ℕ → Bool) (a b : ℕ) → eqb a b ≡ true → a ≡ b
number_of_first f a b h = grind (arith, nat_tests)

-- each purse has a member
pub record IsMemberOf (names : Names) (p t : ℕ) : Type 0 where
  pub known : t < length names
  pub purse : purse_of names t ≡ p

pub member_in : (names : Names) (p : ℕ) → p < purses names → (t : ℕ) × IsMemberOf names p t
unfolding purses purse_of
member_in names p l =
    let t : ℕ = get_or (filter (is_first names) (range_with_len 0 (length names))) p 0 in
    let it = nth_of (is_first names) 0 (length names) p 0 l in
    let same : first_member names t ≡ t = number_of_first (is_first names) (first_member names t) t it.passes in
    let at : t - 0 ≡ t = omega arith in (
      t,
      record {
        known = omega (arith, it.below);
        purse = ap (λ n. length (filter (is_first names) (range_with_len 0 n))) (same ∙ sym at) ∙ it.place;
      },
    )

onto : (names : Names) (p : ℕ) → p < purses names → (t : ℕ) × (t < length names) × (purse_of names t ≡ p)
onto names p l = let it = member_in names p l in (it.0, it.1.known, it.1.purse)

ordered : (names : Names) (t u : ℕ) → first_member names t ≡ t → first_member names u ≡ u → t < u → purse_of names t < purse_of names u
unfolding purse_of
ordered names t u e d l =
    in_place (is_first names) 0 (first_member names u) (first_member names t) (omega arith) (is_first_one names (first_member names t) (first_stays names t))

first_self : (names : Names) → ((t : ℕ) → purse_name names t ≡ None) → (t : ℕ) → first_member names t ≡ t
first_self names none t =
    ⊎_elim
    (λ (e : first_member names t ≡ t). e)
    (λ (e : is_shared (purse_name names (first_member names t)) (purse_name names t) ≡ true).
    let never : is_shared None (purse_name names t) ≡ true = subst (λ (n : Option (List ℕ)). is_shared n (purse_name names t) ≡ true) (none (first_member names t)) e in
    absurd (cc))
    (first_is names t)

plain : (names : Names) → ((t : ℕ) → purse_name names t ≡ None) → (t : ℕ) → purse_of names t ≡ t
unfolding purse_of
plain names none t =
    all_pass (is_first names) 0 (first_member names t) (λ u. is_eq (first_member names u) u (first_self names none u)) ∙ first_self names none t

pub purses_are_shared : PursesAreShared
purses_are_shared = record { shared = shared; apart = apart; found = found; counted = counted; onto = onto; ordered = ordered; plain = plain }
