-- The first of a list by an order, as a loop over the list finds it.
use Rattle.std.proofs.Common.{◌≡◌, ℕ, ◌+◌, ◌<◌, ◌≤◌, Bool, true, false, ◌&&◌, nat_le, List, [], ◌∷◌, ◌++◌, length, get_or, take, All, Some, append_assoc, arith, refl, ap, ◌∙◌, ⊎_elim}
use Rattle.std.specs.List.{find, list_all}
use Rattle.std.proofs.lemmas.Bool.{cond-true, cond-false, cases_Bool, both_ways, le-leb, leb-true, leb-false}
use Rattle.std.proofs.lemmas.List.{take_more, take_all}
use Rattle.std.proofs.lemmas.List.Elements.{All-nil, All-cons, All-head, All-tail, All-push}
use Rattle.std.proofs.lemmas.List.Folds.{list_all-append}
use Rattle.std.proofs.lemmas.List.Sums.{list_all-from_AllPass}

-- of any two one is ahead, and who is ahead of one is ahead of all behind that one
pub record IsOrder (ahead : ℕ → ℕ → Bool) : Type 0 where
  pub total : (x y : ℕ) → ahead x y ≡ false → ahead y x ≡ true
  pub chain : (x y z : ℕ) → ahead x y ≡ true → ahead y z ≡ true → ahead x z ≡ true

ahead-self : (ahead : ℕ → ℕ → Bool) → IsOrder ahead → (x : ℕ) → ahead x x ≡ true
ahead-self ahead order x = ⊎_elim (λ (e : ahead x x ≡ true). e) (λ (e : ahead x x ≡ false). order.total x x e) (cases_Bool (ahead x x))

-- f is ahead of all of a list, and none before it is
pub record IsFirst (ahead : ℕ → ℕ → Bool) (xs : List ℕ) (f : ℕ) : Type 0 where
  pub earlier : List ℕ
  pub later : List ℕ
  pub split : xs ≡ earlier ++ f ∷ later
  pub behind : All (λ y. ahead y f ≡ false) earlier
  pub ahead_of : All (λ y. ahead f y ≡ true) xs

find_split : (test : ℕ → Bool) (earlier later : List ℕ) (f : ℕ) → All (λ y. test y ≡ false) earlier → test f ≡ true → find test (earlier ++ f ∷ later) ≡ Some f
find_split test [] later f none here = cond-true (test f) (Some f) (find test later) here
find_split test (y ∷ earlier) later f none here =
    cond-false (test y) (Some y) (find test (earlier ++ f ∷ later)) (All-head (λ y. test y ≡ false) y earlier none)
    ∙ find_split test earlier later f (All-tail (λ y. test y ≡ false) y earlier none) here

and_false : (b : Bool) → (b && false) ≡ false
and_false true = refl
and_false false = refl

all_fails : (test : ℕ → Bool) (earlier later : List ℕ) (f : ℕ) → test f ≡ false → list_all test (earlier ++ f ∷ later) ≡ false
all_fails test earlier later f other =
    list_all-append test earlier (f ∷ later) ∙ ap (λ b. list_all test earlier && (b && list_all test later)) other ∙ and_false (list_all test earlier)

-- it is the one that the search by the order finds
pub first_found : (ahead : ℕ → ℕ → Bool) (xs : List ℕ) (f : ℕ) → IsFirst ahead xs f → find (λ x. list_all (ahead x) xs) xs ≡ Some f
first_found ahead xs f first =
    ap (find (λ x. list_all (ahead x) xs)) first.split
    ∙ find_split (λ x. list_all (ahead x) xs) first.earlier first.later f
    (λ k d l. ap (list_all (ahead (get_or first.earlier k d))) first.split ∙ all_fails (ahead (get_or first.earlier k d)) first.earlier first.later f (first.behind k d l))
    (list_all-from_AllPass (ahead f) xs first.ahead_of)

-- ---- one element, and one more

pub first_alone : (ahead : ℕ → ℕ → Bool) → IsOrder ahead → (x : ℕ) → IsFirst ahead (x ∷ []) x
first_alone ahead order x = record {
  earlier = [];
  later = [];
  split = refl;
  behind = All-nil (λ y. ahead y x ≡ false);
  ahead_of = All-cons (λ y. ahead x y ≡ true) x [] (ahead-self ahead order x) (All-nil (λ y. ahead x y ≡ true));
}

pub first_stays : (ahead : ℕ → ℕ → Bool) (xs : List ℕ) (f x : ℕ) → IsFirst ahead xs f → ahead f x ≡ true → IsFirst ahead (xs ++ x ∷ []) f
first_stays ahead xs f x first still = record {
  earlier = first.earlier;
  later = first.later ++ x ∷ [];
  split = ap (λ ys. ys ++ x ∷ []) first.split ∙ append_assoc first.earlier (f ∷ first.later) (x ∷ []);
  behind = first.behind;
  ahead_of = All-push (λ y. ahead f y ≡ true) xs x first.ahead_of still;
}

pub first_changes : (ahead : ℕ → ℕ → Bool) → IsOrder ahead → (xs : List ℕ) (f x : ℕ) → IsFirst ahead xs f → ahead f x ≡ false → IsFirst ahead (xs ++ x ∷ []) x
first_changes ahead order xs f x first other = record {
  earlier = xs;
  later = [];
  split = refl;
  behind = λ k d l.
      let y = get_or xs k d in
      ⊎_elim (λ (e : ahead y x ≡ true). absurd (both_ways (ahead f x) other (order.chain f y x (first.ahead_of k d l) e))) (λ (e : ahead y x ≡ false). e) (cases_Bool (ahead y x));
  ahead_of = All-push (λ y. ahead x y ≡ true) xs x (λ k d l. order.chain x f (get_or xs k d) (order.total f x other) (first.ahead_of k d l)) (ahead-self ahead order x);
}

-- ---- a loop over the rest of a list

more : (head : ℕ) (rest : List ℕ) (i : ℕ) → i < length rest → head ∷ take (i + 1) rest ≡ (head ∷ take i rest) ++ get_or rest i 0 ∷ []
more head rest i inside = ap (λ ys. head ∷ ys) (take_more rest i 0 inside)

pub stays_more : (ahead : ℕ → ℕ → Bool) (head : ℕ) (rest : List ℕ) (i f : ℕ) → i < length rest → IsFirst ahead (head ∷ take i rest) f → ahead f (get_or rest i 0) ≡ true → IsFirst ahead (head ∷ take (i + 1) rest) f
stays_more ahead head rest i f inside first still = rw (more head rest i inside) (first_stays ahead (head ∷ take i rest) f (get_or rest i 0) first still)

pub changes_more : (ahead : ℕ → ℕ → Bool) → IsOrder ahead → (head : ℕ) (rest : List ℕ) (i f : ℕ) → i < length rest → IsFirst ahead (head ∷ take i rest) f → ahead f (get_or rest i 0) ≡ false → IsFirst ahead (head ∷ take (i + 1) rest) (get_or rest i 0)
changes_more ahead order head rest i f inside first other = rw (more head rest i inside) (first_changes ahead order (head ∷ take i rest) f (get_or rest i 0) first other)

pub first_of_all : (ahead : ℕ → ℕ → Bool) (xs : List ℕ) (head : ℕ) (rest : List ℕ) (i f : ℕ) → xs ≡ head ∷ rest → length rest ≤ i → IsFirst ahead (head ∷ take i rest) f → find (λ x. list_all (ahead x) xs) xs ≡ Some f
first_of_all ahead xs head rest i f split over first =
    let whole : IsFirst ahead (head ∷ rest) f = rw (take_all i rest over) at first in
    rw split (first_found ahead (head ∷ rest) f whole)

-- ---- orders by a key

pub least_order : (key : ℕ → ℕ) → IsOrder (λ x y. nat_le (key x) (key y))
least_order key = record {
  total = λ x y other. le-leb (key y) (key x) (omega (arith, leb-false (key x) (key y) other));
  chain = λ x y z first next. le-leb (key x) (key z) (omega (arith, leb-true (key x) (key y) first, leb-true (key y) (key z) next));
}

pub greatest_order : (key : ℕ → ℕ) → IsOrder (λ x y. nat_le (key y) (key x))
greatest_order key = record {
  total = λ x y other. le-leb (key x) (key y) (omega (arith, leb-false (key y) (key x) other));
  chain = λ x y z first next. le-leb (key z) (key x) (omega (arith, leb-true (key y) (key x) first, leb-true (key z) (key y) next));
}
