-- Sums of prices over time, price by price.
use Rattle.std.proofs.Common.{◌≡◌, ◌≢◌, ℕ, zero, suc, ◌+◌, ◌-◌, ◌<◌, ◌≤◌, Bool, cond, ◌==◌, List, [], ◌∷◌, ◌++◌, length, get_or, take, drop, set, replicate, sum, sum_by, min, arith, refl, ap, ◌∙◌, ⊎_elim, eq-eqb, ne_eqb, Option, Some, None}
use Rattle.std.specs.Prelude.{nat_le, nat_lt}
use Rattle.std.proofs.lemmas.Bool.{cases_eq, cases_lt, le-leb, lt-leb, lt-ltb, le-ltb, cond_both}
use Rattle.std.proofs.lemmas.Bool.Decides.{nat_tests}
use Rattle.std.proofs.lemmas.List.{take_more, length-set, length-replicate, get_or-replicate, drop-replicate, take-replicate, get_or-set_same, get_or-set_other, get_or_past, get_or_read}
use Rattle.std.proofs.lemmas.List.Folds.{sum_by-replicate}
use Rattle.std.proofs.lemmas.List.Sums.{sum_by-cons, sum_by_push, sum_by-take-le, get_or-le-sum_by}
use Rattle.schedule_prices.specs.declared.row.Price.{Price}
use Rattle.schedule_prices.specs.declared.place.SumKind.{SumKind}
use Rattle.schedule_prices.specs.declared.place.SumKind.TheVariants.{Begun, Ended, Used, Consumed}
use Rattle.schedule_prices.specs.declared.place.Place.{Place}
use Rattle.schedule_prices.specs.Sums.{place_of, price_at, price_from, price_before, price_in, with_price, summed, IsRaw}

sum-cons : (x : ℕ) (xs : List ℕ) → sum (x ∷ xs) ≡ x + sum xs
sum-cons x xs = sum_by-cons (λ (y : ℕ). y) x xs

le-suc : (a b : ℕ) → nat_le (suc a) (suc b) ≡ nat_le a b
le-suc a b = grind (arith, nat_tests)

lt-suc : (a b : ℕ) → nat_lt (suc a) (suc b) ≡ nat_lt a b
lt-suc a b = grind (arith, nat_tests)

-- one number more in a list
sum-set-drop : (xs : List ℕ) (i t a : ℕ) → i < length xs → sum (drop t (set xs i (get_or xs i 0 + a))) ≡ sum (drop t xs) + cond (nat_le t i) a 0
sum-set-drop [] i t a l = absurd (omega arith)
sum-set-drop (x ∷ xs) zero zero a l =
    let whole : sum ((x + a) ∷ xs) ≡ sum (x ∷ xs) + a = omega (arith, sum-cons (x + a) xs, sum-cons x xs) in
    whole
sum-set-drop (x ∷ xs) zero (suc t) a l = rw (lt-leb (suc t) 0 (omega arith)) (omega arith)
sum-set-drop (x ∷ xs) (suc i) zero a l =
    let ys = set xs i (get_or xs i 0 + a) in
    let before = sum-set-drop xs i zero a (omega arith) in
    let rest : sum ys ≡ sum xs + a = rw (le-leb 0 i (omega arith)) at before in
    let whole : sum (x ∷ ys) ≡ sum (x ∷ xs) + a = omega (arith, rest, sum-cons x ys, sum-cons x xs) in
    rw (le-leb 0 (suc i) (omega arith)) whole
sum-set-drop (x ∷ xs) (suc i) (suc t) a l = rw (le-suc t i) (sum-set-drop xs i t a (omega arith))

sum-set-take : (xs : List ℕ) (i e a : ℕ) → i < length xs → sum (take e (set xs i (get_or xs i 0 + a))) ≡ sum (take e xs) + cond (nat_lt i e) a 0
sum-set-take [] i e a l = absurd (omega arith)
sum-set-take (x ∷ xs) i zero a l = rw (le-ltb i 0 (omega arith)) refl
sum-set-take (x ∷ xs) zero (suc e) a l =
    let whole : sum ((x + a) ∷ take e xs) ≡ sum (x ∷ take e xs) + a = omega (arith, sum-cons (x + a) (take e xs), sum-cons x (take e xs)) in
    rw (lt-ltb 0 (suc e) (omega arith)) whole
sum-set-take (x ∷ xs) (suc i) (suc e) a l =
    let ys = take e (set xs i (get_or xs i 0 + a)) in
    let rest : sum ys ≡ sum (take e xs) + cond (nat_lt i e) a 0 = sum-set-take xs i e a (omega arith) in
    let whole : sum (x ∷ ys) ≡ sum (x ∷ take e xs) + cond (nat_lt i e) a 0 = omega (arith, rest, sum-cons x ys, sum-cons x (take e xs)) in
    rw (lt-suc i e) whole

-- a time behind the bound counts as the bound
from-bound : (t u bound : ℕ) → t ≤ bound → nat_le t (min u bound) ≡ nat_le t u
from-bound t u bound l = grind (arith, nat_tests)

before-bound : (e u bound : ℕ) → e ≤ bound → nat_lt (min u bound) e ≡ nat_lt u e
before-bound e u bound l = grind (arith, nat_tests)

-- nothing is summed up at first
pub raw-none : (kind : SumKind) (bound j : ℕ) → IsRaw kind bound [] j (replicate (bound + 1) 0)
raw-none kind bound j = record {
  wide = length-replicate (bound + 1) 0;
  behind = λ t l. rw drop-replicate (sum_by-replicate (λ (x : ℕ). x) (bound + 1 - t) 0 ∙ omega arith);
  before = λ e l. let short : e ≤ bound + 1 = omega arith in rw take-replicate (sum_by-replicate (λ (x : ℕ). x) e 0 ∙ omega arith);
}

-- a price at its place
raw-here : (kind : SumKind) (bound : ℕ) (prices : List Price) (x : Price) (w : Place) (line : List ℕ) → place_of kind x.row ≡ Some w → IsRaw kind bound prices w.line line
    → IsRaw kind bound (prices ++ x ∷ []) w.line (set line (min w.time bound) (get_or line (min w.time bound) 0 + x.price))
raw-here kind bound prices x w line e raw =
    let i = min w.time bound in
    let inside : i < length line = omega (arith, raw.wide) in
    record {
      wide = omega (arith, length-set line i (get_or line i 0 + x.price), raw.wide);
      behind = λ t l.
          let own : price_from kind w.line t x ≡ cond (nat_le t i) x.price 0 = rw (e, eq-eqb w.line w.line refl, from-bound t w.time bound l) refl in
          omega (arith, sum-set-drop line i t x.price inside, raw.behind t l, sum_by_push (price_from kind w.line t) prices x, own);
      before = λ t l.
          let own : price_before kind w.line t x ≡ cond (nat_lt i t) x.price 0 = rw (e, eq-eqb w.line w.line refl, before-bound t w.time bound l) refl in
          omega (arith, sum-set-take line i t x.price inside, raw.before t l, sum_by_push (price_before kind w.line t) prices x, own);
    }

-- a price at another place, or at none
raw-elsewhere : (kind : SumKind) (bound : ℕ) (prices : List Price) (x : Price) (j : ℕ) (line : List ℕ) → ((test : ℕ → Bool) → price_at (place_of kind x.row) j test x.price ≡ 0) → IsRaw kind bound prices j line
    → IsRaw kind bound (prices ++ x ∷ []) j line
raw-elsewhere kind bound prices x j line none raw = record {
  wide = raw.wide;
  behind = λ t l. omega (arith, raw.behind t l, sum_by_push (price_from kind j t) prices x, none (λ u. nat_le t u));
  before = λ e l. omega (arith, raw.before e l, sum_by_push (price_before kind j e) prices x, none (λ u. nat_lt u e));
}

length-with_price : (place : Option Place) (bound price : ℕ) (lines : List (List ℕ)) → length (with_price place bound price lines) ≡ length lines
length-with_price None bound price lines = refl
length-with_price (Some w) bound price lines = length-set lines w.line (set (get_or lines w.line []) (min w.time bound) (get_or (get_or lines w.line []) (min w.time bound) 0 + price))

-- one price more in all lines
pub raws-more : (kind : SumKind) (bound count : ℕ) (prices : List Price) (x : Price) (lines : List (List ℕ)) (place : Option Place) → place_of kind x.row ≡ place → length lines ≡ count
    → ((j : ℕ) → j < count → IsRaw kind bound prices j (get_or lines j [])) → (j : ℕ) → j < count → IsRaw kind bound (prices ++ x ∷ []) j (get_or (with_price place bound x.price lines) j [])
raws-more kind bound count prices x lines None e size raws j l = raw-elsewhere kind bound prices x j (get_or lines j []) (λ test. rw e refl) (raws j l)
raws-more kind bound count prices x lines (Some w) e size raws j l =
    let line = get_or lines w.line [] in
    let more = set line (min w.time bound) (get_or line (min w.time bound) 0 + x.price) in
    ⊎_elim
    (λ (same : j ≡ w.line).
    let inside : w.line < length lines = omega (arith, size) in
    rw (same, get_or-set_same lines w.line more [] inside) (raw-here kind bound prices x w line e (raws w.line (omega (arith, size)))))
    (λ (ne : j ≢ w.line).
    rw (get_or-set_other lines w.line j more [] ne) (raw-elsewhere kind bound prices x j (get_or lines j []) (λ test. rw (e, ne_eqb j w.line ne) refl) (raws j l)))
    (cases_eq j w.line)

-- a line sums to no more than all prices
price_at-le : (place : Option Place) (j : ℕ) (test : ℕ → Bool) (price : ℕ) → price_at place j test price ≤ price
price_at-le None j test price = omega arith
price_at-le (Some w) j test price = cond_both (j == w.line) (cond (test w.time) price 0) 0 (λ x. x ≤ price) (λ e. cond_both (test w.time) price 0 (λ x. x ≤ price) (λ e. omega arith) (λ e. omega arith)) (λ e. omega arith)

sum_by-le-each : (f g : Price → ℕ) (xs : List Price) → ((x : Price) → f x ≤ g x) → sum_by f xs ≤ sum_by g xs
sum_by-le-each f g [] h = omega arith
sum_by-le-each f g (x ∷ xs) h = omega (arith, sum_by-cons f x xs, sum_by-cons g x xs, h x, sum_by-le-each f g xs h)

pub raw-low : (kind : SumKind) (bound j : ℕ) (prices : List Price) (line : List ℕ) → IsRaw kind bound prices j line → sum line ≤ sum_by (λ x. x.price) prices
raw-low kind bound j prices line raw =
    let whole : sum line ≡ sum_by (price_from kind j 0) prices = raw.behind 0 (omega arith) in
    omega (arith, whole, sum_by-le-each (price_from kind j 0) (λ x. x.price) prices (λ x. price_at-le (place_of kind x.row) j (λ u. nat_le 0 u) x.price))

pub raw-at-low : (kind : SumKind) (bound j i : ℕ) (prices : List Price) (line : List ℕ) → IsRaw kind bound prices j line → get_or line i 0 ≤ sum_by (λ x. x.price) prices
raw-at-low kind bound j i prices line raw =
    ⊎_elim
    (λ (l : i < length line). omega (arith, get_or-le-sum_by (λ (x : ℕ). x) line i 0 l, raw-low kind bound j prices line raw))
    (λ (past : length line ≤ i). let none : get_or line i 0 ≡ 0 = get_or_past line i 0 past in omega (arith, none))
    (cases_lt i (length line))

-- no number is above the sum of all prices
pub raws-low : (kind : SumKind) (bound count j i n : ℕ) (prices : List Price) (lines : List (List ℕ)) → length lines ≡ count → ((j : ℕ) → j < count → IsRaw kind bound (take n prices) j (get_or lines j []))
    → get_or (get_or lines j []) i 0 ≤ sum_by (λ x. x.price) prices
raws-low kind bound count j i n prices lines size raws =
    ⊎_elim
    (λ (l : j < count). omega (arith, raw-at-low kind bound j i (take n prices) (get_or lines j []) (raws j l), sum_by-take-le (λ (x : Price). x.price) prices n))
    (λ (past : count ≤ j).
    let none : get_or lines j [] ≡ [] = get_or_past lines j [] (omega (arith, size)) in
    rw none (omega arith))
    (cases_lt j count)

-- one price more of a list of prices
pub raws-step : (kind : SumKind) (bound count n : ℕ) (prices : List Price) (d : Price) (lines more : List (List ℕ)) (place : Option Place) → n < length prices → place_of kind (get_or prices n d).row ≡ place → length lines ≡ count
    → ((j : ℕ) → j < count → IsRaw kind bound (take n prices) j (get_or lines j [])) → more ≡ with_price place bound (get_or prices n d).price lines
    → (length more ≡ count) × ((j : ℕ) → j < count → IsRaw kind bound (take (n + 1) prices) j (get_or more j []))
raws-step kind bound count n prices d lines more place l e size raws is =
    let x = get_or prices n d in (
      ap length is ∙ length-with_price place bound x.price lines ∙ size,
      λ j k. rw (is, take_more prices n d l) (raws-more kind bound count (take n prices) x lines place e size raws j k),
    )

pub zeros-raw : (kind : SumKind) (bound count : ℕ) (lines : List (List ℕ)) → lines ≡ replicate count (replicate (bound + 1) 0) → (j : ℕ) → j < count → IsRaw kind bound [] j (get_or lines j [])
zeros-raw kind bound count lines e j l = rw (e, get_or-replicate count j (replicate {A = ℕ} (bound + 1) 0) [] l) (raw-none kind bound j)

-- a line summed up
summed-raw : (kind : SumKind) (bound j t : ℕ) (prices : List Price) (line : List ℕ) → t ≤ bound → IsRaw kind bound prices j line → summed kind line t ≡ sum_by (price_in kind j t) prices
summed-raw Begun bound j t prices line l raw = raw.behind t l
summed-raw Ended bound j t prices line l raw = raw.before t l
summed-raw Used bound j t prices line l raw = raw.before t l
summed-raw Consumed bound j t prices line l raw = raw.behind t l

-- the lines below i are summed up, the others not yet
pub record AreSummedTo (kind : SumKind) (bound count : ℕ) (prices : List Price) (i : ℕ) (lines : List (List ℕ)) : Type 0 where
  pub size : length lines ≡ count
  pub done : (j t : ℕ) → j < i → t ≤ bound → get_or (get_or lines j []) t 0 ≡ sum_by (price_in kind j t) prices
  pub raw : (j : ℕ) → i ≤ j → j < count → IsRaw kind bound prices j (get_or lines j [])

pub summed-step : (kind : SumKind) (bound count i : ℕ) (prices : List Price) (lines : List (List ℕ)) (old new : List ℕ) → i < count → old ≡ get_or lines i old → AreSummedTo kind bound count prices i lines
    → ((t : ℕ) → t < length old → get_or new t 0 ≡ summed kind old t) → AreSummedTo kind bound count prices (i + 1) (set lines i new)
summed-step kind bound count i prices lines old new l was so step =
    let inside : i < length lines = omega (arith, so.size) in
    let same : old ≡ get_or lines i [] = get_or_read lines i old inside was [] in
    let here : IsRaw kind bound prices i old = rw same (so.raw i (omega arith) l) in
    record {
      size = length-set lines i new ∙ so.size;
      done = λ j t k short. ⊎_elim
          (λ (e : j ≡ i). rw (e, get_or-set_same lines i new [] inside) (step t (omega (arith, here.wide)) ∙ summed-raw kind bound i t prices old short here))
          (λ (ne : j ≢ i). rw (get_or-set_other lines i j new [] ne) (so.done j t (omega arith) short))
          (cases_eq j i);
      raw = λ j k m. let ne : j ≢ i = omega arith in rw (get_or-set_other lines i j new [] ne) (so.raw j (omega arith) m);
    }

pub summed-low : (kind : SumKind) (bound count i : ℕ) (prices : List Price) (lines : List (List ℕ)) (old : List ℕ) → i < count → old ≡ get_or lines i old → AreSummedTo kind bound count prices i lines → sum old ≤ sum_by (λ x. x.price) prices
summed-low kind bound count i prices lines old l was so =
    let same : old ≡ get_or lines i [] = get_or_read lines i old (omega (arith, so.size)) was [] in
    raw-low kind bound i prices old (rw same (so.raw i (omega arith) l))
