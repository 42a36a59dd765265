-- What a choice costs, from sums over time.
use Rattle.std.proofs.Common.{◌≡◌, ℕ, zero, suc, ◌+◌, ◌*◌, ◌<◌, ◌≤◌, ◌^◌, Bool, true, false, cond, ◌==◌, ◌&&◌, List, [], ◌∷◌, length, get_or, sum_by, arith, refl, ⊎_elim, eq-eqb, ne_eqb, Option, Some, None}
use Rattle.std.specs.Prelude.{nat_le, nat_lt}
use Rattle.std.specs.List.{list_all}
use Rattle.std.proofs.Math.Nat.{mul-add, mul-le-mul_left, mul_comm}
use Rattle.std.proofs.lemmas.Bool.{cases_eq, cases_lt, and_parts, ltb-true}
use Rattle.std.proofs.lemmas.Bool.Decides.{nat_tests}
use Rattle.std.proofs.lemmas.List.{get_or_past}
use Rattle.std.proofs.lemmas.List.Elements.{All-get_or}
use Rattle.std.proofs.lemmas.List.Sums.{sum_by-cons}
use Rattle.mrcpsp.specs.Numbers.{sum_below}
use Rattle.mrcpsp.specs.Limits.{IsProject}
use Rattle.mrcpsp.specs.Project.{ProjectData, is_project, size, renewables, nonrenewables, mode_count, modes, no_mode, duration, request, consumption}
use Rattle.mrcpsp.specs.Schedule.{load}
use Rattle.mrcpsp.proofs.ProjectLemmas.{load-le-request}
use Rattle.mrcpsp.proofs.LimitLemmas.{kept}
use Rattle.schedule_prices.specs.declared.row.PricedRow.{PricedRow}
use Rattle.schedule_prices.specs.declared.row.PricedRow.TheVariants.{Use, Stock, Before}
use Rattle.schedule_prices.specs.declared.row.Price.{Price}
use Rattle.schedule_prices.specs.declared.place.SumKind.{SumKind}
use Rattle.schedule_prices.specs.declared.place.SumKind.TheVariants.{Begun, Ended, Used, Consumed}
use Rattle.schedule_prices.specs.declared.place.Place.{Place}
use Rattle.schedule_prices.specs.Rows.{amount, is_row, are_rows, cost}
use Rattle.schedule_prices.specs.Sums.{place_of, price_at, price_before, price_in}
use Rattle.schedule_prices.specs.Prices.{are_prices}
use Rattle.schedule_prices.specs.Costs.{used_in}
use Rattle.schedule_prices.proofs.PriceLemmas.{prices_sum, are-rows}

-- one term of a sum of products
pick-before : (f : ℕ → ℕ) (x v n : ℕ) → n ≤ x → sum_below (λ j. f j * cond (j == x) v 0) n ≡ 0
pick-before f x v zero l = refl
pick-before f x v (suc n) l =
    let here : f n * cond (n == x) v 0 ≡ 0 = rw (ne_eqb n x (omega arith)) (omega arith) in
    omega (arith, here, pick-before f x v n (omega arith))

pick : (f : ℕ → ℕ) (x v n : ℕ) → x < n → sum_below (λ j. f j * cond (j == x) v 0) n ≡ f x * v
pick f x v zero l = absurd (omega arith)
pick f x v (suc n) l =
    ⊎_elim
    (λ (e : n ≡ x).
    let here : f n * cond (n == x) v 0 ≡ f x * v = rw (eq-eqb n x e, e) refl in
    omega (arith, here, pick-before f x v n (omega arith)))
    (λ (ne : n ≡ x → ⊥).
    let here : f n * cond (n == x) v 0 ≡ 0 = rw (ne_eqb n x ne) (omega arith) in
    omega (arith, here, pick f x v n (omega arith)))
    (cases_eq n x)

zeros : (f : ℕ → ℕ) (n : ℕ) → sum_below (λ j. f j * 0) n ≡ 0
zeros f zero = refl
zeros f (suc n) = omega (arith, zeros f n)

swap : (b : Bool) (x y : ℕ) → x * cond b y 0 ≡ y * cond b x 0
swap true x y = mul_comm x y
swap false x y = omega arith

half : (a b : Bool) (x : ℕ) → x * cond (a && b) 1 0 ≡ cond a (cond b x 0) 0
half true true x = omega arith
half true false x = omega arith
half false b x = omega arith

arc : (a b c d : Bool) (x : ℕ) → x * (cond (a && b) 1 0 + cond (c && d) 1 0) ≡ cond a (cond b x 0) 0 + cond c (cond d x 0) 0
arc a b c d x = omega (arith, mul-add x (cond (a && b) 1 0) (cond (c && d) 1 0), half a b x, half c d x)

-- what a choice pays for one row
cost-row : (p : ProjectData) (row : PricedRow) (price j m t e : ℕ) → e ≡ t + duration p j m → is_row p row ≡ true → price * amount p row j m t
    ≡ price_at (place_of Begun row) j (λ u. nat_le t u) price + price_at (place_of Ended row) j (λ u. nat_lt u e) price
    + sum_below (λ r. request p j m r * price_at (place_of Used row) r (λ u. nat_le t u && nat_lt u e) price) (renewables p)
    + sum_below (λ k. consumption p j m k * price_at (place_of Consumed row) k (λ u. nat_le 0 u) price) (nonrenewables p)
unfolding load
cost-row p (Use r u) price j m t e is known =
    let test = nat_le t u && nat_lt u e in
    let uses = pick (request p j m) r (cond test price 0) (renewables p) (ltb-true r (renewables p) known) in
    let none = zeros (consumption p j m) (nonrenewables p) in
    let whole : price * cond (nat_le t u && nat_lt u (t + duration p j m)) (request p j m r) 0 ≡ request p j m r * cond test price 0 = rw is (swap (nat_le t u && nat_lt u (t + duration p j m)) price (request p j m r)) in
    omega (arith, uses, none, whole)
cost-row p (Stock k) price j m t e is known =
    let none = zeros (request p j m) (renewables p) in
    let all = pick (consumption p j m) k price (nonrenewables p) (ltb-true k (nonrenewables p) known) in
    omega (arith, none, all, mul_comm price (consumption p j m k))
cost-row p (Before i k u) price j m t e is known =
    let none = zeros (request p j m) (renewables p) in
    let all = zeros (consumption p j m) (nonrenewables p) in
    let whole : price * (cond ((j == k) && nat_le t u) 1 0 + cond ((j == i) && nat_lt u (t + duration p j m)) 1 0) ≡ cond (j == k) (cond (nat_le t u) price 0) 0 + cond (j == i) (cond (nat_lt u e) price 0) 0 = rw is (arc (j == k) (nat_le t u) (j == i) (nat_lt u (t + duration p j m)) price) in
    omega (arith, none, all, whole)

weighted-cons : (w : ℕ → ℕ) (g : ℕ → Price → ℕ) (x : Price) (xs : List Price) (n : ℕ) → sum_below (λ r. w r * sum_by (g r) (x ∷ xs)) n ≡ sum_below (λ r. w r * g r x) n + sum_below (λ r. w r * sum_by (g r) xs) n
weighted-cons w g x xs zero = refl
weighted-cons w g x xs (suc n) =
    let here : w n * sum_by (g n) (x ∷ xs) ≡ w n * g n x + w n * sum_by (g n) xs = rw (sum_by-cons (g n) x xs) (mul-add (w n) (g n x) (sum_by (g n) xs)) in
    omega (arith, here, weighted-cons w g x xs n)

-- what a choice pays for all rows
pub cost-split : (p : ProjectData) (prices : List Price) (j m t e : ℕ) → e ≡ t + duration p j m → are_rows p prices ≡ true → cost p prices j m t
    ≡ sum_by (price_in Begun j t) prices + sum_by (price_in Ended j e) prices
    + sum_below (λ r. request p j m r * sum_by (used_in r t e) prices) (renewables p)
    + sum_below (λ k. consumption p j m k * sum_by (price_in Consumed k 0) prices) (nonrenewables p)
unfolding cost
cost-split p [] j m t e is rows = omega (arith, zeros (request p j m) (renewables p), zeros (consumption p j m) (nonrenewables p))
cost-split p (x ∷ xs) j m t e is rows =
    let parts = and_parts (is_row p x.row) (list_all (λ y. is_row p y.row) xs) rows in
    let here = cost-row p x.row x.price j m t e is parts.0 in
    let rest = cost-split p xs j m t e is parts.1 in
    let whole = sum_by-cons (λ y. y.price * amount p y.row j m t) x xs in
    let begun = sum_by-cons (price_in Begun j t) x xs in
    let ended = sum_by-cons (price_in Ended j e) x xs in
    let uses = weighted-cons (request p j m) (λ r. used_in r t e) x xs (renewables p) in
    let all = weighted-cons (consumption p j m) (λ k. price_in Consumed k 0) x xs (nonrenewables p) in
    omega (arith, here, rest, whole, begun, ended, uses, all)

-- what is used before e is used before t or from t on
used-part : (place : Option Place) (r t e price : ℕ) → t ≤ e → price_at place r (λ u. nat_lt u e) price ≡ price_at place r (λ u. nat_lt u t) price + price_at place r (λ u. nat_le t u && nat_lt u e) price
used-part None r t e price l = refl
used-part (Some w) r t e price l = grind (arith, nat_tests)

pub used-split : (prices : List Price) (r t e : ℕ) → t ≤ e → sum_by (price_before Used r e) prices ≡ sum_by (price_before Used r t) prices + sum_by (used_in r t e) prices
used-split [] r t e l = refl
used-split (x ∷ xs) r t e l =
    omega (arith, used-part (place_of Used x.row) r t e x.price l, used-split xs r t e l, sum_by-cons (price_before Used r e) x xs, sum_by-cons (price_before Used r t) x xs, sum_by-cons (used_in r t e) x xs)

-- amounts are within the limits of a project
request-low : (p : ProjectData) (j m r : ℕ) → IsProject p → j < size p → m < mode_count p j → request p j m r ≤ 1000000
unfolding request
request-low p j m r ok l k =
    let xs = (get_or (modes p j) m no_mode).renewable in
    ⊎_elim
    (λ (inside : r < length xs). All-get_or (λ (a : ℕ). a ≤ 1000000) xs r 0 inside (ok.limited j m l k).requests)
    (λ (past : length xs ≤ r). let none : get_or xs r 0 ≡ 0 = get_or_past xs r 0 past in omega (arith, none))
    (cases_lt r (length xs))

consumption-low : (p : ProjectData) (j m k : ℕ) → IsProject p → j < size p → m < mode_count p j → consumption p j m k ≤ 1000000
unfolding consumption
consumption-low p j m k ok l n =
    let xs = (get_or (modes p j) m no_mode).nonrenewable in
    ⊎_elim
    (λ (inside : k < length xs). All-get_or (λ (a : ℕ). a ≤ 1000000) xs k 0 inside (ok.limited j m l n).consumptions)
    (λ (past : length xs ≤ k). let none : get_or xs k 0 ≡ 0 = get_or_past xs k 0 past in omega (arith, none))
    (cases_lt k (length xs))

bit-low : (b : Bool) → cond b 1 0 ≤ 1
bit-low true = omega arith
bit-low false = omega arith

amount-low : (p : ProjectData) (row : PricedRow) (j m t : ℕ) → IsProject p → j < size p → m < mode_count p j → amount p row j m t ≤ 1000000
amount-low p (Use r u) j m t ok l k = omega (arith, load-le-request p r u j m t, request-low p j m r ok l k)
amount-low p (Stock r) j m t ok l k = consumption-low p j m r ok l k
amount-low p (Before i r u) j m t ok l k = omega (arith, bit-low ((j == r) && nat_le t u), bit-low ((j == i) && nat_lt u (t + duration p j m)))

cost-le : (p : ProjectData) (prices : List Price) (j m t : ℕ) → IsProject p → j < size p → m < mode_count p j → cost p prices j m t ≤ 1000000 * sum_by (λ x. x.price) prices
unfolding cost
cost-le p [] j m t ok l k = omega arith
cost-le p (x ∷ xs) j m t ok l k =
    let here : x.price * amount p x.row j m t ≤ x.price * 1000000 = mul-le-mul_left x.price (amount-low p x.row j m t ok l k) in
    let whole = sum_by-cons (λ y. y.price * amount p y.row j m t) x xs in
    omega (arith, here, whole, cost-le p xs j m t ok l k, sum_by-cons (λ (y : Price). y.price) x xs)

pub cost-low : (p : ProjectData) (prices : List Price) (j m t : ℕ) → is_project p ≡ true → are_prices p prices ≡ true → j < size p → m < mode_count p j → cost p prices j m t ≤ 2 ^ 60
cost-low p prices j m t ok priced l k =
    let low : sum_by (λ x. x.price) prices ≤ 2 ^ 40 = prices_sum p prices priced in
    omega (arith, cost-le p prices j m t (kept p ok) l k, low)

-- sums over time are no more than all prices
price_at-le : (place : Option Place) (j : ℕ) (test : ℕ → Bool) (price : ℕ) → price_at place j test price ≤ price
price_at-le None j test price = omega arith
price_at-le (Some w) j test price = grind (arith, nat_tests)

price_in-le : (kind : SumKind) (j t : ℕ) (x : Price) → price_in kind j t x ≤ x.price
price_in-le Begun j t x = price_at-le (place_of Begun x.row) j (λ u. nat_le t u) x.price
price_in-le Ended j t x = price_at-le (place_of Ended x.row) j (λ u. nat_lt u t) x.price
price_in-le Used j t x = price_at-le (place_of Used x.row) j (λ u. nat_lt u t) x.price
price_in-le Consumed j t x = price_at-le (place_of Consumed x.row) j (λ u. nat_le t u) x.price

sum_by-le-each : (f g : Price → ℕ) (xs : List Price) → ((x : Price) → f x ≤ g x) → sum_by f xs ≤ sum_by g xs
sum_by-le-each f g [] h = omega arith
sum_by-le-each f g (x ∷ xs) h = omega (arith, sum_by-cons f x xs, sum_by-cons g x xs, h x, sum_by-le-each f g xs h)

pub price_in-low : (p : ProjectData) (kind : SumKind) (j t : ℕ) (prices : List Price) → are_prices p prices ≡ true → sum_by (price_in kind j t) prices ≤ 2 ^ 40
price_in-low p kind j t prices e = omega (arith, sum_by-le-each (price_in kind j t) (λ x. x.price) prices (price_in-le kind j t), prices_sum p prices e)

pub used_in-low : (p : ProjectData) (r t e : ℕ) (prices : List Price) → are_prices p prices ≡ true → sum_by (used_in r t e) prices ≤ 2 ^ 40
used_in-low p r t e prices h =
    omega (arith, sum_by-le-each (used_in r t e) (λ x. x.price) prices (λ x. price_at-le (place_of Used x.row) r (λ u. nat_le t u && nat_lt u e) x.price), prices_sum p prices h)

pub cost-sum : (p : ProjectData) (prices : List Price) (j m t e arcs resources : ℕ) → e ≡ t + duration p j m → are_prices p prices ≡ true
    → arcs ≡ sum_by (price_in Begun j t) prices + sum_by (price_in Ended j e) prices
    → resources ≡ sum_below (λ r. request p j m r * sum_by (used_in r t e) prices) (renewables p) + sum_below (λ k. consumption p j m k * sum_by (price_in Consumed k 0) prices) (nonrenewables p)
    → arcs + resources ≡ cost p prices j m t
cost-sum p prices j m t e arcs resources is priced a b = omega (arith, a, b, cost-split p prices j m t e is (are-rows p prices priced))

pub ruleset low_rules = (price_in-low, used_in-low)

pub ruleset used_rules = (used-split)

pub ruleset of_rules = (price_in-low, cost-sum, cost-low)
