-- A choice is too dear if and only if the prices refute the bound with its activity kept to it.
use Rattle.std.proofs.Common.{◌≡◌, ◌≢◌, ℕ, zero, suc, ◌+◌, ◌<◌, ◌≤◌, Bool, true, false, cond, ◌==◌, ◌&&◌, ◌||◌, List, [], ◌∷◌, ◌++◌, length, get_or, take, sum, arith, refl, sym, ap, ◌∙◌, ⊎_elim, eq-eqb, ne_eqb, Option, Some, None}
use Rattle.std.specs.Prelude.{nat_lt}
use Rattle.std.proofs.lemmas.Bool.{cases_eq, cases_Bool, false≢true, lt-ltb, le-ltb, cond-true, cond-false}
use Rattle.std.proofs.lemmas.Bool.Decides.{nat_tests}
use Rattle.std.proofs.lemmas.List.{take_all, length_push, get_or_push, get_or_append_left}
use Rattle.std.proofs.lemmas.List.Sums.{sum_by_more, sum_by_push}
use Rattle.mrcpsp.specs.Numbers.{sum_below}
use Rattle.mrcpsp.proofs.NumbersLemmas.{sum_below-same}
use Rattle.mrcpsp.specs.Project.{ProjectData, size, mode_count, duration}
use Rattle.mrcpsp.specs.Schedule.{mode_of, start_of}
use Rattle.schedule_prices.specs.declared.row.Price.{Price}
use Rattle.schedule_prices.specs.Least.{lesser, least_below, total_below, exceeds}
use Rattle.schedule_prices.specs.Rows.{cost, supply}
use Rattle.schedule_prices.specs.Choices.{AreBarred, is_marked, with_piece, kept_to}
use Rattle.schedule_prices.specs.Prices.{are_prices, cost_left, cheapest_in, cheapest, refutes}
use Rattle.schedule_prices.specs.Dear.{is_choice, AreLeast, is_above, is_dear}
use Rattle.schedule_prices.specs.Costs.{CostsData}
use Rattle.schedule_prices.specs.Table.{IsTable}
use Rattle.schedule_prices.proofs.LeastLemmas.{least-same}
use Rattle.schedule_prices.proofs.ChoiceLemmas.{step-is-sound}
use Rattle.schedule_prices.proofs.TableLemmas.{barred-same, or-left-false}

-- a least number of which all others are missing
lesser-none : (a : Option ℕ) → lesser a None ≡ a
lesser-none None = refl
lesser-none (Some x) = refl

least-none : (f : ℕ → Option ℕ) (n : ℕ) → ((k : ℕ) → k < n → f k ≡ None) → least_below f n ≡ None
least-none f zero h = refl
least-none f (suc n) h = rw (least-none f n (λ k l. h k (omega arith)), h n (omega arith)) refl

pub least-only : (f : ℕ → Option ℕ) (n x : ℕ) (y : Option ℕ) → x < n → f x ≡ y → ((k : ℕ) → k < n → k ≢ x → f k ≡ None) → least_below f n ≡ y
least-only f zero x y l e others = absurd (omega arith)
least-only f (suc n) x y l e others =
    ⊎_elim
    (λ (same : x ≡ n).
    let here : f n ≡ y = rw (← same) e in
    rw (least-none f n (λ k m. others k (omega arith) (omega arith)), here) refl)
    (λ (ne : x ≢ n).
    let none : f n ≡ None = others n (omega arith) (omega arith) in
    rw (least-only f n x y (omega arith) e (λ k m d. others k (omega arith) d), none) (lesser-none y))
    (cases_eq x n)

-- an activity kept to one choice that is left pays for the choice
module _ (p : ProjectData) (bound : ℕ) (barred : ℕ → ℕ → ℕ → Bool) (prices : List Price) (j m t : ℕ) where
  kept-here : barred j m t ≡ false → cost_left p (kept_to barred j (is_choice m t)) prices j m t ≡ Some (cost p prices j m t)
  kept-here free = rw (free, eq-eqb j j refl, eq-eqb m m refl, eq-eqb t t refl) refl

  kept-start : (u : ℕ) → u ≢ t → cost_left p (kept_to barred j (is_choice m t)) prices j m u ≡ None
  kept-start u ne = rw (eq-eqb j j refl, eq-eqb m m refl, ne_eqb u t ne) (gone (barred j m u))
    where
      gone : (b : Bool) → cond (b || true) None (Some (cost p prices j m u)) ≡ None
      gone true = refl
      gone false = refl

  kept-mode : (k u : ℕ) → k ≢ m → cost_left p (kept_to barred j (is_choice m t)) prices j k u ≡ None
  kept-mode k u ne = rw (eq-eqb j j refl, ne_eqb k m ne) (gone (barred j k u))
    where
      gone : (b : Bool) → cond (b || true) None (Some (cost p prices j k u)) ≡ None
      gone true = refl
      gone false = refl

  kept-cheapest : m < mode_count p j → t ≤ bound → barred j m t ≡ false → cheapest p bound (kept_to barred j (is_choice m t)) prices j ≡ Some (cost p prices j m t)
  unfolding cheapest
  kept-cheapest known short free =
      least-only (cheapest_in p bound (kept_to barred j (is_choice m t)) prices j) (mode_count p j) m (Some (cost p prices j m t)) known
      (least-only (cost_left p (kept_to barred j (is_choice m t)) prices j m) (bound + 1) t (Some (cost p prices j m t)) (omega arith) (kept-here free) (λ u _ ne. kept-start u ne))
      (λ k _ ne. least-none (cost_left p (kept_to barred j (is_choice m t)) prices j k) (bound + 1) (λ u _. kept-mode k u ne))

  kept-others : (i : ℕ) → i ≢ j → cheapest p bound (kept_to barred j (is_choice m t)) prices i ≡ cheapest p bound barred prices i
  unfolding cheapest
  kept-others i ne =
      least-same (cheapest_in p bound (kept_to barred j (is_choice m t)) prices i) (cheapest_in p bound barred prices i) (mode_count p i)
      (λ k _. least-same (cost_left p (kept_to barred j (is_choice m t)) prices i k) (cost_left p barred prices i k) (bound + 1)
      (λ u _. rw (ne_eqb i j ne) (ap (λ gone. cond gone None (Some (cost p prices i k u))) (or-false (barred i k u)))))
    where
      or-false : (b : Bool) → (b || false) ≡ b
      or-false true = refl
      or-false false = refl

-- a sum of which no number is missing, and with one number replaced
total-is : (f : ℕ → Option ℕ) (v : ℕ → ℕ) (n : ℕ) → ((i : ℕ) → i < n → f i ≡ Some (v i)) → total_below f n ≡ Some (sum_below v n)
total-is f v zero h = refl
total-is f v (suc n) h = rw (total-is f v n (λ i l. h i (omega arith)), h n (omega arith)) refl

replaced : (v : ℕ → ℕ) (j b n : ℕ) → j < n → sum_below (λ i. cond (i == j) b (v i)) n + v j ≡ sum_below v n + b
replaced v j b zero l = absurd (omega arith)
replaced v j b (suc n) l =
    ⊎_elim
    (λ (e : n ≡ j).
    let here : cond (n == j) b (v n) ≡ b = cond-true (n == j) b (v n) (eq-eqb n j e) in
    let below : sum_below (λ i. cond (i == j) b (v i)) n ≡ sum_below v n = sum_below-same (λ i. cond (i == j) b (v i)) v n (λ i k. cond-false (i == j) b (v i) (ne_eqb i j (omega arith))) in
    omega (arith, here, below, ap v e))
    (λ (ne : n ≢ j).
    let here : cond (n == j) b (v n) ≡ v n = cond-false (n == j) b (v n) (ne_eqb n j ne) in
    omega (arith, here, replaced v j b n (omega arith)))
    (cases_eq n j)

listed : (xs : List ℕ) (k : ℕ) → k ≤ length xs → sum_below (λ i. get_or xs i 0) k ≡ sum (take k xs)
listed xs zero l = refl
listed xs (suc k) l =
    let more : sum (take (k + 1) xs) ≡ sum (take k xs) + get_or xs k 0 = sum_by_more (λ x. x) xs k 0 (omega arith) in
    let step : k + 1 ≡ suc k = omega arith in
    let whole : sum (take (suc k) xs) ≡ sum (take k xs) + get_or xs k 0 = rw step at more in
    omega (arith, listed xs k (omega arith), whole)

listed-all : (xs : List ℕ) (n : ℕ) → length xs ≡ n → sum_below (λ i. get_or xs i 0) n ≡ sum xs
listed-all xs n e =
    let whole : sum (take n xs) ≡ sum xs = ap sum (take_all n xs (omega arith)) in
    omega (arith, listed xs n (omega arith), whole)

-- numbers that are together within a limit
pub within-not : (f : ℕ → Option ℕ) (n limit : ℕ) (least : List ℕ) → AreLeast f n limit least → exceeds (total_below f n) limit ≡ false
within-not f n limit least so =
    rw (total-is f (λ i. get_or least i 0) n so.each) (le-ltb limit (sum_below (λ i. get_or least i 0) n) (omega (arith, listed-all least n so.size, so.within)))

shifted : (a r x y : ℕ) → r + x ≡ y → nat_lt (a + x) y ≡ nat_lt a r
shifted a r x y e = grind (arith, nat_tests)

-- a choice that is left ends by the bound
abbrev pub IsBelow : ProjectData → ℕ → (ℕ → ℕ → ℕ → Bool) → Type 0
IsBelow p bound barred = (j m t : ℕ) → j < size p → m < mode_count p j → barred j m t ≡ false → t + duration p j m ≤ bound

module _ (p : ProjectData) (bound : ℕ) (barred : ℕ → ℕ → ℕ → Bool) (prices : List Price) (least : List ℕ) (priced : are_prices p prices ≡ true) (so : AreLeast (cheapest p bound barred prices) (size p) (supply p prices) least) where
  -- a choice that is left is too dear if and only if the prices refute with its activity kept to it
  dear-is : (j m t : ℕ) → j < size p → m < mode_count p j → t ≤ bound → barred j m t ≡ false → is_dear p prices least j m t ≡ refutes p bound (kept_to barred j (is_choice m t)) prices
  unfolding is_dear refutes
  dear-is j m t l known short free =
      let v : ℕ → ℕ = λ i. get_or least i 0 in
      let c = cost p prices j m t in
      let each : (i : ℕ) → i < size p → cheapest p bound (kept_to barred j (is_choice m t)) prices i ≡ Some (cond (i == j) c (v i)) = λ i k.
      ⊎_elim
      (λ (e : i ≡ j). rw (e, eq-eqb j j refl) (kept-cheapest p bound barred prices j m t known short free))
      (λ (ne : i ≢ j). rw (ne_eqb i j ne) (kept-others p bound barred prices j m t i ne ∙ so.each i k))
      (cases_eq i j) in
      let total = total-is (cheapest p bound (kept_to barred j (is_choice m t)) prices) (λ i. cond (i == j) c (v i)) (size p) each in
      let r = sum_below (λ i. cond (i == j) c (v i)) (size p) in
      let sums : r + get_or least j 0 ≡ sum least + c = omega (arith, replaced v j c (size p) l, listed-all least (size p) so.size) in
      rw (priced, total, lt-ltb j (size p) l, lt-ltb m (mode_count p j) known) (shifted (supply p prices) r (get_or least j 0) (sum least + c) sums)

  -- so the choices that are too dear are in no feasible schedule within the bound
  pub dear-bars : IsBelow p bound barred → (j m t : ℕ) → j < size p → m < mode_count p j → (barred j m t || is_dear p prices least j m t) ≡ (barred j m t || refutes p bound (kept_to barred j (is_choice m t)) prices)
  dear-bars below j m t l known =
      ⊎_elim
      (λ (gone : barred j m t ≡ true). rw gone refl)
      (λ (free : barred j m t ≡ false). rw (free, dear-is j m t l known (omega (arith, below j m t l known free)) free) refl)
      (cases_Bool (barred j m t))

  dear-sound : IsBelow p bound barred → AreBarred p bound barred → AreBarred p bound (λ j m t. barred j m t || is_dear p prices least j m t)
  dear-sound below barring s feasible short j l =
      let m = mode_of s j in
      let t = start_of s j in
      let known = (feasible.modes_exist j l).1 in
      let free : barred j m t ≡ false = barring s feasible short j l in
      dear-bars below j m t l known ∙
      ⊎_elim
      (λ (e : refutes p bound (kept_to barred j (is_choice m t)) prices ≡ true).
      let out : with_piece barred j (is_choice m t) j m t ≡ false = step-is-sound p bound barred prices j (is_choice m t) barring e s feasible short j l in
      let inside : with_piece barred j (is_choice m t) j m t ≡ true = rw (free, eq-eqb j j refl, eq-eqb m m refl, eq-eqb t t refl) refl in
      absurd (false≢true (cc (out, inside))))
      (λ (e : refutes p bound (kept_to barred j (is_choice m t)) prices ≡ false). rw (free, e) refl)
      (cases_Bool (refutes p bound (kept_to barred j (is_choice m t)) prices))

-- a table in which the choices that are too dear are barred too
pub table-dear : (p : ProjectData) (bound : ℕ) (marks more : List (List (List Bool))) (prices : List Price) (least : List ℕ) → are_prices p prices ≡ true → AreLeast (cheapest p bound (is_marked marks) prices) (size p) (supply p prices) least
    → IsTable p bound marks → ((j m t : ℕ) → is_marked more j m t ≡ (is_marked marks j m t || is_dear p prices least j m t)) → IsTable p bound more
table-dear p bound marks more prices least priced so table same = record {
  low = table.low;
  ends = λ j m t l known free. table.ends j m t l known (or-left-false (is_marked marks j m t) (is_dear p prices least j m t) (sym (same j m t) ∙ free));
  sound = barred-same p bound (λ j m t. is_marked marks j m t || is_dear p prices least j m t) (is_marked more) same (dear-sound p bound (is_marked marks) prices least priced so table.ends table.sound);
}

-- no choice is too dear at what are no prices
pub foreign-refutes : (p : ProjectData) (bound : ℕ) (barred : ℕ → ℕ → ℕ → Bool) (prices : List Price) → are_prices p prices ≡ false → refutes p bound barred prices ≡ false
unfolding refutes
foreign-refutes p bound barred prices e = rw e refl

above-dear : (c : CostsData) (least : List ℕ) (most j m t : ℕ) → most + sum least ≡ supply c.project c.prices + get_or least j 0 → j < size c.project → is_above c most j m t ≡ is_dear c.project c.prices least j m t
unfolding is_dear
above-dear c least most j m t e l = rw (lt-ltb j (size c.project) l) (ap (λ b. nat_lt m (mode_count c.project j) && b) (lifted most (cost c.project c.prices j m t) (supply c.project c.prices + get_or least j 0) (sum least) e))
  where
    lifted : (a b x y : ℕ) → a + y ≡ x → nat_lt a b ≡ nat_lt x (y + b)
    lifted a b x y e = grind (arith, nat_tests)

-- one activity more
pub dear-step : (c : CostsData) (least : List ℕ) (old now more : List (List (List Bool))) (x most : ℕ) → most + sum least ≡ supply c.project c.prices + get_or least x 0 → x < size c.project
    → ((j m t : ℕ) → is_marked now j m t ≡ (is_marked old j m t || (nat_lt j x && is_dear c.project c.prices least j m t)))
    → ((j m t : ℕ) → is_marked more j m t ≡ with_piece (is_marked now) x (is_above c most x) j m t)
    → (j m t : ℕ) → is_marked more j m t ≡ (is_marked old j m t || (nat_lt j (x + 1) && is_dear c.project c.prices least j m t))
dear-step c least old now more x most e l before step j m t =
    step j m t ∙ ap (λ b. b || ((j == x) && is_above c most x m t)) (before j m t) ∙
    ⊎_elim
    (λ (same : j ≡ x).
    let dear : is_above c most x m t ≡ is_dear c.project c.prices least x m t = above-dear c least most x m t e l in
    rw (same, eq-eqb x x refl, dear, le-ltb x x (omega arith), lt-ltb x (x + 1) (omega arith)) (or-false-and (is_marked old x m t) (is_dear c.project c.prices least x m t)))
    (λ (ne : j ≢ x). rw (ne_eqb j x ne, below-next j x ne) (or-false (is_marked old j m t || (nat_lt j x && is_dear c.project c.prices least j m t))))
    (cases_eq j x)
  where
    or-false : (b : Bool) → (b || false) ≡ b
    or-false true = refl
    or-false false = refl

    or-false-and : (a b : Bool) → ((a || false) || b) ≡ (a || b)
    or-false-and true b = refl
    or-false-and false b = refl

    below-next : (a b : ℕ) → a ≢ b → nat_lt a (b + 1) ≡ nat_lt a b
    below-next a b ne = grind (arith, nat_tests)

pub dear-all : (c : CostsData) (least : List ℕ) (old now : List (List (List Bool))) (n : ℕ) → n ≡ size c.project
    → ((j m t : ℕ) → is_marked now j m t ≡ (is_marked old j m t || (nat_lt j n && is_dear c.project c.prices least j m t)))
    → (j m t : ℕ) → is_marked now j m t ≡ (is_marked old j m t || is_dear c.project c.prices least j m t)
unfolding is_dear
dear-all c least old now n e all j m t =
    all j m t ∙ ap (λ b. is_marked old j m t || b) (rw e (twice (nat_lt j (size c.project)) (nat_lt m (mode_count c.project j) && nat_lt (supply c.project c.prices + get_or least j 0) (sum least + cost c.project c.prices j m t))))
  where
    twice : (a b : Bool) → (a && (a && b)) ≡ (a && b)
    twice true b = refl
    twice false b = refl

-- the least numbers so far: none is missing, and they are together within a limit
pub record AreLeastSo (f : ℕ → Option ℕ) (n limit total : ℕ) (least : List ℕ) : Type 0 where
  pub so : AreLeast f n limit least
  pub sums : total ≡ sum least
  pub whole : total_below f n ≡ Some total

pub least-start : (f : ℕ → Option ℕ) (limit : ℕ) → AreLeastSo f 0 limit 0 []
least-start f limit = record { so = record { size = refl; each = λ j l. absurd (omega arith); within = omega arith }; sums = refl; whole = refl }

pub least-push : (f : ℕ → Option ℕ) (n limit total own more : ℕ) (least : List ℕ) → AreLeastSo f n limit total least → f n ≡ Some own → more ≡ total + own → more ≤ limit → AreLeastSo f (n + 1) limit more (least ++ own ∷ [])
least-push f n limit total own more least before is e l =
    let sums : sum (least ++ own ∷ []) ≡ sum least + own = sum_by_push (λ x. x) least own in
    let step : n + 1 ≡ suc n = omega arith in
    record {
      so = record {
        size = length_push least own ∙ ap (λ k. k + 1) before.so.size;
        each = λ j k. ⊎_elim
            (λ (same : j ≡ n). rw (same, get_or_push least own 0 n before.so.size) is)
            (λ (ne : j ≢ n). let inside : j < length least = omega (arith, before.so.size) in rw (get_or_append_left least (own ∷ []) 0 j inside) (before.so.each j (omega arith)))
            (cases_eq j n);
        within = omega (arith, sums, before.sums);
      };
      sums = omega (arith, sums, before.sums);
      whole = rw (step, before.whole, is, e) refl;
    }

pub ruleset least_so_rules = (least-start, least-push)

-- the answer if the cheapest choices are more than the supply, and if they are within it
pub more-refutes : (p : ProjectData) (bound : ℕ) (barred : ℕ → ℕ → ℕ → Bool) (prices known : List Price) → known ≡ prices → are_prices p prices ≡ true
    → exceeds (total_below (cheapest p bound barred known) (size p)) (supply p known) ≡ true → refutes p bound barred prices ≡ true
unfolding refutes
more-refutes p bound barred prices known same priced e = rw (priced, ← same) e

pub within-refutes : (p : ProjectData) (bound : ℕ) (barred : ℕ → ℕ → ℕ → Bool) (prices known : List Price) (least : List ℕ) → known ≡ prices → are_prices p prices ≡ true
    → AreLeast (cheapest p bound barred known) (size p) (supply p known) least → refutes p bound barred prices ≡ false
unfolding refutes
within-refutes p bound barred prices known least same priced so = rw (priced, ← same) (within-not (cheapest p bound barred known) (size p) (supply p known) least so)

-- what is barred if the cheapest choices are within the supply
pub dear-answer : (p : ProjectData) (bound : ℕ) (marks more : List (List (List Bool))) (prices known : List Price) (least : List ℕ) → known ≡ prices → are_prices p prices ≡ true
    → AreLeast (cheapest p bound (is_marked marks) known) (size p) (supply p known) least → IsTable p bound marks
    → ((j m t : ℕ) → is_marked more j m t ≡ (is_marked marks j m t || is_dear p known least j m t))
    → (j m t : ℕ) → j < size p → m < mode_count p j → is_marked more j m t ≡ (is_marked marks j m t || refutes p bound (kept_to (is_marked marks) j (is_choice m t)) prices)
dear-answer p bound marks more prices known least same priced so table is j m t l k =
    is j m t ∙ rw (← same) (dear-bars p bound (is_marked marks) known least (rw same priced) so table.ends j m t l k)

pub foreign-bars : (p : ProjectData) (bound : ℕ) (barred : ℕ → ℕ → ℕ → Bool) (prices : List Price) → are_prices p prices ≡ false → (j m t : ℕ) → barred j m t ≡ (barred j m t || refutes p bound (kept_to barred j (is_choice m t)) prices)
foreign-bars p bound barred prices e j m t = rw (foreign-refutes p bound (kept_to barred j (is_choice m t)) prices e) (sym (or-false (barred j m t)))
  where
    or-false : (b : Bool) → (b || false) ≡ b
    or-false true = refl
    or-false false = refl
