-- Eligibility, and the earliest start: it is the least start that is allowed, and there is one for what is executable.
use Rattle.std.proofs.Common.{◌≡◌, ℕ, ◌+◌, ◌-◌, ◌<◌, ◌≤◌, Bool, true, false, not, ◌||◌, ◌==◌, nat_le, List, [], ◌∷◌, get_or, All, sum_by, arith, refl, ⊎_elim}
use Rattle.std.proofs.lemmas.Bool.{and_parts, and_from, or_cases, false≢true, leb-true, le-leb, eqb-true, not_from_false, not-true}
use Rattle.std.proofs.lemmas.List.Sums.{sum_by-cons, AllPass-from_list_all, list_all-from_AllPass}
use Rattle.mrcpsp.specs.Numbers.{all_below}
use Rattle.mrcpsp.specs.Project.{ProjectData, size, renewables, duration, request, capacity, precedes}
use Rattle.mrcpsp.specs.Schedule.{load}
use Rattle.mrcpsp.specs.Placed.{Placed, finish_of, placed_use, is_placed, latest, are_ready, fits, is_allowed, earliest, is_eligible, is_executable}
use Rattle.mrcpsp.proofs.NumbersLemmas.{all_below-at, all_below-from, first_from-ge, first_from-le, first_from-passes, sum_by-le-all, all-le-largest}
use Rattle.mrcpsp.proofs.ProjectLemmas.{load-over}

pub implies-at : (x y : Bool) → (not x || y) ≡ true → x ≡ true → y ≡ true
implies-at true y h e = h
implies-at false y h e = absurd (false≢true e)

pub implies-from : (x y : Bool) → (x ≡ true → y ≡ true) → (not x || y) ≡ true
implies-from true y h = h refl
implies-from false y h = refl

pub eligible-unplaced : (p : ProjectData) (placed : List Placed) (j : ℕ) → is_eligible p placed j ≡ true → is_placed placed j ≡ false
unfolding is_eligible
eligible-unplaced p placed j e = not-true (is_placed placed j) (and_parts (not (is_placed placed j)) _ e).0

pub eligible-after : (p : ProjectData) (placed : List Placed) (i j : ℕ) → is_eligible p placed j ≡ true → i < size p → precedes p i j ≡ true → is_placed placed i ≡ true
unfolding is_eligible
eligible-after p placed i j e l before =
    implies-at (precedes p i j) (is_placed placed i)
    (all_below-at (λ i. not (precedes p i j) || is_placed placed i) (size p) i (and_parts (not (is_placed placed j)) (all_below (λ i. not (precedes p i j) || is_placed placed i) (size p)) e).1 l) before

pub eligible-from : (p : ProjectData) (placed : List Placed) (j : ℕ) → is_placed placed j ≡ false → ((i : ℕ) → i < size p → precedes p i j ≡ true → is_placed placed i ≡ true) → is_eligible p placed j ≡ true
unfolding is_eligible
eligible-from p placed j new before =
    and_from (not (is_placed placed j)) (all_below (λ i. not (precedes p i j) || is_placed placed i) (size p)) (not_from_false (is_placed placed j) new)
    (all_below-from (λ i. not (precedes p i j) || is_placed placed i) (size p) (λ i l. implies-from (precedes p i j) (is_placed placed i) (before i l)))

pub ready-from : (p : ProjectData) (placed : List Placed) (j t : ℕ) → All (λ a. precedes p a.activity j ≡ true → finish_of p a ≤ t) placed → are_ready p placed j t ≡ true
unfolding are_ready
ready-from p placed j t h =
    list_all-from_AllPass (λ (a : Placed). not (precedes p a.activity j) || nat_le (finish_of p a) t) placed
    (λ k d l. let a = get_or placed k d in implies-from (precedes p a.activity j) (nat_le (finish_of p a) t) (λ e. le-leb (finish_of p a) t (h k d l e)))

pub ready-at : (p : ProjectData) (placed : List Placed) (j t : ℕ) → are_ready p placed j t ≡ true → All (λ a. precedes p a.activity j ≡ true → finish_of p a ≤ t) placed
unfolding are_ready
ready-at p placed j t h k d l e =
    let a = get_or placed k d in
    leb-true (finish_of p a) t (implies-at (precedes p a.activity j) (nat_le (finish_of p a) t) (AllPass-from_list_all (λ (a : Placed). not (precedes p a.activity j) || nat_le (finish_of p a) t) placed h k d l) e)

pub fits-from : (p : ProjectData) (placed : List Placed) (j m t : ℕ) → ((r u : ℕ) → r < renewables p → t ≤ u → u < t + duration p j m → placed_use p placed r u + request p j m r ≤ capacity p r) → fits p placed j m t ≡ true
unfolding fits
fits-from p placed j m t h =
    all_below-from _ (renewables p) (λ r inside. all_below-from _ (duration p j m) (λ k l. le-leb (placed_use p placed r (t + k) + request p j m r) (capacity p r) (h r (t + k) inside (omega arith) (omega arith))))

pub fits-at : (p : ProjectData) (placed : List Placed) (j m t : ℕ) → fits p placed j m t ≡ true → (r u : ℕ) → r < renewables p → t ≤ u → u < t + duration p j m → placed_use p placed r u + request p j m r ≤ capacity p r
unfolding fits
fits-at p placed j m t h r u inside from until =
    let each : (k : ℕ) → k < duration p j m → placed_use p placed r (t + k) + request p j m r ≤ capacity p r = λ k l. leb-true (placed_use p placed r (t + k) + request p j m r) (capacity p r) (all_below-at (λ k. nat_le (placed_use p placed r (t + k) + request p j m r) (capacity p r)) (duration p j m) k (all_below-at (λ r. all_below (λ k. nat_le (placed_use p placed r (t + k) + request p j m r) (capacity p r)) (duration p j m)) (renewables p) r h inside) l) in
    let back : t + (u - t) ≡ u = omega arith in
    rw back at (each (u - t) (omega arith))

pub earliest-ge : (p : ProjectData) (placed : List Placed) (j m from : ℕ) → from ≤ earliest p placed j m from
unfolding earliest
earliest-ge p placed j m from = first_from-ge (is_allowed p placed j m) (latest p placed) from

pub earliest-le : (p : ProjectData) (placed : List Placed) (j m from t : ℕ) → from ≤ t → is_allowed p placed j m t ≡ true → earliest p placed j m from ≤ t
unfolding earliest
earliest-le p placed j m from t l h = first_from-le (is_allowed p placed j m) (latest p placed) from t l h

zeros : {X : Type 0} (xs : List X) → sum_by (λ _. 0) xs ≡ 0
zeros [] = refl
zeros (x ∷ xs) = omega (arith, sum_by-cons (λ _. 0) x xs, zeros xs)

-- nothing runs from the latest finish on
pub idle_from_latest : (p : ProjectData) (placed : List Placed) (r u : ℕ) → latest p placed ≤ u → placed_use p placed r u ≡ 0
unfolding placed_use
idle_from_latest p placed r u l =
    let over : All (λ a. load p r u a.activity a.mode a.start ≤ 0) placed = λ k d h. let a = get_or placed k d in let done : finish_of p a ≤ u = all-le-largest (finish_of p) placed u l k d h in omega (arith, load-over p r u a.activity a.mode a.start done) in
    let none : sum_by (λ (a : Placed). load p r u a.activity a.mode a.start) placed ≤ sum_by (λ _. 0) placed = sum_by-le-all (λ (a : Placed). load p r u a.activity a.mode a.start) (λ _. 0) placed over in
    omega (arith, zeros placed)

pub allowed_at_latest : (p : ProjectData) (placed : List Placed) (j m t : ℕ) → is_executable p j m ≡ true → latest p placed ≤ t → is_allowed p placed j m t ≡ true
unfolding is_allowed is_executable
allowed_at_latest p placed j m t can l =
    and_from (are_ready p placed j t) (fits p placed j m t)
    (ready-from p placed j t (λ k d h _. all-le-largest (finish_of p) placed t l k d h))
    (fits-from p placed j m t (λ r u inside from until.
    let idle : placed_use p placed r u ≡ 0 = idle_from_latest p placed r u (omega arith) in
    ⊎_elim
    (λ (nothing : (duration p j m == 0) ≡ true). absurd (omega (arith, eqb-true (duration p j m) 0 nothing)))
    (λ h. omega (arith, leb-true (request p j m r) (capacity p r) (all_below-at (λ r. nat_le (request p j m r) (capacity p r)) (renewables p) r h inside)))
    (or_cases (duration p j m == 0) (all_below (λ r. nat_le (request p j m r) (capacity p r)) (renewables p)) can)))

-- what is executable may be added at its earliest start
pub earliest-allowed : (p : ProjectData) (placed : List Placed) (j m from : ℕ) → is_executable p j m ≡ true → is_allowed p placed j m (earliest p placed j m from) ≡ true
unfolding earliest
earliest-allowed p placed j m from can = first_from-passes (is_allowed p placed j m) (latest p placed) from (allowed_at_latest p placed j m (from + latest p placed) can (omega arith))
