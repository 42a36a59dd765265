-- The computing definitions have the meaning that is written in words.
use Rattle.std.proofs.Common.{◌≡◌, ℕ, zero, suc, ◌+◌, ◌-◌, ◌<◌, ◌≤◌, true, List, [], ◌∷◌, ◌++◌, map, get_or, All, arith, refl, sym, ap, ⊎_elim, le_antisymm}
use Rattle.std.proofs.lemmas.Bool.{and_parts, and_from, cases_lt}
use Rattle.std.proofs.lemmas.List.{get_or_past}
use Rattle.std.proofs.lemmas.List.Elements.{All-head, All-tail}
use Rattle.std.proofs.lemmas.List.Sums.{sum_by_push}
use Rattle.mrcpsp.specs.Numbers.{largest}
use Rattle.mrcpsp.specs.Project.{ProjectData, ActivityData, no_activity, size, successors, duration, request}
use Rattle.mrcpsp.specs.Limits.{IsProject}
use Rattle.mrcpsp.specs.Schedule.{load}
use Rattle.mrcpsp.specs.Values.{shortest}
use Rattle.mrcpsp.specs.Placed.{Placed, placed_use, are_ready, fits, is_allowed, earliest, is_executable}
use Rattle.mrcpsp.specs.Values.{chain, tail}
use Rattle.mrcpsp.specs.Earliest.{MayStart, IsEarliest}
use Rattle.mrcpsp.proofs.ProjectLemmas.{load-running}
use Rattle.mrcpsp.proofs.EarliestLemmas.{ready-from, ready-at, fits-from, fits-at, earliest-ge, earliest-le, earliest-allowed}

use-push : (p : ProjectData) (placed : List Placed) (j m t r u : ℕ) → t ≤ u → u < t + duration p j m → placed_use p (placed ++ record { activity = j; mode = m; start = t } ∷ []) r u ≡ placed_use p placed r u + request p j m r
unfolding placed_use
use-push p placed j m t r u from until = omega (arith, sum_by_push (λ (a : Placed). load p r u a.activity a.mode a.start) placed (record { activity = j; mode = m; start = t }), load-running p r u j m t from until)

pub may-allowed : (p : ProjectData) (placed : List Placed) (j m t : ℕ) → MayStart p placed j m t → is_allowed p placed j m t ≡ true
unfolding is_allowed
may-allowed p placed j m t may =
    and_from (are_ready p placed j t) (fits p placed j m t) (ready-from p placed j t may.ready)
    (fits-from p placed j m t (λ r u inside from until. omega (arith, may.room r u inside from until, use-push p placed j m t r u from until)))

pub allowed-may : (p : ProjectData) (placed : List Placed) (j m t : ℕ) → is_allowed p placed j m t ≡ true → MayStart p placed j m t
unfolding is_allowed
allowed-may p placed j m t h =
    let parts = and_parts (are_ready p placed j t) (fits p placed j m t) h in
    record {
      ready = ready-at p placed j t parts.0;
      room = λ r u inside from until. omega (arith, fits-at p placed j m t parts.1 r u inside from until, use-push p placed j m t r u from until);
    }

pub earliest_is : (p : ProjectData) (placed : List Placed) (j m from : ℕ) → is_executable p j m ≡ true → IsEarliest p placed j m from (earliest p placed j m from)
earliest_is p placed j m from can =
    record {
      above = earliest-ge p placed j m from;
      may = allowed-may p placed j m (earliest p placed j m from) (earliest-allowed p placed j m from can);
      least = λ s l may. earliest-le p placed j m from s l (may-allowed p placed j m s may);
    }

-- what has the meaning is the computed one
pub earliest_unique : (p : ProjectData) (placed : List Placed) (j m from t : ℕ) → is_executable p j m ≡ true → IsEarliest p placed j m from t → t ≡ earliest p placed j m from
earliest_unique p placed j m from t can is =
    let other = earliest_is p placed j m from can in
    le_antisymm (is.least (earliest p placed j m from) other.above other.may) (other.least t is.above is.may)

largest-same : (f g : ℕ → ℕ) (xs : List ℕ) → All (λ x. f x ≡ g x) xs → largest (map f xs) ≡ largest (map g xs)
largest-same f g [] h = refl
largest-same f g (x ∷ xs) h =
    let here : f x ≡ g x = All-head (λ y. f y ≡ g y) x xs h in
    let rest : largest (map f xs) ≡ largest (map g xs) = largest-same f g xs (All-tail (λ y. f y ≡ g y) x xs h) in
    cc

-- past the last activity there are no successors
pub none_past : (p : ProjectData) (j : ℕ) → size p ≤ j → successors p j ≡ []
unfolding successors size
none_past p j past = ap (λ (a : ActivityData). a.successors) (get_or_past p.activities j no_activity past)

chain-stays : (p : ProjectData) → IsProject p → (k j : ℕ) → size p ≤ j + k → chain p (suc k) j ≡ chain p k j
chain-stays p ok zero j past = rw (none_past p j (omega arith)) refl
chain-stays p ok (suc k) j past =
    ⊎_elim
    (λ (inside : j < size p). largest-same (λ s. shortest p (s - 1) + chain p (suc k) (s - 1)) (λ s. shortest p (s - 1) + chain p k (s - 1)) (successors p j)
    (λ i d l.
    let s = get_or (successors p j) i d in
    let above : j + 1 < s = (ok.rising j inside i d l).0 in
    ap (λ n. shortest p (s - 1) + n) (chain-stays p ok k (s - 1) (omega arith))))
    (λ (over : size p ≤ j). rw (none_past p j over) refl)
    (cases_lt j (size p))

-- the recursion of the tails
pub tail_is : (p : ProjectData) (j : ℕ) → IsProject p → tail p j ≡ largest (map (λ s. shortest p (s - 1) + tail p (s - 1)) (successors p j))
unfolding tail
tail_is p j ok = sym (chain-stays p ok (size p) j (omega arith))
