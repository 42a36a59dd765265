-- Longest chains before an activity.
use Rattle.std.proofs.Common.{◌≡◌, ℕ, zero, suc, ◌+◌, ◌*◌, ◌<◌, ◌≤◌, true, false, cond, arith, refl, ap, ⊎_elim}
use Rattle.std.proofs.lemmas.Bool.{cases_Bool}
use Rattle.mrcpsp.specs.Numbers.{max_below}
use Rattle.mrcpsp.specs.Project.{ProjectData, is_project, precedes}
use Rattle.mrcpsp.specs.Values.{shortest}
use Rattle.mrcpsp.specs.Limits.{IsProject}
use Rattle.mrcpsp.proofs.LimitLemmas.{kept}
use Rattle.mrcpsp.proofs.NumbersLemmas.{max_below-le}
use Rattle.measures.proofs.ValueLemmas.{shortest-small}
use Rattle.schedule_clauses.specs.Size.{chain_before, head}

max_below-same : (f g : ℕ → ℕ) (n : ℕ) → ((j : ℕ) → j < n → f j ≡ g j) → max_below f n ≡ max_below g n
max_below-same f g zero h = refl
max_below-same f g (suc n) h = omega (arith, max_below-same f g n (λ j l. h j (omega arith)), h n (omega arith))

-- what a predecessor adds to the chains before an activity, with so long chains before it
abbrev pub through : ProjectData → ℕ → (ℕ → ℕ) → ℕ → ℕ
through p j before i = cond (precedes p i j) (before i + shortest p i) 0

-- more than j activities are never before activity j
chain-before-stable : (p : ProjectData) (n k m j : ℕ) → j ≤ n → j ≤ k → j ≤ m → chain_before p k j ≡ chain_before p m j
chain-before-stable p n zero zero j a b d = refl
chain-before-stable p n zero (suc m) zero a b d = refl
chain-before-stable p n zero (suc m) (suc j) a b d = absurd (omega arith)
chain-before-stable p n (suc k) zero zero a b d = refl
chain-before-stable p n (suc k) zero (suc j) a b d = absurd (omega arith)
chain-before-stable p n (suc k) (suc m) zero a b d = refl
chain-before-stable p zero (suc k) (suc m) (suc j) a b d = absurd (omega arith)
chain-before-stable p (suc n) (suc k) (suc m) (suc j) a b d =
    max_below-same (through p (suc j) (chain_before p k)) (through p (suc j) (chain_before p m)) (suc j)
    (λ i l. ap (λ x. cond (precedes p i (suc j)) (x + shortest p i) 0) (chain-before-stable p n k m i (omega arith) (omega arith) (omega arith)))

-- the recursion of the longest chains
pub head_is : (p : ProjectData) (j : ℕ) → head p j ≡ max_below (through p j (head p)) j
unfolding head
head_is p zero = refl
head_is p (suc j) =
    max_below-same (through p (suc j) (chain_before p j)) (through p (suc j) (λ i. chain_before p i i)) (suc j)
    (λ i l. ap (λ x. cond (precedes p i (suc j)) (x + shortest p i) 0) (chain-before-stable p j j i i (omega arith) (omega arith) (omega arith)))

chain-before-small : (p : ProjectData) → IsProject p → (k j : ℕ) → chain_before p k j ≤ k * 1000
chain-before-small p ok zero j = omega arith
chain-before-small p ok (suc k) j =
    max_below-le (through p j (chain_before p k)) j (suc k * 1000)
    (λ i l. ⊎_elim
    (λ (e : precedes p i j ≡ true). rw e (omega (arith, chain-before-small p ok k i, shortest-small p i ok)))
    (λ (e : precedes p i j ≡ false). rw e (omega arith))
    (cases_Bool (precedes p i j)))

pub head-small : (p : ProjectData) (j : ℕ) → is_project p ≡ true → head p j ≤ j * 1000
unfolding head
head-small p j project = chain-before-small p (kept p project) j j

pub shortest-few : (p : ProjectData) (j : ℕ) → is_project p ≡ true → shortest p j ≤ 1000
shortest-few p j project = shortest-small p j (kept p project)

pub ruleset size_rules = (head_is, head-small, shortest-few)
