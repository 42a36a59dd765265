-- A search after some more nodes.
use Rattle.std.proofs.Common.{◌≡◌, ℕ, zero, suc, ◌<◌, ◌≤◌, ◌+◌, ◌-◌, min, Bool, true, false, arith, refl, sym, ap, ◌∙◌, ⊎_elim, Option, Some, IfSome, option_map}
use Rattle.std.proofs.lemmas.Bool.{or_parts, cond_both, cond-true, cond-false, cases_lt, false_from_ne_true}
use Rattle.mrcpsp.specs.Numbers.{first_from}
use Rattle.mrcpsp.specs.Schedule.{makespan}
use Rattle.mrcpsp.proofs.NumbersLemmas.{first_from-ge, first_from-le}
use Rattle.strategy.specs.Outcome.{is_closed}
use Rattle.strategy.specs.Search.{Meaning, shown_closed, ran_on, nodes_within}
use Rattle.strategy.specs.declared.plan.Plan.{Plan}
use Rattle.solve_cli.specs.Found.{IsAt, IsBegun, IsOver, IsShown, IsFound}
use Rattle.solve_cli.specs.declared.search_result.SearchResult.{SearchResult}

from_most : (test : ℕ → Bool) (k t : ℕ) → first_from test k t ≤ t + k
from_most test zero t = omega arith
from_most test (suc k) t = cond_both (test t) t (first_from test k (t + 1)) (λ x. x ≤ t + suc k) (λ _. omega arith) (λ _. omega (arith, from_most test k (t + 1)))

-- none before it passes
none_before : (test : ℕ → Bool) (k t n : ℕ) → t ≤ n → n < first_from test k t → test n ≡ false
none_before test k t n l h = false_from_ne_true (test n) (λ e. omega (arith, h, first_from-le test k t n l e))

first_none : (test : ℕ → Bool) (k t : ℕ) → ((n : ℕ) → t ≤ n → n < t + k → test n ≡ false) → first_from test k t ≡ t + k
first_none test zero t h = omega arith
first_none test (suc k) t h =
    omega (arith, cond-false (test t) t (first_from test k (t + 1)) (h t (omega arith) (omega arith)), first_none test k (t + 1) (λ n l m. h n (omega arith) (omega arith)))

first_is : (test : ℕ → Bool) (k t n : ℕ) → t ≤ n → n ≤ t + k → test n ≡ true → ((j : ℕ) → t ≤ j → j < n → test j ≡ false) → first_from test k t ≡ n
first_is test zero t n l m here before = omega arith
first_is test (suc k) t n l m here before =
    ⊎_elim
    (λ (later : t < n). cond-false (test t) t (first_from test k (t + 1)) (before t (omega arith) later) ∙ first_is test k (t + 1) n (omega arith) (omega arith) here (λ j a b. before j (omega arith) b))
    (λ (now : n ≤ t). let same : t ≡ n = omega arith in cond-true (test t) t (first_from test k (t + 1)) (rw same here) ∙ same)
    (cases_lt t n)

-- at most what is left
run_most : (most : ℕ) (m : Meaning) → nodes_within most m ≤ m.left
unfolding nodes_within
run_most most m = omega (arith, from_most (λ r. is_closed m.plan (m.nodes + r)) (min most m.left) 0)

-- at least one, where it is not over and may run one
run_some : (most : ℕ) (m : Meaning) → 0 < most → shown_closed m ≡ false → 0 < m.left → 0 < nodes_within most m
unfolding nodes_within
run_some most m may going paid =
    let test : ℕ → Bool = λ r. is_closed m.plan (m.nodes + r) in
    let one : min most m.left ≡ suc (min most m.left - 1) = omega (arith, may, paid) in
    let same : m.nodes + 0 ≡ m.nodes = omega arith in
    let here : test 0 ≡ false = rw same (or_parts m.taken (is_closed m.plan m.nodes) going).1 in
    rw (one, cond-false (test 0) 0 (first_from test (min most m.left - 1) 1) here) (omega (arith, first_from-ge test (min most m.left - 1) 1))

-- and until its last node it was not over
run_open : (most : ℕ) (m : Meaning) (n : ℕ) → m.nodes ≤ n → n < m.nodes + nodes_within most m → is_closed m.plan n ≡ false
unfolding nodes_within
run_open most m n from to =
    let test : ℕ → Bool = λ r. is_closed m.plan (m.nodes + r) in
    let same : m.nodes + (n - m.nodes) ≡ n = omega (arith, from) in
    rw same at (none_before test (min most m.left) 0 (n - m.nodes) (omega arith) (omega (arith, from, to)))

pub ran_at : (most : ℕ) (m next : Meaning) → next ≡ ran_on (nodes_within most m) m → IsAt m next
ran_at most m next is =
    let n : next.nodes ≡ m.nodes + nodes_within most m = ap (λ (x : Meaning). x.nodes) is in
    let l : next.left ≡ m.left - nodes_within most m = ap (λ (x : Meaning). x.left) is in
    record {
      plan = ap (λ (x : Meaning). x.plan) is;
      taken = ap (λ (x : Meaning). x.taken) is;
      paid = omega (arith, n, l, run_most most m);
      going = λ k from to. run_open most m k from (omega (arith, n, to));
    }

pub ran_less : (most : ℕ) (m next : Meaning) → 0 < most → shown_closed m ≡ false → 0 < m.left → next ≡ ran_on (nodes_within most m) m → next.left < m.left
ran_less most m next may going paid is =
    let l : next.left ≡ m.left - nodes_within most m = ap (λ (x : Meaning). x.left) is in
    omega (arith, l, run_some most m may going paid, run_most most m)

pub at_once : (m : Meaning) → IsAt m m
at_once m = record { plan = refl; taken = refl; paid = refl; going = λ n from to. absurd (omega (arith, from, to)) }

pub at_then : (a b c : Meaning) → IsAt a b → IsAt b c → IsAt a c
at_then a b c ab bc = record {
  plan = bc.plan ∙ ab.plan;
  taken = bc.taken ∙ ab.taken;
  paid = bc.paid ∙ ab.paid;
  going = λ n from to. ⊎_elim (λ (early : n < b.nodes). ab.going n from early) (λ (late : b.nodes ≤ n). rw ab.plan at (bc.going n late to)) (cases_lt n b.nodes);
}

-- it is over where it shows so, if its best was not taken
closed_of : (m : Meaning) → m.taken ≡ false → shown_closed m ≡ true → is_closed m.plan m.nodes ≡ true
closed_of m kept h = rw kept at h

-- a search with a number of quanta that ran until it was over or had none left has run the lesser
-- of its quanta and its need
nodes_of : (of : Plan) (most : ℕ) (begun over : Meaning) → IsBegun of most begun → IsAt begun over → IsOver over → over.nodes ≡ first_from (is_closed of) most 0
nodes_of of most begun over is ran end =
    let none : begun.nodes ≡ 0 = is.nodes in
    let going : (n : ℕ) → 0 ≤ n → n < over.nodes → is_closed of n ≡ false = λ n from to. rw is.plan at (ran.going n (omega (arith, none)) to) in
    let closed : shown_closed over ≡ true → is_closed of over.nodes ≡ true = λ h. rw (ran.plan ∙ is.plan) at (closed_of over (ran.taken ∙ is.taken) h) in
    ⊎_elim
    (λ (now : (shown_closed begun ≡ true) × (begun.left ≡ 0)).
    let still : over.nodes ≡ 0 = omega (arith, none, ran.paid, now.1) in
    let here : is_closed of 0 ≡ true = rw (is.plan, none) at (closed_of begun is.taken now.0) in
    still ∙ sym (first_is (is_closed of) most 0 0 (omega arith) (omega arith) here (λ j a b. absurd (omega (arith, a, b)))))
    (λ (paid : begun.left ≡ most).
    ⊎_elim
    (λ (h : shown_closed over ≡ true). sym (first_is (is_closed of) most 0 over.nodes (omega arith) (omega (arith, none, paid, ran.paid)) (closed h) going))
    (λ (h : over.left ≡ 0).
    let all : over.nodes ≡ most = omega (arith, none, paid, ran.paid, h) in
    omega (arith, all, first_none (is_closed of) most 0 (λ n from to. going n from (omega (arith, all, to)))))
    end)
    is.left

-- what it shows then is what is found
pub found_of : (of : Plan) (most : ℕ) (begun over : Meaning) (f : SearchResult) → IsBegun of most begun → IsAt begun over → IsOver over → IsShown over f → IsFound of most f
found_of of most begun over f is ran end shown =
    let plan : over.plan ≡ of = ran.plan ∙ is.plan in
    record {
      nodes = shown.nodes ∙ nodes_of of most begun over is ran end;
      best = rw (plan, ← shown.nodes) at shown.best;
      makespan = rw plan at (shown.makespan ∙ ap (option_map (makespan over.plan.project)) (sym shown.best));
      verdict = rw (plan, ← shown.nodes) at shown.verdict;
    }

pub found_few : (plan : Plan) (most : ℕ) (f : SearchResult) → IsFound plan most f → f.nodes ≤ most
found_few plan most f is = omega (arith, is.nodes, from_most (is_closed plan) most 0)

-- what is known of a value, if there is one, is known of the one that is there
pub known_of : {X : Type 0} (P : X → Type 0) (o : Option X) (x : X) → o ≡ Some x → IfSome o P → P x
known_of P o x is h = rw is at h
