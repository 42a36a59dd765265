-- Nodes that run one after the other: their result, and how many run within a limit.
use Rattle.std.proofs.Common.{◌≡◌, ℕ, suc, ◌+◌, ◌-◌, ◌<◌, min, ◌||◌, false, refl, ap, arith}
use Rattle.std.proofs.lemmas.Bool.{cond-false}
use Rattle.mrcpsp.specs.Numbers.{first_from}
use Rattle.quanta_till.specs.Lease.{LeaseValue, after_use}
use Rattle.strategy.specs.Outcome.{is_closed}
use Rattle.strategy.specs.Search.{Meaning, shown_closed, ran_on, advanced, nodes_within}
use Rattle.strategy.specs.declared.plan.Plan.{Plan}

-- none, and one more than r
pub ran_none : (m : Meaning) → m ≡ ran_on 0 m
ran_none m =
    let nodes : m.nodes + 0 ≡ m.nodes = omega arith in
    let left : m.left - 0 ≡ m.left = omega arith in
    rw (nodes, left) refl

pub ran_next : (m : Meaning) (r : ℕ) → advanced (ran_on r m) ≡ ran_on (r + 1) m
ran_next m r =
    let nodes : m.nodes + r + 1 ≡ m.nodes + (r + 1) = omega arith in
    let left : m.left - r - 1 ≡ m.left - (r + 1) = omega arith in
    rw (nodes, left) refl

pub used_none : (l : LeaseValue) → l ≡ after_use l 0
used_none l =
    let used : l.used + 0 ≡ l.used = omega arith in
    let left : l.left - 0 ≡ l.left = omega arith in
    rw (used, left) refl

pub used_next : (l : LeaseValue) (r : ℕ) → after_use (after_use l r) 1 ≡ after_use l (r + 1)
used_next l r =
    let used : l.used + r + 1 ≡ l.used + (r + 1) = omega arith in
    let left : l.left - r - 1 ≡ l.left - (r + 1) = omega arith in
    rw (used, left) refl

-- how many run in all within a limit, once r of them have run
abbrev pub nodes_from : ℕ → Plan → ℕ → ℕ → ℕ
nodes_from limit plan nodes r = first_from (λ i. is_closed plan (nodes + i)) (limit - r) r

pub run_start : (most : ℕ) (m : Meaning) → nodes_within most m ≡ nodes_from (min most m.left) m.plan m.nodes 0
unfolding nodes_within
run_start most m = let all : min most m.left - 0 ≡ min most m.left = omega arith in rw all refl

pub run_more : (limit : ℕ) (plan : Plan) (nodes r : ℕ) → r < limit → is_closed plan (nodes + r) ≡ false → nodes_from limit plan nodes r ≡ nodes_from limit plan nodes (r + 1)
run_more limit plan nodes r l going =
    let one : limit - r ≡ suc (limit - (r + 1)) = omega arith in
    rw one (cond-false (is_closed plan (nodes + r)) r (first_from (λ i. is_closed plan (nodes + i)) (limit - (r + 1)) (r + 1)) going)

-- a search whose best was not taken is closed if its plan is
pub closed_here : (m : Meaning) (r : ℕ) → m.taken ≡ false → shown_closed (ran_on r m) ≡ is_closed m.plan (m.nodes + r)
closed_here m r untaken = ap (λ b. b || is_closed m.plan (m.nodes + r)) untaken
