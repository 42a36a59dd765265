-- A search whose nodes are paid by a lease.
use Rattle.std.specs.Prelude.{◌≡◌, ℕ, ◌+◌, ◌<◌, ◌≤◌, Bool, true, false}
use Rattle.mrcpsp.specs.Values.{bound}
use Rattle.quanta_till.specs.Lease.{LeaseValue}
use Rattle.quanta_till.specs.declared.holding.TheConstants.{LEASE_LIMIT}
use Rattle.strategy.specs.Outcome.{is_closed, verdict_after}
use Rattle.strategy.specs.Search.{Meaning}
use Rattle.strategy.specs.declared.plan.Plan.{Plan}
use Rattle.strategy.specs.declared.verdict.Verdict.{Verdict}
use Rattle.strategy.specs.declared.verdict.Verdict.TheVariants.{Going, Optimal, Infeasible, Ended}

-- a search that has run no node, with its lease
abbrev pub fresh : Plan → LeaseValue → Meaning × LeaseValue
fresh plan lease = (record { tenant = lease.tenant; plan = plan; nodes = 0; left = lease.left; taken = false }, lease)

-- one more node may run: k nodes of a plan have run, and its search is not over
pub record GoesOn {N : Type 0} (stands : N → Plan → ℕ → Type 0) (n : N) : Type 0 where
  pub plan : Plan
  pub nodes : ℕ
  pub here : stands n plan nodes
  pub going : is_closed plan nodes ≡ false
  pub few : nodes < LEASE_LIMIT

-- so many more nodes are within the limit
pub record RunsOn {N : Type 0} (stands : N → Plan → ℕ → Type 0) (n : N) (most : ℕ) : Type 0 where
  pub plan : Plan
  pub nodes : ℕ
  pub here : stands n plan nodes
  pub few : nodes + most ≤ LEASE_LIMIT

-- each node was paid, the verdict is the one after them, and until the best was taken n has run
-- them
pub record IsPaid {N : Type 0} (stands : N → Plan → ℕ → Type 0) (plan : Plan) (lease : LeaseValue) (nodes bound_is : ℕ) (taken : Bool) (verdict : Verdict) (n : N) : Type 0 where
  pub paid : nodes ≡ lease.used
  pub limited : nodes + lease.left ≤ LEASE_LIMIT
  pub bounded : bound_is ≡ bound plan.project
  pub shown : verdict ≡ verdict_after plan nodes
  pub here : taken ≡ false → stands n plan nodes

-- whether a verdict ends the search: any but 'going'
abbrev pub is_over : Verdict → Bool
is_over Going = false
is_over Optimal = true
is_over Infeasible = true
is_over Ended = true
