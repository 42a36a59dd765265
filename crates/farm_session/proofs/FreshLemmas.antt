-- Searches that are submitted are fresh.
use Rattle.std.proofs.Common.{◌≡◌, ℕ, List, Option, Some, IfSome, subst}
use Rattle.std.specs.Prelude.{slice_get}
use Rattle.quanta_till.specs.Lease.{LeaseValue}
use Rattle.strategy.specs.Search.{Meaning}
use Rattle.strategy.specs.declared.plan.Plan.{Plan}
use Rattle.job_table.specs.Job.{fresh_search}
use Rattle.farm_session.specs.TillDesk.{TillDeskValue, lease_at, HasLeased}
use Rattle.farm_session.specs.Ready.{ReadyData, MakesFresh}

-- a search that was made for a tenant's plan is fresh
pub made_fresh : {J : Type 0} (meaning : J → Meaning) (lease : J → LeaseValue) (made : ReadyData → Option J → Type 0) → MakesFresh meaning lease made →
    (old new : TillDeskValue) (t : ℕ) (plan : Plan) (result : Option J) (search : J) → result ≡ Some search →
    HasLeased made old (record { plan = plan; lease = lease_at old t }) result new → meaning search ≡ fresh_search t plan
made_fresh meaning lease made makes old new t plan result search is leased =
    let ready : ReadyData = record { plan = plan; lease = lease_at old t } in
    let some : HasLeased made old ready (Some search) new = subst (λ r. HasLeased made old ready r new) is leased in
    (makes ready search some.1).0

-- and it draws on the lease that was made for it
pub made_drawn : {J : Type 0} (meaning : J → Meaning) (lease : J → LeaseValue) (made : ReadyData → Option J → Type 0) → MakesFresh meaning lease made →
    (old new : TillDeskValue) (t : ℕ) (plan : Plan) (result : Option J) (search : J) → result ≡ Some search →
    HasLeased made old (record { plan = plan; lease = lease_at old t }) result new → lease search ≡ lease_at old t
made_drawn meaning lease made makes old new t plan result search is leased =
    let ready : ReadyData = record { plan = plan; lease = lease_at old t } in
    let some : HasLeased made old ready (Some search) new = subst (λ r. HasLeased made old ready r new) is leased in
    (makes ready search some.1).1

-- what is so of the till desk that is found
pub found_branch : (bs : List TillDeskValue) (p : ℕ) (b : TillDeskValue) (P : TillDeskValue → Type 0) → slice_get bs p ≡ Some b → P b → IfSome (slice_get bs p) P
found_branch bs p b P found h = rw found h
