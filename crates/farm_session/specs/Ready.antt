-- What a search is made of, and which one.
use Rattle.std.specs.Prelude.{◌≡◌, Option, Some}
use Rattle.strategy.specs.Search.{Meaning}
use Rattle.strategy.specs.declared.plan.Plan.{Plan}
use Rattle.quanta_till.specs.Lease.{LeaseValue}
use Rattle.job_table.specs.Job.{fresh_search}

-- a search's plan, and the lease that it draws on
pub record ReadyData : Type 0 where
  pub plan : Plan
  pub lease : LeaseValue

-- each search made so is for the plan, of the lease's tenant, has run and holds nothing, and draws
-- on this lease
abbrev pub MakesFresh : {J : Type 0} → (J → Meaning) → (J → LeaseValue) → (ReadyData → Option J → Type 0) → Type 0
MakesFresh meaning lease made =
    (ready : ReadyData) → (search : _) → made ready (Some search) → (meaning search ≡ fresh_search ready.lease.tenant ready.plan) × (lease search ≡ ready.lease)
