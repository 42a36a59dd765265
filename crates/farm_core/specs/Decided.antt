-- What the farm decides for a command, and what it makes of it.
use Rattle.std.specs.Prelude.{◌≡◌, ⊤, ℕ, ◌+◌, ◌≤◌, Bool, true, false, List, Some, None, IfSome}
use Rattle.quanta_till.specs.declared.holding.TheConstants.{LEASE_LIMIT}
use Rattle.job_table.specs.Table as table
use Rattle.job_table.specs.Table.{JobData, Row, TableData, find_row, add_job}
use Rattle.job_table.specs.Job.{given_up, IsFunded, IsGivenUp}
use Rattle.farm_core.specs.declared.account.Account.{Account}
use Rattle.farm_core.specs.declared.entry.Event.{Event}
use Rattle.farm_core.specs.declared.entry.Event.TheVariants as event
use Rattle.farm_core.specs.declared.farm.effect.Change.{Change}
use Rattle.farm_core.specs.declared.farm.effect.Change.TheVariants.{Fund, GiveUp}
use Rattle.farm_core.specs.declared.farm.effect.Effect.{Effect}
use Rattle.farm_core.specs.declared.farm.effect.Effect.TheVariants as effect
use Rattle.farm_core.specs.declared.reply.Reply.{Reply}
use Rattle.farm_core.specs.declared.reply.Reply.TheVariants as reply
use Rattle.farm_core.specs.Tenant.{Tenant, book}
use Rattle.farm_core.specs.Step.{Replied, Nothing, Notes, Adds, Changes, Drops, decided, step}

-- what asks for this change of job s
abbrev pub asking : Change → ℕ → Event
asking (Fund quanta) s = event.Fund s quanta
asking GiveUp s = event.Cancel s

-- the effect is the one that `Step` decides, and its account has the purse's ledger afterwards
abbrev pub IsDecided : {J : Type 0} → Tenant → Event → Effect J → Type 0
IsDecided t e (effect.Nothing answer) = decided t e ≡ Nothing (Replied answer)
IsDecided t e (effect.Notes answer) = decided t e ≡ Notes answer
IsDecided t e (effect.Adds job after) = (decided t e ≡ Adds job) × (after.book ≡ book (step t e).after)
IsDecided t e (effect.Changes line after change) =
    (e ≡ asking change line.seq) × ((new : JobData) × (decided t e ≡ Changes new 0 (Replied (reply.Line line)))) × (after.book ≡ book (step t e).after)
IsDecided t e (effect.Drops s) = decided t e ≡ Drops s

-- rows in which the effect can be made
abbrev pub Fits : {J : Type 0} → ℕ → Effect J → List Row → Type 0
Fits t (effect.Nothing answer) rows = ⊥
Fits t (effect.Adds job after) rows = find_row t job.seq rows ≡ None
Fits t (effect.Changes line after (Fund quanta)) rows = IfSome (find_row t line.seq rows) (λ job. job.nodes + job.left + quanta ≤ LEASE_LIMIT)
Fits t (effect.Changes line after GiveUp) rows = (job : JobData) × (new : JobData) × (find_row t line.seq rows ≡ Some job) × (given_up job job.phase ≡ Some new)
Fits t f rows = ⊤

-- the effect was made in the table and in the account, and replied to
abbrev pub IsMade : {J : Type 0} → ℕ → Effect J → TableData → Account → TableData → Account → Reply → Type 0
IsMade t (effect.Nothing answer) old a new b told = ⊥
IsMade t (effect.Notes answer) old a new b told = (new ≡ old) × (b ≡ record a { used = a.used + 1 }) × (told ≡ answer)
IsMade t (effect.Adds job after) old a new b told = (new ≡ add_job t job old) × (b ≡ record { book = after.book; next = a.next + 1; used = a.used + 1 }) × (told ≡ reply.Job job.seq)
IsMade t (effect.Changes line after (Fund quanta)) old a new b told = IsFunded old t line.seq quanta new × (b ≡ record a { book = after.book; used = a.used + 1 }) × (told ≡ reply.Line line)
IsMade t (effect.Changes line after GiveUp) old a new b told = IsGivenUp old t line.seq new × (b ≡ record a { book = after.book; used = a.used + 1 }) × (told ≡ reply.Line line)
IsMade t (effect.Drops s) old a new b told = (new ≡ table.drop_job t s old) × (b ≡ record a { used = a.used + 1 }) × (told ≡ reply.Forgotten s)

-- only a job that is given up has room for its entry already
abbrev pub takes_memory : {J : Type 0} → Effect J → Bool
takes_memory (effect.Changes line after GiveUp) = false
takes_memory f = true

-- whether a job that waits may wait no longer
abbrev pub may_leave : {J : Type 0} → Effect J → Bool
may_leave (effect.Changes line after GiveUp) = true
may_leave (effect.Drops s) = true
may_leave f = false
