-- What two closed pools answered a purse, and what their farms hold of it: non-interference (Goguen
-- and Meseguer 1982).
use Rattle.std.specs.Prelude.{◌≡◌, ℕ, true, false, List, ◌∷◌, ◌++◌, length, map, Some, slice_get}
use mathlib.Core.List.{IsPrefix}
use Rattle.job_table.specs.declared.phase.Phase.TheVariants.{Out}
use Rattle.farm_core.specs.declared.entry.Entry.{Entry}
use Rattle.farm_core.specs.declared.entry.Event.{Event}
use Rattle.farm_core.specs.declared.reply.Reply.{Reply}
use Rattle.farm_core.specs.declared.reply.Reply.TheVariants as reply
use Rattle.farm_core.specs.Config.{ConfigData}
use Rattle.farm_core.specs.Tenant.{line_of}
use Rattle.farm_core.specs.Step.{Answer, Replied, Sent, NoTurn}
use Rattle.farm_core.specs.World.{World, Call, purse, is_noted, own_answers, opened_purse}
use Rattle.turn_lock.specs.History as history
use Rattle.turn_lock.specs.Plays.{Called}
use Rattle.farm_pool.specs.declared.image.CallImage.{CallImage}
use Rattle.farm_pool.specs.declared.image.CallImage.TheVariants as said
use Rattle.farm_pool.specs.declared.image.AnswerImage.{AnswerImage}
use Rattle.farm_pool.specs.declared.image.AnswerImage.TheVariants as told
use Rattle.farm_pool.specs.Laws.{own_in}
use Rattle.farm_pool.specs.Served.{Served}
use Rattle.farm_pool.specs.Worked.{PoolView, IsClosed}

-- the entry of a call
abbrev pub entry_in : Call → Entry
entry_in c = record { tenant = c.tenant; event = c.event }

-- an answer of the pool's farm: the reply to a command or to a give; of a take, the line of the job
abbrev pub answer_in : AnswerImage → Answer
answer_in (told.Replied reply) = Replied reply
answer_in (told.Gave reply) = Replied reply
answer_in (told.Sent i) = Sent (line_of (record { seq = i.seq; plan = i.plan; phase = Out i.slice; nodes = i.nodes; left = i.left; here = false }))
answer_in told.Idle = NoTurn
answer_in told.NoMemory = Replied reply.NoMemory
answer_in told.Stray = NoTurn

-- after these entries the farm was called, left the call's entry, and gave its answer
pub record WasAnswered (config : ConfigData) (before : List Entry) (c : Call) : Type 0 where
  pub asked : CallImage
  pub told : AnswerImage
  pub served : Served config before asked (Some (entry_in c)) told
  pub answer : c.answer ≡ answer_in told

-- the calls of a history with their answers: they left its entries, each after the entries of the
-- calls before
pub record AreCallsOf (config : ConfigData) (log : List (ℕ × Entry)) (calls : List Call) : Type 0 where
  pub entries : map entry_in calls ≡ history.events_of log
  pub each : (before behind : List Call) (c : Call) → calls ≡ before ++ c ∷ behind → WasAnswered config (map entry_in before) c

-- a closed pool is isolated from any other one. If a purse began alike, and its members' calls and
-- the turns of their jobs were equal in equal order, the members had equal answers. The farms then
-- hold equal parts of the purse: the ledger, and each member's jobs, numbers and entries used. Other
-- tenants, which worker took a turn, and numbers make no difference
abbrev pub IsIsolated : PoolView → World → Type 0
IsIsolated v w = (x : PoolView) (y : World) (one : IsClosed v w) (two : IsClosed x y) (p q : ℕ) →
    opened_purse w.config p ≡ opened_purse y.config q → own_in w.config p one.log ≡ own_in y.config q two.log →
    ((calls others : List Call) → AreCallsOf w.config one.log calls → AreCallsOf y.config two.log others →
    own_answers w.config p calls ≡ own_answers y.config q others)
    × (purse p w ≡ purse q y)

-- all closed pools are isolated
abbrev pub ClosedPoolsAreIsolated : Type 0
ClosedPoolsAreIsolated = (v : PoolView) (w : World) → IsIsolated v w

-- each closed pool has such calls. A tenant's call that left an entry is at its place in the
-- history, with its reply
pub record RepliesAreInTheHistory : Type 0 where
  pub some : (v : PoolView) (w : World) (closed : IsClosed v w) → (calls : List Call) × AreCallsOf w.config closed.log calls
  pub replied : (v w : PoolView) (t : ℕ) (event : Event) (reply : Reply) (called : Called Served v (said.Asked t event) (told.Replied reply) w) →
      is_noted (Replied reply) ≡ true → (log : List (ℕ × Entry)) → IsPrefix w.seen log → (calls : List Call) → AreCallsOf called.opening log calls →
      slice_get calls (length called.before) ≡ Some (record { tenant = t; event = event; answer = Replied reply })
