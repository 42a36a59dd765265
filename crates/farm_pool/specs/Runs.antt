-- Each run of the farm is that of a closed pool, whichever passes made its calls.
use Rattle.std.specs.Prelude.{◌≡◌, ◌≢◌, ℕ, ◌==◌, cond, List, [], ◌∷◌, ◌++◌, map, filter, Some}
use mathlib.Core.List.{IsPrefix}
use Rattle.farm_core.specs.declared.entry.Entry.{Entry}
use Rattle.farm_core.specs.declared.entry.Event.{Event}
use Rattle.farm_core.specs.declared.entry.Event.TheVariants.{Take, Give}
use Rattle.farm_core.specs.Config.{ConfigData}
use Rattle.farm_core.specs.Step.{NoTurn}
use Rattle.farm_core.specs.World.{World, Call, Run, is_noted}
use Rattle.farm_core.specs.Truth.{IsAmong, ArePlanned}
use Rattle.turn_lock.specs.History as history
use Rattle.turn_lock.specs.Plays.{Called, newcomer}
use Rattle.turn_lock.specs.Rule as rule
use Rattle.farm_pool.specs.declared.image.TurnImage.{TurnImage}
use Rattle.farm_pool.specs.declared.image.CallImage.{CallImage}
use Rattle.farm_pool.specs.declared.image.CallImage.TheVariants as said
use Rattle.farm_pool.specs.declared.image.AnswerImage.{AnswerImage}
use Rattle.farm_pool.specs.Closed.{entry_in, answer_in, AreCallsOf}
use Rattle.farm_pool.specs.Served.{entry_if, Served}
use Rattle.farm_pool.specs.Worked.{PoolView, IsClosed}

-- the calls that left an entry
abbrev pub noted : List Call → List Call
noted calls = filter (λ (c : Call). is_noted c.answer) calls

-- a pool was closed with the farm `w`; `log` is its history, and `calls` are its calls with answers
pub record IsClosedWith (w : World) (log : List (ℕ × Entry)) (calls : List Call) : Type 0 where
  pub pass : PoolView
  pub closed : IsClosed pass w
  pub log_is : closed.log ≡ log
  pub answered : AreCallsOf w.config log calls

-- each run of the farm that submits only projects is that of a closed pool, whichever passes made
-- its entries. The history has the run's calls with their answers, but for calls that left no
-- entry: commands without room, takes and gives without a turn
abbrev pub EachRunIsAClosedPools : Type 0
EachRunIsAClosedPools = (config : ConfigData) (calls : List Call) (w : World) → Run config calls w → ArePlanned calls →
    (log : List (ℕ × Entry)) → history.events_of log ≡ w.journal → IsClosedWith w log (noted calls)

-- a pass that may call after the history `log`: it has seen a beginning of it, and knows its own
-- entries there
pub record IsInside (config : ConfigData) (log : List (ℕ × Entry)) (v : PoolView) : Type 0 where
  pub opened : v.opening ≡ Some config
  pub begins : IsPrefix v.seen log
  pub own : history.entries_of v.number log ≡ v.mine

-- the pool's call for an event of tenant t. For a take a worker asks for a turn of any job; for a
-- give it brings this job's turn
abbrev pub AsksFor : ℕ → Event → CallImage → Type 0
AsksFor t (Take s slice) asked = asked ≡ said.Next slice
AsksFor t (Give s ran) asked = (i : TurnImage) × (asked ≡ said.Back i) × (i.tenant ≡ t) × (i.seq ≡ s) × (i.ran ≡ ran)
AsksFor t event asked = asked ≡ said.Asked t event

-- the pass makes the call after the history `log`, leaves its entry, if there is one, and has its
-- answer
pub record WasTold (config : ConfigData) (log : List (ℕ × Entry)) (v : PoolView) (c : Call) : Type 0 where
  pub asked : CallImage
  pub told : AnswerImage
  pub after : PoolView
  pub called : Called Served v asked told after
  pub asks : AsksFor c.tenant c.event asked
  pub before : called.before ≡ log
  pub event : called.event ≡ entry_if c.tenant c.event c.answer
  pub answer : c.answer ≡ answer_in told

-- any pass that may call then can make each call of such a run, with the run's answer. Only a take
-- or give without a turn is no call of a pool
abbrev pub EachCallOfARunCanBeMade : Type 0
EachCallOfARunCanBeMade = (config : ConfigData) (before behind : List Call) (c : Call) (w : World) →
    Run config (before ++ c ∷ behind) w → ArePlanned (before ++ c ∷ behind) → c.answer ≢ NoTurn →
    (log : List (ℕ × Entry)) → history.events_of log ≡ map entry_in (noted before) →
    (v : PoolView) → IsInside config log v → WasTold config log v c

-- the passes by their numbers, with `v` in place of the pass of number `by`
abbrev pub with_pass : ℕ → PoolView → (ℕ → PoolView) → ℕ → PoolView
with_pass by v passes number = cond (number == by) v (passes number)

-- passes make the calls one after another, each by the pass of its number, and have the calls'
-- answers
abbrev pub AreMade : ConfigData → List (ℕ × Entry) → (ℕ → PoolView) → List (ℕ × Call) → List (ℕ × Entry) → (ℕ → PoolView) → Type 0
AreMade config log passes [] end after = (end ≡ log) × (after ≡ passes)
AreMade config log passes (x ∷ calls) end after =
    (told : WasTold config log (passes x.0) x.1) × AreMade config told.after.seen (with_pass x.0 told.after passes) calls end after

-- passes of a pool make the calls from its opening on. Then each pass can close it with the farm
-- `w`
pub record AreMadeInAPool (config : ConfigData) (calls : List (ℕ × Call)) (w : World) : Type 0 where
  pub log : List (ℕ × Entry)
  pub passes : ℕ → PoolView
  pub made : AreMade config [] (newcomer (rule.opened config)) calls log passes
  pub closed : (number : ℕ) → (closed : IsClosed (passes number) w) × (closed.log ≡ log)

-- each such run can be made by passes of a pool, whichever pass makes each call; takes and gives
-- without a turn are left out
abbrev pub PassesCanMakeEachRun : Type 0
PassesCanMakeEachRun = (config : ConfigData) (calls : List (ℕ × Call)) (w : World) →
    let made : List Call = map (λ (x : ℕ × Call). x.1) calls in
    Run config made w → ArePlanned made → ((c : Call) → IsAmong made c → c.answer ≢ NoTurn) → AreMadeInAPool config calls w
