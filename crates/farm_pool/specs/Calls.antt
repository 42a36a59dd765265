-- Calls and answers as plain data, by what searches mean.
use Rattle.std.specs.Prelude.{◌≡◌, ⊤, ℕ, ◌<◌, ◌++◌, length, Option}
use Rattle.strategy.specs.Search.{Meaning}
use Rattle.farm_core.specs.declared.entry.Entry.{Entry}
use Rattle.farm_core.specs.Turn.{TurnData}
use Rattle.farm_core.specs.declared.command.Command.{Command}
use Rattle.farm_core.specs.Command.{event_of, IsFresh}
use Rattle.farm_core.specs.Config.{ConfigData}
use Rattle.farm_core.specs.Turn.{IsTurn}
use Rattle.farm_core.specs.World.{World}
use Rattle.turn_lock.specs.History.{listed}
use Rattle.farm_pool.specs.declared.image.TurnImage.{TurnImage}
use Rattle.farm_pool.specs.declared.image.CallImage.{CallImage}
use Rattle.farm_pool.specs.declared.image.CallImage.TheVariants as said
use Rattle.farm_pool.specs.declared.image.AnswerImage.{AnswerImage}
use Rattle.farm_pool.specs.declared.image.AnswerImage.TheVariants as told
use Rattle.farm_pool.specs.declared.locked_farm.FarmCall.{FarmCall}
use Rattle.farm_pool.specs.declared.locked_farm.FarmCall.TheVariants as asked
use Rattle.farm_pool.specs.declared.locked_farm.FarmAnswer.{FarmAnswer}
use Rattle.farm_pool.specs.declared.locked_farm.FarmAnswer.TheVariants as given
use Rattle.farm_pool.specs.Served.{Answers, Served}

-- a turn without its search
abbrev pub turn_image : {J : Type 0} → (J → Meaning) → TurnData J → TurnImage
turn_image meaning turn =
    let m : Meaning = meaning turn.search in
    record { tenant = turn.tenant; seq = turn.seq; slice = turn.slice; ran = turn.ran; owner = m.tenant; plan = m.plan; nodes = m.nodes; left = m.left; taken = m.taken }

-- a call without the search of its turn
abbrev pub call_image : {J : Type 0} → (J → Meaning) → FarmCall J → CallImage
call_image meaning (asked.Asked t command) = said.Asked t (event_of command)
call_image meaning (asked.Next slice) = said.Next slice
call_image meaning (asked.Back turn) = said.Back (turn_image meaning turn)

-- an answer without the search of its turn
abbrev pub answer_image : {J : Type 0} → (J → Meaning) → FarmAnswer J → AnswerImage
answer_image meaning (given.Replied answer) = told.Replied answer
answer_image meaning (given.Sent turn) = told.Sent (turn_image meaning turn)
answer_image meaning given.Idle = told.Idle
answer_image meaning given.NoMemory = told.NoMemory
answer_image meaning (given.Gave answer) = told.Gave answer
answer_image meaning (given.Stray turn) = told.Stray

-- a command that a tenant of the configuration may make
pub record MayCall {J : Type 0} (meaning : J → Meaning) (config : ConfigData) (t : ℕ) (command : Command J) : Type 0 where
  pub known : t < length config.tenants
  pub fresh : IsFresh meaning t command

-- a turn that may be given back
pub record MayComeBack {J : Type 0} (meaning : J → Meaning) (config : ConfigData) (turn : TurnData J) : Type 0 where
  pub known : turn.tenant < length config.tenants
  pub is : IsTurn turn.slice turn.ran (meaning turn.search)

-- a call that may be made
abbrev pub MayAsk : {J : Type 0} → (J → Meaning) → ConfigData → FarmCall J → Type 0
MayAsk meaning config (asked.Asked t command) = MayCall meaning config t command
MayAsk meaning config (asked.Next slice) = ⊤
MayAsk meaning config (asked.Back turn) = MayComeBack meaning config turn

-- the farm adds the entry of the call, or none, and answers as after the entries before
pub record AnswersOn {J : Type 0} (meaning : J → Meaning) (old : World) (call : FarmCall J) (answer : FarmAnswer J) (new : World) : Type 0 where
  pub entry : Option Entry
  pub config : new.config ≡ old.config
  pub journal : new.journal ≡ old.journal ++ listed entry
  pub answers : Answers old.config old.journal (call_image meaning call) entry (answer_image meaning answer)

-- `AnswersOn` holds, and the entries then make a run
pub record DoesOn {J : Type 0} (meaning : J → Meaning) (old : World) (call : FarmCall J) (answer : FarmAnswer J) (new : World) : Type 0 where
  pub entry : Option Entry
  pub config : new.config ≡ old.config
  pub journal : new.journal ≡ old.journal ++ listed entry
  pub stands : Served old.config old.journal (call_image meaning call) entry (answer_image meaning answer)
