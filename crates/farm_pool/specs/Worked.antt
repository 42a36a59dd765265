-- What a worker did, and how a pool ends.
use Rattle.std.specs.Prelude.{◌≡◌, ⊤, ℕ, ◌+◌, ◌-◌, min, List, [], ◌∷◌, Some}
use mathlib.Core.List.{IsPrefix}
use Rattle.farm_core.specs.declared.entry.Entry.{Entry}
use Rattle.farm_core.specs.declared.reply.Reply.{Reply}
use Rattle.farm_core.specs.Config.{ConfigData}
use Rattle.strategy.specs.Search.{nodes_within}
use Rattle.farm_core.specs.World.{World, IsOfJournal}
use Rattle.turn_lock.specs.declared.view.View.{View}
use Rattle.turn_lock.specs.History.{events_of, entries_of, IsLegal}
use Rattle.turn_lock.specs.Plays.{Called}
use Rattle.farm_pool.specs.declared.image.TurnImage.{TurnImage}
use Rattle.farm_pool.specs.declared.image.AnswerImage.{AnswerImage}
use Rattle.farm_pool.specs.declared.image.CallImage.TheVariants as said
use Rattle.farm_pool.specs.declared.image.AnswerImage.TheVariants as told
use Rattle.farm_pool.specs.declared.work.WorkStep.{WorkStep}
use Rattle.farm_pool.specs.declared.work.WorkStep.TheVariants.{Turned, Strayed, Waited}
use Rattle.farm_pool.specs.Served.{Served, meaning_in}

-- what a pass of the pool knows
abbrev pub PoolView : Type 0
PoolView = View ConfigData Entry

-- a turn that has run all nodes that it could
abbrev pub run_out : TurnImage → TurnImage
run_out i = let n : ℕ = nodes_within i.slice (meaning_in i) in record i { ran = n; nodes = i.nodes + n; left = i.left - n }

-- a turn was given back
pub record HasGiven (v : PoolView) (turn : TurnImage) (w : PoolView) : Type 0 where
  pub reply : Reply
  pub gave : Called Served v (said.Back turn) (told.Gave reply) w

-- a turn was taken, ran, and came back
pub record IsTurned (slice : ℕ) (v w : PoolView) : Type 0 where
  pub turn : TurnImage
  pub out : PoolView
  pub took : Called Served v (said.Next slice) (told.Sent turn) out
  pub gave : HasGiven out (run_out turn) w

-- a turn was taken and ran, and belonged to no job when it came back
pub record IsStrayed (slice : ℕ) (v w : PoolView) : Type 0 where
  pub turn : TurnImage
  pub out : PoolView
  pub took : Called Served v (said.Next slice) (told.Sent turn) out
  pub gave : Called Served out (said.Back (run_out turn)) told.Stray w

-- no turn went out: there was none to take, or no memory for it
abbrev pub IsNone : AnswerImage → Type 0
IsNone told.Idle = ⊤
IsNone told.NoMemory = ⊤
IsNone answer = ⊥

-- a worker asked for a turn, and had none
pub record HasWaited (slice : ℕ) (v w : PoolView) : Type 0 where
  pub answer : AnswerImage
  pub asked : Called Served v (said.Next slice) answer w
  pub none : IsNone answer

-- what each deed of a worker is
abbrev pub Does : ℕ → WorkStep → PoolView → PoolView → Type 0
Does slice Turned v w = IsTurned slice v w
Does slice Strayed v w = IsStrayed slice v w
Does slice Waited v w = HasWaited slice v w

-- deeds one after another, the last one first
abbrev pub HasDone : ℕ → List WorkStep → PoolView → PoolView → Type 0
HasDone slice [] v w = w ≡ v
HasDone slice (d ∷ deeds) v w = (mid : PoolView) × HasDone slice deeds v mid × Does slice d mid w

-- the turns among deeds, at most the greatest u64
abbrev pub turns_in : List WorkStep → ℕ
turns_in [] = 0
turns_in (Turned ∷ deeds) = min (turns_in deeds + 1) 18446744073709551615
turns_in (Strayed ∷ deeds) = turns_in deeds
turns_in (Waited ∷ deeds) = turns_in deeds

-- the strangers among deeds, at most the greatest u64
abbrev pub strangers_in : List WorkStep → ℕ
strangers_in [] = 0
strangers_in (Turned ∷ deeds) = strangers_in deeds
strangers_in (Strayed ∷ deeds) = min (strangers_in deeds + 1) 18446744073709551615
strangers_in (Waited ∷ deeds) = strangers_in deeds

-- what a worker did from v to w: these deeds, and at last it had no turn
pub record Worked (slice : ℕ) (v : PoolView) (turns strangers : ℕ) (w : PoolView) : Type 0 where
  pub deeds : List WorkStep
  pub done : HasDone slice (Waited ∷ deeds) v w
  pub turns_are : turns ≡ turns_in deeds
  pub strangers_are : strangers ≡ strangers_in deeds

-- the pool is closed with the farm w. Its journal is a legal history that begins with what the pass
-- has seen, with the pass's own entries. The farm is what its journal leads to
pub record IsClosed (v : PoolView) (w : World) : Type 0 where
  pub log : List (ℕ × Entry)
  pub begins : IsPrefix v.seen log
  pub journal : w.journal ≡ events_of log
  pub own : entries_of v.number log ≡ v.mine
  pub config : v.opening ≡ Some w.config
  pub legal : IsLegal Served w.config log
  pub replayed : IsOfJournal w
