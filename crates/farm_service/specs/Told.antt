-- The line that answers a connection's request.
use Rattle.std.specs.Prelude.{◌≡◌, ℕ, ⊤, List, Option, Some, Result}
use Rattle.farm_core.specs.Command.{event_of}
use Rattle.farm_core.specs.declared.command.Command.{Command}
use Rattle.farm_core.specs.declared.entry.Event.{Event}
use Rattle.farm_core.specs.declared.reply.Reply.{Reply}
use Rattle.session_lines.specs.declared.said.Said.{Said}
use Rattle.session_lines.specs.Known.{Writes}
use Rattle.session_lines.specs.ReplyText.{reply_line}
use Rattle.farm_session.specs.declared.routed.Routed.{Routed}
use Rattle.farm_session.specs.declared.routed.Routed.TheVariants.{End, ReadFailed, Answered, Asked}
use Rattle.farm_service.specs.Asked.{IsCallAnswered}

-- the reply to a routed request, and its tenant: the reply to its call, or one that was settled
-- before, and no call was made
abbrev pub IsReplyTo : {T : Type 0} → (T → ℕ → Event → Reply → T → Type 0) → T → Routed (Command ⊤) → Option (List ℕ) → Said → T → Type 0
IsReplyTo tells old End who words new = ⊥
IsReplyTo tells old ReadFailed who words new = ⊥
IsReplyTo tells old (Answered whose told) who words new = (who ≡ whose) × (words ≡ told) × (new ≡ old)
IsReplyTo tells old (Asked t name call) who words new = (who ≡ Some name) × IsCallAnswered (tells old t) old (event_of call) words new

-- the line of such a reply was written
pub record IsLineTo {T E : Type 0} (tells : T → ℕ → Event → Reply → T → Type 0) (old : T) (routed : Routed (Command ⊤)) (result : Result ⊤ E) (before after : Option (List ℕ)) (new : T) : Type 0 where
  pub who : Option (List ℕ)
  pub words : Said
  pub is : IsReplyTo tells old routed who words new
  pub wrote : Writes result before after (reply_line who words)

-- at the input's end, and if it cannot be read, nothing is written
abbrev pub IsToldOf : {T E : Type 0} → (T → ℕ → Event → Reply → T → Type 0) → T → Routed (Command ⊤) → Result ⊤ E → Option (List ℕ) → Option (List ℕ) → T → Type 0
IsToldOf tells old End result before after new = (after ≡ before) × (new ≡ old)
IsToldOf tells old ReadFailed result before after new = (after ≡ before) × (new ≡ old)
IsToldOf tells old routed result before after new = IsLineTo tells old routed result before after new
