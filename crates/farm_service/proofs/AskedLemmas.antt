-- The answer to a call.
use Rattle.std.specs.Prelude.{⊤}
use Rattle.std.proofs.Common.{◌≡◌, refl, subst, inl, inr}
use Rattle.farm_core.specs.Command.{event_of}
use Rattle.farm_core.specs.declared.command.Command.{Command}
use Rattle.farm_core.specs.declared.command.Command.TheVariants as command
use Rattle.farm_core.specs.declared.entry.Event.{Event}
use Rattle.farm_core.specs.declared.entry.Event.TheVariants as event
use Rattle.farm_core.specs.declared.reply.Reply.{Reply}
use Rattle.farm_core.specs.declared.reply.Reply.TheVariants as reply
use Rattle.session_lines.specs.declared.said.Said.TheVariants as said
use Rattle.farm_session.specs.Ask.{IsSubmit}
use Rattle.farm_service.specs.Asked.{IsCallAnswered}

module _ {T : Type 0} (tells : Event → Reply → T → Type 0) (old new : T) where
  call_answered : (e : Event) (answer : Reply) → tells e answer new → IsCallAnswered tells old e (said.Reply answer) new
  call_answered (event.Submit plan quanta) answer told = inl told
  call_answered e answer told = told

  -- the call was made
  pub said_called : (call : Command ⊤) (e : Event) (answer : Reply) → e ≡ event_of call → tells e answer new → IsCallAnswered tells old (event_of call) (said.Reply answer) new
  said_called call e answer is told = subst (λ (o : Event). IsCallAnswered tells old o (said.Reply answer) new) is (call_answered e answer told)

  -- there was no memory for the search
  pub said_unmade : (call : Command ⊤) → IsSubmit call → IsCallAnswered tells old (event_of call) (said.Reply reply.NoMemory) old
  said_unmade (command.Submit plan quanta search) is = inr (refl, refl)
  said_unmade call is = absurd is
