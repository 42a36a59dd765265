-- The answer to a tenant's call.
use Rattle.std.specs.Prelude.{◌≡◌, ◌⊎◌, ℕ, List, [], ◌∷◌}
use Rattle.farm_core.specs.declared.entry.Event.{Event}
use Rattle.farm_core.specs.declared.entry.Event.TheVariants as event
use Rattle.farm_core.specs.declared.reply.Reply.{Reply}
use Rattle.farm_core.specs.declared.reply.Reply.TheVariants as reply
use Rattle.farm_pool.specs.declared.query.Query.{Query}
use Rattle.farm_pool.specs.Query.{event_about}
use Rattle.session_lines.specs.declared.said.Said.{Said}
use Rattle.session_lines.specs.declared.said.Said.TheVariants as said

-- a submit was answered; or there was no memory for its search, and no call was made
abbrev pub IsSubmitted : {T : Type 0} → (Event → Reply → T → Type 0) → T → Event → Reply → T → Type 0
IsSubmitted tells old e answer new = tells e answer new ⊎ ((answer ≡ reply.NoMemory) × (new ≡ old))

-- a call was answered so
abbrev pub IsCallAnswered : {T : Type 0} → (Event → Reply → T → Type 0) → T → Event → Said → T → Type 0
IsCallAnswered tells old (event.Submit plan quanta) (said.Reply answer) new = IsSubmitted tells old (event.Submit plan quanta) answer new
IsCallAnswered tells old e (said.Reply answer) new = tells e answer new
IsCallAnswered tells old e words new = ⊥

-- queries were answered one after another, each by a call
abbrev pub AreAnswered : {T : Type 0} → (T → ℕ → Event → Reply → T → Type 0) → T → List Query → List Reply → T → Type 0
AreAnswered tells old [] [] new = new ≡ old
AreAnswered tells old (query ∷ queries) (answer ∷ answers) new = (mid : _) × tells old query.tenant (event_about query.about) answer mid × AreAnswered tells mid queries answers new
AreAnswered tells old queries answers new = ⊥
