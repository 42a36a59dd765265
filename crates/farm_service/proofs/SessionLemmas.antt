-- Sessions, request by request.
use Rattle.std.proofs.Common.{◌≡◌, ℕ, Bool, true, false, List, [], ◌∷◌, ◌++◌, Option, refl, sym, ap, ◌∙◌, subst, inl, inr}
use Rattle.std.specs.Prelude.{⊤}
use Rattle.farm_core.specs.declared.command.Command.{Command}
use Rattle.farm_core.specs.declared.entry.Event.{Event}
use Rattle.farm_core.specs.declared.reply.Reply.{Reply}
use Rattle.farm_core.specs.Config.{ConfigData}
use Rattle.farm_session.specs.declared.routed.Routed.{Routed}
use Rattle.farm_session.specs.TillDesk.{TillDeskValue}
use Rattle.farm_session.specs.Ready.{ReadyData}
use Rattle.farm_service.specs.Session.{Stand, stand, HasServed, IsSession, IsPartOfSession, IsClientServed}

module _ {T J : Type 0} (config : ConfigData) (tells : T → ℕ → Event → Reply → T → Type 0) (made : ReadyData → Option J → Type 0) where
  abbrev pub IsBegun : Stand T → Stand T → Type 0
  IsBegun old new = (routed : List (Routed (Command ⊤))) × HasServed config tells made old routed new

  -- no failure was counted before
  pub session_begins : (token : T) (till_desks : List TillDeskValue) (left written : Option (List ℕ)) (reads writes : ℕ) → reads ≡ 0 → writes ≡ 0
      → IsBegun (stand token till_desks left written 0 0) (stand token till_desks left written reads writes)
  session_begins token till_desks left written reads writes none unwritten =
      ([], ap (λ (n : ℕ). stand token till_desks left written n writes) none ∙ ap (λ (n : ℕ). stand token till_desks left written 0 n) unwritten)

  served_after : (start mid new : Stand T) (before behind : List (Routed (Command ⊤))) → HasServed config tells made start before mid → HasServed config tells made mid behind new → HasServed config tells made start (behind ++ before) new
  served_after start mid new before [] one two = subst (HasServed config tells made start before) (sym two) one
  served_after start mid new before (h ∷ behind) one two = (two.0, served_after start mid two.0 before behind one two.1, two.2)

  -- some requests more
  pub session_on : (start mid new : Stand T) (goes : Bool) → goes ≡ true → IsBegun start mid → IsPartOfSession config tells made mid goes new → IsBegun start new
  session_on start mid new false is so next = absurd (cc is)
  session_on start mid new true is so next = (next.0 ++ so.0, served_after start mid new so.0 next.0 so.1 next.1)

  -- the last requests
  pub session_ends : (start mid new : Stand T) (goes : Bool) → goes ≡ false → IsBegun start mid → IsPartOfSession config tells made mid goes new → IsSession config tells made start new
  session_ends start mid new true is so next = absurd (cc is)
  session_ends start mid new false is so next = (next.0, next.1 ++ so.0, served_after start mid next.0 so.0 next.1 so.1 next.2, next.3, next.4, next.5, next.6)

  -- a client to which nothing was told
  pub client_left : (token : T) (till_desks : List TillDeskValue) → IsClientServed config tells made token till_desks token till_desks
  client_left token till_desks = inr (refl, refl)

  -- a client that was told what its session told it
  pub client_served : (old new : T) (till_desks then : List TillDeskValue) (left read written told : Option (List ℕ))
      → (reads : ℕ) × (writes : ℕ) × IsSession config tells made (stand old till_desks left written 0 0) (stand new then read told reads writes)
      → IsClientServed config tells made old till_desks new then
  client_served old new till_desks then left read written told so = inl (left, written, read, told, so.0, so.1, so.2)
