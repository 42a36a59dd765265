-- What a reply to a command says: its tenant's step, or that there was no memory where the command may need some.
use Rattle.std.proofs.Common.{◌≡◌, ℕ, Bool, true, false, ◌&&◌, refl, sym, ◌∙◌, subst, ◌⊎◌, inl, inr}
use Rattle.std.specs.Prelude.{not}
use Rattle.farm_core.specs.declared.entry.Event.{Event}
use Rattle.farm_core.specs.declared.entry.Event.TheVariants.{Cancel}
use Rattle.farm_core.specs.declared.reply.Line.{Line}
use Rattle.farm_core.specs.declared.reply.Reply.{Reply}
use Rattle.farm_core.specs.declared.reply.Reply.TheVariants as reply
use Rattle.farm_core.specs.Step.{Answer, Replied, step, has_room}
use Rattle.farm_core.specs.World.{World, view, Follows}
use Rattle.farm_core.specs.Farm.{IsReply}
use Rattle.farm_core.specs.Command.{is_line, may_need}

pub by_reply : (old : World) (t : ℕ) (e : Event) (answer : Reply) (new : World) → IsReply old t e answer new
    → ((answer ≡ reply.NoMemory) × (new ≡ old) × (has_room 1 (view t old) ≡ true)) ⊎ Follows old t e (Replied answer) new
by_reply old t e reply.NoMemory new h = inl (refl, h.0, h.1)
by_reply old t e answer new h = inr h

-- where there was no memory, the journal has room
room_needs : (old new : World) (t : ℕ) (e : Event) (answer : Reply) → IsReply old t e answer new → answer ≡ reply.NoMemory → has_room 1 (view t old) ≡ true
room_needs old new t e answer h is = let none : IsReply old t e reply.NoMemory new = subst (λ a. IsReply old t e a new) is h in none.1

no_line : (answer : Answer) → ((line : Line) → answer ≡ Replied (reply.Line line) → ⊥) → not (is_line answer) ≡ true
no_line (Replied (reply.Line line)) other = absurd (other line refl)
no_line answer other = refl

both_true : (a b : Bool) → a ≡ true → b ≡ true → (a && b) ≡ true
both_true true b one two = two
both_true false b one two = one

-- a command that is answered so may need memory
pub command_needs : (old new : World) (t : ℕ) (e : Event) (answer : Reply) → IsReply old t e answer new
    → ((s : ℕ) (line : Line) → e ≡ Cancel s → (step (view t old) (Cancel s)).answer ≡ Replied (reply.Line line) → answer ≡ reply.Line line)
    → answer ≡ reply.NoMemory → may_need (view t old) e ≡ true
command_needs old new t (Cancel s) answer h accepted is =
    let left = no_line (step (view t old) (Cancel s)).answer (λ line told. let both : reply.NoMemory ≡ reply.Line line = sym is ∙ accepted s line refl told in absurd (cc)) in
    both_true (has_room 1 (view t old)) (not (is_line (step (view t old) (Cancel s)).answer)) (room_needs old new t (Cancel s) answer h is) left
command_needs old new t e answer h accepted is = room_needs old new t e answer h is
