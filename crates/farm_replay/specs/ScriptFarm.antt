-- The turns that a script holds.
use Rattle.std.specs.Prelude.{◌≡◌, ◌≢◌, ℕ, Bool, true, false, ◌&&◌, ◌==◌, List, [], ◌∷◌, ⊤}
use Rattle.std.specs.List.{list_any}
use Rattle.strategy.specs.Search.{Meaning}
use Rattle.farm_core.specs.Turn.{TurnData}
use Rattle.farm_core.specs.declared.reply.Reply.TheVariants as reply
use Rattle.farm_core.specs.declared.reply.NoTurn.{NoTurn}
use Rattle.farm_core.specs.declared.reply.NoTurn.TheVariants as no_turn
use Rattle.farm_core.specs.Tenant.{find_job, with_seat}
use Rattle.farm_core.specs.World.{World, view, purse_in, place_in, purse, IsOfJournal}
use Rattle.farm_core.specs.Held.{AreHeld, is_out_of}
use Rattle.session_lines.specs.declared.said.Said.{Said}
use Rattle.session_lines.specs.declared.said.Said.TheVariants as said
use Rattle.farm_session.specs.declared.ask.Ask.{Ask}
use Rattle.farm_replay.specs.Output.{told_under}

-- whether a turn is of tenant t's job s
abbrev pub is_turn_of : {J : Type 0} → ℕ → ℕ → TurnData J → Bool
is_turn_of t s turn = (turn.tenant == t) && (turn.seq == s)

-- whether a list has a turn of tenant t's job s
abbrev pub has_turn : {J : Type 0} → ℕ → ℕ → List (TurnData J) → Bool
has_turn t s turns = list_any (is_turn_of t s) turns

-- no two turns are of one job
abbrev pub AreApart : {J : Type 0} → List (TurnData J) → Type 0
AreApart [] = ⊤
AreApart (turn ∷ turns) = (has_turn turn.tenant turn.seq turns ≡ false) × AreApart turns

-- the turns are exactly one of each job that is out, and have not run; and the farm is what its
-- journal leads to
pub record IsScriptFarm {J : Type 0} (meaning : J → Meaning) (w : World) (turns : List (TurnData J)) : Type 0 where
  pub held : AreHeld meaning w turns
  pub apart : AreApart turns
  pub all : (t s : ℕ) → is_out_of (find_job s (view t w).jobs) ≡ true → has_turn t s turns ≡ true
  pub replayed : IsOfJournal w

-- a tenant's request was answered, whether or not memory was refused: its purse is as after that,
-- and no other purse changed
pub record IsTold (old : World) (t : ℕ) (ask : Ask) (answer : Said) (new : World) : Type 0 where
  pub refused : Bool
  pub said : answer ≡ (told_under refused (view t old) ask).said
  pub own : purse (purse_in old.config t) new ≡ with_seat (purse (purse_in old.config t) old) (place_in old.config t) (told_under refused (view t old) ask).after
  pub others : (p : ℕ) → p ≢ purse_in old.config t → purse p new ≡ purse p old
  pub config : new.config ≡ old.config

-- the reply if no turn was taken
abbrev pub untaken : NoTurn → Said
untaken no_turn.None = said.NoTurn
untaken no_turn.NoMemory = said.Reply reply.NoMemory
