-- Queries that are read one after another, answered in one turn of the lock, and then replied to.
use Rattle.std.specs.Prelude.{◌≡◌, ◌⊎◌, ℕ, ◌+◌, ◌<◌, ◌≤◌, ⊤, Bool, true, false, is_ok, List, [], ◌∷◌, length, Option, Some, None, Result}
use Rattle.std.specs.Vec.{vec_capacity}
use Rattle.watched_io.specs.Failure.{HasFailed, IsNoted}
use Rattle.farm_core.specs.Command.{event_of}
use Rattle.farm_core.specs.declared.command.Command.{Command}
use Rattle.farm_core.specs.declared.reply.Reply.{Reply}
use Rattle.farm_core.specs.Config.{ConfigData}
use Rattle.session_lines.specs.declared.request.Request.{Request}
use Rattle.session_lines.specs.declared.request.LineFault.{LineFault}
use Rattle.session_lines.specs.declared.reading.TheConstants.{MOST_REQUEST_BYTES}
use Rattle.session_lines.specs.declared.put.WriteFault.{WriteFault}
use Rattle.session_lines.specs.declared.said.Said.TheVariants as said
use Rattle.session_lines.specs.Script.{Takes}
use Rattle.session_lines.specs.Cause.{IsReadGivenUp, HasReadWell}
use Rattle.session_lines.specs.Known.{Writes}
use Rattle.session_lines.specs.ReplyText.{reply_line}
use Rattle.farm_session.specs.declared.routed.Routed.{Routed}
use Rattle.farm_session.specs.declared.routed.Routed.TheVariants.{Asked}
use Rattle.farm_session.specs.Routed.{call_routed}
use Rattle.farm_pool.specs.declared.query.Query.{Query}
use Rattle.farm_pool.specs.Query.{event_about}
use Rattle.farm_service.specs.declared.batch.Batch.{Batch}

-- a batch without queries, and with memory for the most
pub record IsEmptyBatch (batch : Batch) : Type 0 where
  pub queries : batch.queries.items ≡ []
  pub names : batch.names.items ≡ []
  pub replies : batch.replies.items ≡ []
  pub room : (16 ≤ vec_capacity batch.queries) × (16 ≤ vec_capacity batch.names) × (16 ≤ vec_capacity batch.replies)

-- what was routed is a tenant's query
pub record IsQueryOf (routed : Routed (Command ⊤)) (query : Query) (name : List ℕ) : Type 0 where
  pub call : Command ⊤
  pub is : routed ≡ Asked query.tenant name call
  pub asks : event_of call ≡ event_about query.about

-- a request was read
pub record HasRead (config : ConfigData) (left : Option (List ℕ)) (reads : ℕ) (routed : Routed (Command ⊤)) (left' : Option (List ℕ)) (reads' : ℕ) : Type 0 where
  pub read : Result Request LineFault
  pub takes : Takes MOST_REQUEST_BYTES None left left' read
  pub cause : IsReadGivenUp MOST_REQUEST_BYTES None (HasFailed reads reads') left read
  pub counted : HasReadWell read reads reads'
  pub is : routed ≡ call_routed config read

-- a query of a known tenant was read
pub record IsQueryRead (config : ConfigData) (left : Option (List ℕ)) (reads : ℕ) (query : Query) (name : List ℕ) (left' : Option (List ℕ)) (reads' : ℕ) : Type 0 where
  pub routed : Routed (Command ⊤)
  pub is : IsQueryOf routed query name
  pub known : query.tenant < length config.tenants
  pub read : HasRead config left reads routed left' reads'

-- at most `most` requests were read one after another: these queries, and then perhaps one request
-- more, of another kind
abbrev pub AreRead : ConfigData → ℕ → List Query → List (List ℕ) → Option (Routed (Command ⊤)) → Option (List ℕ) → ℕ → Option (List ℕ) → ℕ → Type 0
AreRead config most [] [] None left reads left' reads' = (left' ≡ left) × (reads' ≡ reads)
AreRead config most [] [] (Some routed) left reads left' reads' = (1 ≤ most) × HasRead config left reads routed left' reads'
AreRead config most (query ∷ queries) (name ∷ names) last left reads left' reads' =
    (rest : ℕ) × (rest + 1 ≡ most) × (mid : Option (List ℕ)) × (count : ℕ) × IsQueryRead config left reads query name mid count × AreRead config rest queries names last mid count left' reads'
AreRead config most queries names last left reads left' reads' = ⊥

-- a reply's line was written, or its write failed
pub record IsLineWritten (name : List ℕ) (reply : Reply) (result : Result ⊤ WriteFault) (written : Option (List ℕ)) (writes : ℕ) (written' : Option (List ℕ)) (writes' : ℕ) : Type 0 where
  pub wrote : Writes result written written' (reply_line (Some name) (said.Reply reply))
  pub noted : IsNoted result writes writes'

-- replies were written one after another, until one write failed: `goes_on` says that none did
abbrev pub AreReplied : List (List ℕ) → List Reply → Bool → Option (List ℕ) → ℕ → Option (List ℕ) → ℕ → Type 0
AreReplied [] [] true written writes written' writes' = (written' ≡ written) × (writes' ≡ writes)
AreReplied (name ∷ names) (reply ∷ replies) goes_on written writes written' writes' =
    ((goes_on ≡ false) × (result : Result ⊤ WriteFault) × (is_ok result ≡ false) × IsLineWritten name reply result written writes written' writes')
    ⊎ ((result : Result ⊤ WriteFault) × (is_ok result ≡ true) × (mid : Option (List ℕ)) × (count : ℕ) × IsLineWritten name reply result written writes mid count × AreReplied names replies goes_on mid count written' writes')
AreReplied names replies goes_on written writes written' writes' = ⊥
