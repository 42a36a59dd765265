-- What a session does for its requests: the calls that it makes, the leases that it has made, and
-- the lines that it writes.
use Rattle.std.specs.Prelude.{◌≡◌, ℕ, ◌≤◌, length, ⊤, ◌⊎◌, Bool, true, false, not, ◌&&◌, is_ok, List, [], ◌∷◌, Option, None, Result}
use Rattle.watched_io.specs.Failure.{HasFailed, IsNoted}
use Rattle.farm_core.specs.declared.command.Command.{Command}
use Rattle.farm_core.specs.declared.entry.Event.{Event}
use Rattle.farm_core.specs.declared.reply.Reply.{Reply}
use Rattle.farm_core.specs.Config.{ConfigData}
use Rattle.session_lines.specs.declared.request.Request.{Request}
use Rattle.session_lines.specs.declared.request.LineFault.{LineFault}
use Rattle.session_lines.specs.declared.reading.TheConstants.{MOST_REQUEST_BYTES}
use Rattle.session_lines.specs.declared.put.WriteFault.{WriteFault}
use Rattle.session_lines.specs.Script.{Takes}
use Rattle.session_lines.specs.Cause.{IsReadGivenUp, HasReadWell}
use Rattle.farm_session.specs.declared.routed.Routed.{Routed}
use Rattle.farm_session.specs.declared.routed.Routed.TheVariants.{End, ReadFailed}
use Rattle.farm_session.specs.TillDesk.{TillDeskValue, HasLeasedIn}
use Rattle.farm_session.specs.Routed.{call_routed}
use Rattle.farm_session.specs.Ready.{ReadyData}
use Rattle.farm_service.specs.declared.service.Role.{Role}
use Rattle.farm_service.specs.declared.service.Role.TheVariants.{Worker, Client}
use Rattle.farm_pool.specs.declared.query.Query.{Query}
use Rattle.farm_pool.specs.Query.{event_about}
use Rattle.farm_service.specs.Batch.{IsQueryOf, HasRead}
use Rattle.farm_service.specs.Told.{IsToldOf}

-- the state of a session: its token of the pool, its till desks, if known the bytes left to read and
-- the written bytes, and how many reads and writes have failed
pub record Stand (T : Type 0) : Type 0 where
  pub token : T
  pub till_desks : List TillDeskValue
  pub left : Option (List ℕ)
  pub written : Option (List ℕ)
  pub reads : ℕ
  pub writes : ℕ

-- the state of these parts
abbrev pub stand : {T : Type 0} → T → List TillDeskValue → Option (List ℕ) → Option (List ℕ) → ℕ → ℕ → Stand T
stand token till_desks left written reads writes =
    record { token = token; till_desks = till_desks; left = left; written = written; reads = reads; writes = writes }

-- there is no further request, or it cannot be read
abbrev pub is_end : {A : Type 0} → Routed A → Bool
is_end End = true
is_end ReadFailed = true
is_end routed = false

-- a tenant's query was called
pub record IsQueried {T : Type 0} (tells : T → ℕ → Event → Reply → T → Type 0) (old : T) (routed : Routed (Command ⊤)) (new : T) : Type 0 where
  pub query : Query
  pub name : List ℕ
  pub reply : Reply
  pub is : IsQueryOf routed query name
  pub told : tells old query.tenant (event_about query.about) reply new

module _ {T J : Type 0} (config : ConfigData) (tells : T → ℕ → Event → Reply → T → Type 0) (made : ReadyData → Option J → Type 0) where
  -- one request was read and answered: its call was made, the lease that it needs, and its line was
  -- written; nothing else was done. The session goes on unless its input has ended, a read or a
  -- write has failed, or a request is too long
  pub record HasAnswered (old : Stand T) (routed : Routed (Command ⊤)) (goes_on : Bool) (new : Stand T) : Type 0 where
    pub read : Result Request LineFault
    pub result : Result ⊤ WriteFault
    pub takes : Takes MOST_REQUEST_BYTES None old.left new.left read
    pub cause : IsReadGivenUp MOST_REQUEST_BYTES None (HasFailed old.reads new.reads) old.left read
    pub counted : HasReadWell read old.reads new.reads
    pub is : routed ≡ call_routed config read
    pub told : IsToldOf tells old.token routed result old.written new.written new.token
    pub leased : HasLeasedIn made config routed old.till_desks new.till_desks
    pub noted : IsNoted result old.writes new.writes
    pub goes : goes_on ≡ (not (is_end routed) && is_ok result)

  -- requests one after another, the last one first; the session goes on after each
  abbrev pub HasServed : Stand T → List (Routed (Command ⊤)) → Stand T → Type 0
  HasServed old [] new = new ≡ old
  HasServed old (h ∷ routed) new = (mid : Stand T) × HasServed old routed mid × HasAnswered mid h true new

  -- a request was read, and no line was written for it. A query may have been called; no other
  -- request was
  pub record HasPassedOver (old : Stand T) (routed : Routed (Command ⊤)) (new : Stand T) : Type 0 where
    pub read : HasRead config old.left old.reads routed new.left new.reads
    pub called : (new.token ≡ old.token) ⊎ IsQueried tells old.token routed new.token
    pub till_desks : new.till_desks ≡ old.till_desks
    pub written : new.written ≡ old.written
    pub writes : new.writes ≡ old.writes

  -- requests that were passed over one after another
  abbrev pub HavePassedOver : Stand T → List (Routed (Command ⊤)) → Stand T → Type 0
  HavePassedOver old [] new = new ≡ old
  HavePassedOver old (h ∷ routed) new = (mid : Stand T) × HasPassedOver old h mid × HavePassedOver mid routed new

  -- what a session read behind its last line: nothing, or up to 15 requests if that line's write
  -- failed
  pub record IsCutOff (last : Routed (Command ⊤)) (old new : Stand T) : Type 0 where
    pub routed : List (Routed (Command ⊤))
    pub passed : HavePassedOver old routed new
    pub few : length routed ≤ 15
    pub cause : (routed ≡ []) ⊎ (is_end last ≡ false)

  -- a session: requests were answered until one ended it, and nothing else was done, but for
  -- queries that were already read when a write failed
  abbrev pub IsSession : Stand T → Stand T → Type 0
  IsSession old new =
      (mid : Stand T) × (routed : List (Routed (Command ⊤))) × HasServed old routed mid × (last : Routed (Command ⊤)) × (end : Stand T) × HasAnswered mid last false end × IsCutOff last end new

  -- some requests of a session: it goes on after them, or has ended
  abbrev pub IsPartOfSession : Stand T → Bool → Stand T → Type 0
  IsPartOfSession old true new = (routed : List (Routed (Command ⊤))) × HasServed old routed new
  IsPartOfSession old false new = IsSession old new

  -- a client was served, whatever its connection sends, and no lease was made before or after; or
  -- there was no memory for a session, and nothing was done
  abbrev pub IsClientServed : T → List TillDeskValue → T → List TillDeskValue → Type 0
  IsClientServed old till_desks new then =
      ((left : Option (List ℕ)) × (written : Option (List ℕ)) × (rest : Option (List ℕ)) × (told : Option (List ℕ)) × (reads : ℕ) × (writes : ℕ)
      × IsSession (stand old till_desks left written 0 0) (stand new then rest told reads writes))
      ⊎ ((new ≡ old) × (then ≡ till_desks))

  -- what a thread of a service did: a worker took turns, and a client's thread was a session
  abbrev pub HasRunRole : (T → T → Type 0) → Role → T → Role → T → Type 0
  HasRunRole works Worker old then new = works old new
  HasRunRole works (Client own stream) old Worker new = ⊥
  HasRunRole works (Client own stream) old (Client then same) new = IsClientServed old own.items new then.items
