-- The leases that a replay makes.
use Rattle.std.specs.Prelude.{◌≡◌, ℕ, ⊤, List, [], ◌∷◌, Option, None, Result}
use Rattle.farm_core.specs.Config.{ConfigData}
use Rattle.session_lines.specs.declared.request.Request.{Request}
use Rattle.session_lines.specs.declared.request.LineFault.{LineFault}
use Rattle.session_lines.specs.declared.reading.TheConstants.{MOST_REQUEST_BYTES}
use Rattle.session_lines.specs.Script.{Takes}
use Rattle.farm_session.specs.TillDesk.{TillDeskValue, HasLeasedBy}
use Rattle.farm_session.specs.declared.ask.Ask.{Ask}
use Rattle.farm_session.specs.declared.routed.Routed.{Routed}
use Rattle.farm_session.specs.declared.routed.Routed.TheVariants.{End, ReadFailed}
use Rattle.farm_session.specs.Routed.{routed_of}
use Rattle.farm_session.specs.Ready.{ReadyData}

-- the bytes that are left of a script, if they are known, and its till desks
pub record ScriptPoint : Type 0 where
  pub left : Option (List ℕ)
  pub till_desks : List TillDeskValue

-- there was a request, and it could be read
abbrev pub IsRequest : Routed Ask → Type 0
IsRequest End = ⊥
IsRequest ReadFailed = ⊥
IsRequest routed = ⊤

module _ {J : Type 0} (config : ConfigData) (made : ReadyData → Option J → Type 0) where
  -- a request was read, and only the lease was made that it needs
  pub record HasRouted (old : ScriptPoint) (read : Result Request LineFault) (new : ScriptPoint) : Type 0 where
    pub takes : Takes MOST_REQUEST_BYTES None old.left new.left read
    pub routed : IsRequest (routed_of config read)
    pub leased : HasLeasedBy made config (routed_of config read) old.till_desks new.till_desks

  -- requests one after another, the last one first
  abbrev pub HaveLeased : ScriptPoint → List (Result Request LineFault) → ScriptPoint → Type 0
  HaveLeased old [] new = new ≡ old
  HaveLeased old (r ∷ reads) new = (mid : ScriptPoint) × HaveLeased old reads mid × HasRouted mid r new

  -- the till desks have the leases of some first requests of the script, and no others
  abbrev pub AreLeasesOf : Option (List ℕ) → List TillDeskValue → List TillDeskValue → Type 0
  AreLeasesOf script old new =
      (reads : List (Result Request LineFault)) × (rest : Option (List ℕ))
      × HaveLeased (record { left = script; till_desks = old }) reads (record { left = rest; till_desks = new })
