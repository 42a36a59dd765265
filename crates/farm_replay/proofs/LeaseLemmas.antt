-- The leases of a replay, request by request.
use Rattle.std.proofs.Common.{◌≡◌, ℕ, List, [], ◌∷◌, Option, None, refl, sym, subst}
use Rattle.std.specs.Prelude.{Result}
use Rattle.farm_core.specs.Config.{ConfigData}
use Rattle.session_lines.specs.declared.request.Request.{Request}
use Rattle.session_lines.specs.declared.request.LineFault.{LineFault}
use Rattle.session_lines.specs.declared.reading.TheConstants.{MOST_REQUEST_BYTES}
use Rattle.session_lines.specs.declared.said.Said.{Said}
use Rattle.session_lines.specs.Script.{Takes}
use Rattle.farm_session.specs.declared.ask.Ask.{Ask}
use Rattle.farm_session.specs.declared.routed.Routed.TheVariants.{Answered, Asked}
use Rattle.farm_session.specs.TillDesk.{TillDeskValue, HasLeasedTo, HasLeasedBy}
use Rattle.farm_session.specs.Routed.{routed_of}
use Rattle.farm_session.specs.Ready.{ReadyData}
use Rattle.farm_replay.specs.Leases.{ScriptPoint, IsRequest, HaveLeased, AreLeasesOf}

abbrev place : Option (List ℕ) → List TillDeskValue → ScriptPoint
place left till_desks = record { left = left; till_desks = till_desks }

module _ {J : Type 0} (config : ConfigData) (made : ReadyData → Option J → Type 0) where
  -- the leases so far, of all requests that were taken from the script
  abbrev pub LeasedTo : Option (List ℕ) → List TillDeskValue → Option (List ℕ) → List TillDeskValue → Type 0
  LeasedTo script old rest new = (reads : List (Result Request LineFault)) × HaveLeased config made (place script old) reads (place rest new)

  pub none_leased : (script : Option (List ℕ)) (old : List TillDeskValue) → LeasedTo script old script old
  none_leased script old = ([], refl)

  leased_on : (script left mid rest : Option (List ℕ)) (old bs cs : List TillDeskValue) (read : Result Request LineFault) → mid ≡ left
      → Takes MOST_REQUEST_BYTES None mid rest read → IsRequest (routed_of config read) → HasLeasedBy made config (routed_of config read) bs cs
      → LeasedTo script old left bs → LeasedTo script old rest cs
  leased_on script left mid rest old bs cs read begun takes routed leased so = (
    read ∷ so.0,
    (place left bs, so.1, record { takes = subst (λ l. Takes MOST_REQUEST_BYTES None l rest read) begun takes; routed = routed; leased = leased }),
  )

  pub leases_told : (script left mid rest : Option (List ℕ)) (old bs cs : List TillDeskValue) (read : Result Request LineFault) (who : Option (List ℕ)) (said : Said)
      → routed_of config read ≡ Answered who said → mid ≡ left → Takes MOST_REQUEST_BYTES None mid rest read → cs ≡ bs
      → LeasedTo script old left bs → LeasedTo script old rest cs
  leases_told script left mid rest old bs cs read who said is begun takes kept so =
      leased_on script left mid rest old bs cs read begun takes (subst (λ h. IsRequest h) (sym is) tt) (subst (λ h. HasLeasedBy made config h bs cs) (sym is) kept) so

  pub leases_asked : (script left mid rest : Option (List ℕ)) (old bs cs : List TillDeskValue) (read : Result Request LineFault) (t : ℕ) (who : List ℕ) (ask : Ask)
      → routed_of config read ≡ Asked t who ask → mid ≡ left → Takes MOST_REQUEST_BYTES None mid rest read → HasLeasedTo made config t ask bs cs
      → LeasedTo script old left bs → LeasedTo script old rest cs
  leases_asked script left mid rest old bs cs read t who ask is begun takes leased so =
      leased_on script left mid rest old bs cs read begun takes (subst (λ h. IsRequest h) (sym is) tt) (subst (λ h. HasLeasedBy made config h bs cs) (sym is) leased) so

  pub leases_of : (script rest : Option (List ℕ)) (old new : List TillDeskValue) → LeasedTo script old rest new → AreLeasesOf config made script old new
  leases_of script rest old new so = (so.0, rest, so.1)
