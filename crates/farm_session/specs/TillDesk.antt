-- A purse's till with a desk, as contracts see them, and the leases that are made there.
use Rattle.std.specs.Prelude.{◌≡◌, ◌⊎◌, ⊤, ℕ, ◌+◌, ◌<◌, List, map, length, set, get_or, slice_get, Option, Some, None}
use Rattle.strategy.specs.declared.plan.Plan.{Plan}
use Rattle.quanta_till.specs.Desk.{DeskValue, new_desk}
use Rattle.quanta_till.specs.Lease.{LeaseValue, empty_lease}
use Rattle.quanta_till.specs.Till.{TillValue}
use Rattle.farm_core.specs.Config.{ConfigData}
use Rattle.farm_core.specs.declared.command.Command.{Command}
use Rattle.farm_core.specs.declared.command.Command.TheVariants.{Submit}
use Rattle.farm_core.specs.World.{purse_in}
use Rattle.farm_session.specs.Ready.{ReadyData}
use Rattle.farm_session.specs.declared.ask.Ask.{Ask}
use Rattle.farm_session.specs.declared.ask.Ask.TheVariants.{Call, Turn}
use Rattle.farm_session.specs.declared.routed.Routed.{Routed}
use Rattle.farm_session.specs.declared.routed.Routed.TheVariants.{Asked}

-- a till desk: its till, the depth of its desk, and the seats that were made from the desk, one for
-- each lease
pub record TillDeskValue : Type 0 where
  pub till : TillValue
  pub depth : ℕ
  pub seats : ℕ

-- a till desk at which no lease was made yet. Its desk was made from the given one of the till
abbrev pub new_till_desk : TillValue → DeskValue → TillDeskValue
new_till_desk till desk = record { till = till; depth = desk.depth + 1; seats = 0 }

-- a new till desk at each till, made from the desk of its number
pub record AreNew (tills : List TillValue) (desks : List DeskValue) (till_desks : List TillDeskValue) : Type 0 where
  pub count : length till_desks ≡ length tills
  pub each : (p : ℕ) (t : TillValue) (d : DeskValue) (b : TillDeskValue) → p < length tills → get_or till_desks p b ≡ new_till_desk (get_or tills p t) (get_or desks p d)

-- a new lease for a tenant, made at the till desk
abbrev pub lease_at : TillDeskValue → ℕ → LeaseValue
lease_at b tenant = empty_lease b.till tenant (b.depth + 1)

-- a till desk after one more lease
abbrev pub having_leased : TillDeskValue → TillDeskValue
having_leased b = record b { seats = b.seats + 1 }

-- the tills of these desks
abbrev pub tills_of : List TillDeskValue → List TillValue
tills_of till_desks = map (λ (b : TillDeskValue). b.till) till_desks

-- the desk with which a till was opened: no seat was made from it
abbrev pub first_desk : TillValue → DeskValue
first_desk till = new_desk till.id 0 till.purse till.granted 0

-- `seats` seats were made from each desk, and it did nothing else
pub record HaveSeated (seats : ℕ) (old new : List DeskValue) : Type 0 where
  pub count : length new ≡ length old
  pub each : (i : ℕ) (d : DeskValue) → i < length old → get_or new i d ≡ record (get_or old i d) { seats = (get_or old i d).seats + seats }

module _ {J : Type 0} (made : ReadyData → Option J → Type 0) where
  -- a search was asked for, with a plan and an empty lease that was made for it. This search came
  -- of it, or none; without a search there may be no lease
  abbrev pub HasLeased : TillDeskValue → ReadyData → Option J → TillDeskValue → Type 0
  HasLeased old ready (Some search) new = (new ≡ having_leased old) × made ready (Some search)
  HasLeased old ready None new = (new ≡ old) ⊎ ((new ≡ having_leased old) × made ready None)

  -- a search of the plan was asked for, for tenant t, at the till desk of purse p alone. This search
  -- came of it, or none
  pub record HasLeasedAt (p t : ℕ) (plan : Plan) (search : Option J) (old new : List TillDeskValue) : Type 0 where
    pub here : TillDeskValue
    pub then : TillDeskValue
    pub found : slice_get old p ≡ Some here
    pub leased : HasLeased here (record { plan = plan; lease = lease_at here t }) search then
    pub after : new ≡ set old p then

  -- a submit has a lease made for this search, at the till desk of the tenant's purse; no other call
  -- has one
  abbrev pub HasLeasedFor : ConfigData → ℕ → Command ⊤ → Option J → List TillDeskValue → List TillDeskValue → Type 0
  HasLeasedFor config t (Submit plan quanta search) found old new = HasLeasedAt (purse_in config t) t plan found old new
  HasLeasedFor config t call found old new = new ≡ old

  -- whichever the search is
  abbrev pub HasLeasedOne : ConfigData → ℕ → Command ⊤ → List TillDeskValue → List TillDeskValue → Type 0
  HasLeasedOne config t call old new = (search : Option J) × HasLeasedFor config t call search old new

  -- a turn has no lease made
  abbrev pub HasLeasedTo : ConfigData → ℕ → Ask → List TillDeskValue → List TillDeskValue → Type 0
  HasLeasedTo config t (Call call) old new = HasLeasedOne config t call old new
  HasLeasedTo config t (Turn turn) old new = new ≡ old

  -- only a tenant has a lease made: of a script, and of a session
  abbrev pub HasLeasedBy : ConfigData → Routed Ask → List TillDeskValue → List TillDeskValue → Type 0
  HasLeasedBy config (Asked t who ask) old new = HasLeasedTo config t ask old new
  HasLeasedBy config routed old new = new ≡ old

  abbrev pub HasLeasedIn : ConfigData → Routed (Command ⊤) → List TillDeskValue → List TillDeskValue → Type 0
  HasLeasedIn config (Asked t who call) old new = HasLeasedOne config t call old new
  HasLeasedIn config routed old new = new ≡ old
