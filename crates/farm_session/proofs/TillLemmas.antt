-- The tills of purses, by their numbers.
use Rattle.std.proofs.Common.{◌≡◌, ℕ, zero, suc, ◌+◌, ◌<◌, List, [], ◌∷◌, ◌++◌, length, map, get_or, set, Option, Some, None, refl, sym, ap, ◌∙◌, subst, arith, ⊎_elim}
use Rattle.std.specs.Prelude.{⊤, slice_get}
use Rattle.std.proofs.lemmas.List.{map-append, get_or-map, length-map, same_lists}
use Rattle.std.proofs.lemmas.List.FromFn.{map-range_with_len_more, get_or-map-range_with_len}
use Rattle.std.specs.List.{range_with_len}
use Rattle.quanta_till.specs.Desk.{DeskValue, new_desk}
use Rattle.quanta_till.specs.Till.{TillValue}
use Rattle.farm_core.specs.Config.{ConfigData, member_lines, granted_by}
use Rattle.farm_core.specs.World.{purses_in, purse_in}
use Rattle.farm_core.proofs.TillLemmas.{tills_length}
use Rattle.farm_core.specs.Tills.{Opening, opening_of, opening_for, AreTillsOf}
use Rattle.strategy.specs.declared.plan.Plan.{Plan}
use Rattle.farm_core.specs.declared.command.Command.{Command}
use Rattle.farm_core.specs.declared.command.Command.TheVariants.{Submit}
use Rattle.farm_session.specs.TillDesk.{TillDeskValue, new_till_desk, AreNew, lease_at, tills_of, first_desk, HaveSeated, HasLeased, HasLeasedFor, HasLeasedOne, HasLeasedTo, HasLeasedBy, HasLeasedIn}
use Rattle.farm_session.specs.Ready.{ReadyData}
use Rattle.farm_session.specs.declared.ask.Ask.{Ask}
use Rattle.farm_session.specs.declared.ask.Ask.TheVariants.{Call, Turn}
use Rattle.farm_session.specs.declared.routed.Routed.{Routed}
use Rattle.farm_session.specs.declared.routed.Routed.TheVariants.{Asked}

-- one till more
pub tills_on : (config : ConfigData) (p : ℕ) (till : TillValue) (old new : List TillValue) → opening_of till ≡ opening_for config p
    → map opening_of old ≡ map (opening_for config) (range_with_len 0 p) → new ≡ old ++ till ∷ [] → map opening_of new ≡ map (opening_for config) (range_with_len 0 (p + 1))
tills_on config p till old new made before pushed =
    ap (map opening_of) pushed ∙ map-append opening_of old (till ∷ []) ∙ ap (λ (xs : List Opening). xs ++ opening_of till ∷ []) before
    ∙ ap (λ (x : Opening). map (opening_for config) (range_with_len 0 p) ++ x ∷ []) made ∙ sym (map-range_with_len_more (opening_for config) 0 p p (omega arith))

-- the till of that number is the purse's
pub own_till : (config : ConfigData) (tills : List TillValue) (p : ℕ) (d : TillValue) → AreTillsOf config tills → p < purses_in config → opening_of (get_or tills p d) ≡ opening_for config p
own_till config tills p d are known =
    let few : p < length tills = omega (arith, tills_length config tills are) in
    sym (get_or-map opening_of tills p d (opening_of d) few) ∙ ap (λ (xs : List Opening). get_or xs p (opening_of d)) are
    ∙ get_or-map-range_with_len (opening_for config) 0 (purses_in config) p p (opening_of d) known (omega arith)

-- a till that was opened for a purse with what it was granted
pub opened_for : (config : ConfigData) (p granted : ℕ) (till : TillValue) → (till.purse ≡ p) × (till.granted ≡ granted) → granted ≡ granted_by (member_lines config.tenants p)
    → opening_of till ≡ opening_for config p
opened_for config p granted till made exact =
    ap (λ n. let it : Opening = record { purse = n; granted = till.granted } in it) made.0
    ∙ ap (λ n. let it : Opening = record { purse = p; granted = n } in it) (made.1 ∙ exact)

-- ---- till desks

new_at : (tills : List TillValue) (desks : List DeskValue) (till_desks : List TillDeskValue) → AreNew tills desks till_desks
    → (k : ℕ) (t : TillValue) → k < length (tills_of till_desks) → get_or (tills_of till_desks) k t ≡ get_or tills k t
new_at tills desks till_desks new k t few =
    let b : TillDeskValue = record { till = t; depth = 0; seats = 0 } in
    let inside : k < length till_desks = omega (arith, few, length-map till_desks (λ (x : TillDeskValue). x.till)) in
    get_or-map (λ (x : TillDeskValue). x.till) till_desks k b t inside
    ∙ ap (λ (x : TillDeskValue). x.till) (new.each k t (first_desk t) b (omega (arith, inside, new.count)))

-- new till desks are at their tills
pub tills_new : (tills : List TillValue) (desks : List DeskValue) (till_desks : List TillDeskValue) → AreNew tills desks till_desks → tills_of till_desks ≡ tills
tills_new tills desks till_desks new =
    same_lists (tills_of till_desks) tills (length-map till_desks (λ (b : TillDeskValue). b.till) ∙ new.count) (new_at tills desks till_desks new)

-- the till of a till desk of that number is the purse's
pub own_branch : (config : ConfigData) (till_desks : List TillDeskValue) (p : ℕ) (b : TillDeskValue) → AreTillsOf config (tills_of till_desks) → p < purses_in config
    → b ≡ get_or till_desks p b → opening_of b.till ≡ opening_for config p
own_branch config till_desks p b are known is =
    let few : p < length till_desks = omega (arith, tills_length config (tills_of till_desks) are, length-map till_desks (λ (x : TillDeskValue). x.till)) in
    ap (λ (x : TillDeskValue). opening_of x.till) is
    ∙ ap opening_of (sym (get_or-map (λ (x : TillDeskValue). x.till) till_desks p b b.till few))
    ∙ own_till config (tills_of till_desks) p b.till are known

tills_set : (bs : List TillDeskValue) (p : ℕ) (here then : TillDeskValue) → slice_get bs p ≡ Some here → then.till ≡ here.till → tills_of (set bs p then) ≡ tills_of bs
tills_set [] p here then found same = refl
tills_set (b ∷ bs) zero here then found same =
    let is : b ≡ here = cc in
    ap (λ (t : TillValue). t ∷ tills_of bs) (same ∙ sym (ap (λ (x : TillDeskValue). x.till) is))
tills_set (b ∷ bs) (suc p) here then found same = ap (λ (ts : List TillValue). b.till ∷ ts) (tills_set bs p here then found same)

leased_till : {J : Type 0} (made : ReadyData → Option J → Type 0) (old new : TillDeskValue) (ready : ReadyData) (search : Option J)
    → HasLeased made old ready search new → new.till ≡ old.till
leased_till made old new ready (Some search) has = ap (λ (b : TillDeskValue). b.till) has.0
leased_till made old new ready None has =
    ⊎_elim (λ none. ap (λ (b : TillDeskValue). b.till) none) (λ one. ap (λ (b : TillDeskValue). b.till) one.0) has

-- till desks stay at their tills
kept_for : {J : Type 0} (made : ReadyData → Option J → Type 0) (config : ConfigData) (t : ℕ) (call : Command ⊤) (search : Option J) (old new : List TillDeskValue)
    → HasLeasedFor made config t call search old new → tills_of new ≡ tills_of old
kept_for made config t (Submit plan quanta none) search old new has =
    ap tills_of has.after
    ∙ tills_set old (purse_in config t) has.here has.then has.found
    (leased_till made has.here has.then (record { plan = plan; lease = lease_at has.here t }) search has.leased)
kept_for made config t call search old new has = ap tills_of has

pub tills_kept : {J : Type 0} (made : ReadyData → Option J → Type 0) (config : ConfigData) (t : ℕ) (call : Command ⊤) (old new : List TillDeskValue)
    → HasLeasedOne made config t call old new → tills_of new ≡ tills_of old
tills_kept made config t call old new has = kept_for made config t call has.0 old new has.1

pub tills_kept_to : {J : Type 0} (made : ReadyData → Option J → Type 0) (config : ConfigData) (t : ℕ) (ask : Ask) (old new : List TillDeskValue)
    → HasLeasedTo made config t ask old new → tills_of new ≡ tills_of old
tills_kept_to made config t (Call call) old new has = tills_kept made config t call old new has
tills_kept_to made config t (Turn turn) old new has = ap tills_of has

pub tills_kept_by : {J : Type 0} (made : ReadyData → Option J → Type 0) (config : ConfigData) (routed : Routed Ask) (old new : List TillDeskValue)
    → HasLeasedBy made config routed old new → tills_of new ≡ tills_of old
tills_kept_by made config (Asked t who ask) old new has = tills_kept_to made config t ask old new has
tills_kept_by made config routed old new has = ap tills_of has

pub tills_kept_in : {J : Type 0} (made : ReadyData → Option J → Type 0) (config : ConfigData) (routed : Routed (Command ⊤)) (old new : List TillDeskValue)
    → HasLeasedIn made config routed old new → tills_of new ≡ tills_of old
tills_kept_in made config (Asked t who call) old new has = tills_kept made config t call old new has
tills_kept_in made config routed old new has = ap tills_of has

-- one first desk more
pub desks_on : (purse granted : ℕ) (tills new : List TillValue) (desks then : List DeskValue) (till : TillValue) (desk : DeskValue)
    → (till.purse ≡ purse) × (till.granted ≡ granted) → desk ≡ new_desk till.id 0 purse granted 0 → desks ≡ map first_desk tills
    → new ≡ tills ++ till ∷ [] → then ≡ desks ++ desk ∷ [] → then ≡ map first_desk new
desks_on purse granted tills new desks then till desk made is before pushed also =
    let first : desk ≡ first_desk till =
    is ∙ ap (λ n. new_desk till.id 0 n granted 0) (sym made.0) ∙ ap (λ n. new_desk till.id 0 till.purse n 0) (sym made.1) in
    also ∙ ap (λ (ds : List DeskValue). ds ++ desk ∷ []) before ∙ ap (λ (d : DeskValue). map first_desk tills ++ d ∷ []) first
    ∙ sym (map-append first_desk tills (till ∷ [])) ∙ sym (ap (map first_desk) pushed)

pub set_found : (bs : List TillDeskValue) (p : ℕ) (d : TillDeskValue) → p < length bs → slice_get bs p ≡ Some (get_or bs p d)
set_found [] p d few = absurd (omega arith)
set_found (b ∷ bs) zero d few = refl
set_found (b ∷ bs) (suc p) d few = set_found bs p d (omega arith)

-- a submit has the lease made that its till desk shows
pub submit_leased : {J : Type 0} (made : ReadyData → Option J → Type 0) (config : ConfigData) (t quanta p : ℕ) (plan : Plan)
    (bs : List TillDeskValue) (here then : TillDeskValue) → p ≡ purse_in config t → p < length bs → here ≡ get_or bs p here
    → (found search : Option J) → found ≡ search → HasLeased made here (record { plan = plan; lease = lease_at here t }) found then
    → HasLeasedFor made config t (Submit plan quanta tt) search bs (set bs p then)
submit_leased {J} made config t quanta p plan bs here then is few at found search same leased = record {
  here = here;
  then = then;
  found = ap (slice_get bs) (sym is) ∙ set_found bs p here few ∙ ap Some (sym at);
  leased = subst (λ (s : Option J). HasLeased made here (record { plan = plan; lease = lease_at here t }) s then) same leased;
  after = ap (λ n. set bs n then) is;
}

-- till desks that are new at desks are so at the desks before some seats were made from these
pub new_before : (seats : ℕ) (tills : List TillValue) (old desks : List DeskValue) (till_desks : List TillDeskValue) → length old ≡ length tills → HaveSeated seats old desks
    → AreNew tills desks till_desks → AreNew tills old till_desks
new_before seats tills old desks till_desks even seated new = record {
  count = new.count;
  each = λ p t d b few.
      new.each p t d b few ∙ ap (λ (x : DeskValue). new_till_desk (get_or tills p t) x) (seated.each p d (omega (arith, even, few)));
}
