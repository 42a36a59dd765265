-- Why each purse is alone and its ledger one and whole, and what this is for a purse of one tenant.
use Rattle.std.specs.Prelude.{◌≡◌, ◌⊎◌, ℕ, ◌+◌, ◌<◌, ◌==◌, true, List, [], ◌∷◌, length, map, filter, get_or, Option, None}
use Rattle.tenant_book.specs.Book.{BookData}
use Rattle.farm_core.specs.declared.entry.Event.{Event}
use Rattle.farm_core.specs.Purses.{is_shared, purse_name, first_member, purse_of, purses, members_of, place_of}
use Rattle.farm_core.specs.Config.{ConfigData, purse_names}
use Rattle.farm_core.specs.Tenant.{Tenant, newcomer, seat, book, ledger_of}
use Rattle.farm_core.specs.Step.{Answer, step}
use Rattle.farm_core.specs.World.{World, Call, terms_in, purse_in, place_in, purse, view, Run, own_events, own_answers, opened_purse, answers_alone, after_alone}

-- tenants share a purse exactly if they name the same one; members are found at their places;
-- purses are numbered by their first members with no gap; if no tenant names a purse, each has its
-- own number
pub record PursesAreShared : Type 0 where
  pub shared : (names : List (Option (List ℕ))) (t u : ℕ) → is_shared (purse_name names t) (purse_name names u) ≡ true → purse_of names t ≡ purse_of names u
  pub apart : (names : List (Option (List ℕ))) (t u : ℕ) → purse_of names t ≡ purse_of names u → (t ≡ u) ⊎ (is_shared (purse_name names t) (purse_name names u) ≡ true)
  pub found : (names : List (Option (List ℕ))) (t d : ℕ) → t < length names → get_or (members_of names (purse_of names t)) (place_of names t) d ≡ t
  pub counted : (names : List (Option (List ℕ))) (t : ℕ) → t < length names → purse_of names t < purses names
  pub onto : (names : List (Option (List ℕ))) (p : ℕ) → p < purses names → (t : ℕ) × (t < length names) × (purse_of names t ≡ p)
  pub ordered : (names : List (Option (List ℕ))) (t u : ℕ) → first_member names t ≡ t → first_member names u ≡ u → t < u → purse_of names t < purse_of names u
  pub plain : (names : List (Option (List ℕ))) → ((t : ℕ) → purse_name names t ≡ None) → (t : ℕ) → purse_of names t ≡ t

-- in each run, the replies to a purse's members, and the purse at the end, are those of their own
-- calls alone,
abbrev pub EachPurseIsAlone : Type 0
EachPurseIsAlone = (config : ConfigData) (calls : List Call) (w : World) → Run config calls w → (p : ℕ) →
    (own_answers config p calls ≡ answers_alone (opened_purse config p) (own_events config p calls))
    × (purse p w ≡ after_alone (opened_purse config p) (own_events config p calls))

-- noninterference (Goguen and Meseguer 1982): two runs in which a purse begins alike and its
-- members ask for the same, one after another, agree in their replies, jobs and ledger, whoever
-- else uses the farms, and whatever numbers the purse and its members have
abbrev pub EachPurseIsIsolated : Type 0
EachPurseIsIsolated = (config elsewhere : ConfigData) (calls others : List Call) (w x : World) → Run config calls w → Run elsewhere others x →
    (p q : ℕ) → opened_purse config p ≡ opened_purse elsewhere q → own_events config p calls ≡ own_events elsewhere q others →
    (own_answers config p calls ≡ own_answers elsewhere q others) × (purse p w ≡ purse q x)

-- what a tenant of a run sees is what there is at its place of its purse
abbrev pub EachViewIsASeat : Type 0
EachViewIsASeat = (w : World) (t : ℕ) → t < length w.config.tenants → view t w ≡ seat (purse (purse_in w.config t) w) (place_in w.config t)

-- each member of a purse is replied the purse's ledger
abbrev pub EachLedgerIsThePurses : Type 0
EachLedgerIsThePurses = (w : World) (t : ℕ) → t < length w.config.tenants → book (view t w) ≡ ledger_of (purse (purse_in w.config t) w)

-- each quantum that was granted is free, held or spent, and in one of these alone
abbrev pub IsWhole : BookData → Type 0
IsWhole b = b.granted ≡ b.free + b.held + b.spent

-- in each run, the ledger of each purse is whole: no difference in it was cut off at 0
abbrev pub EachLedgerIsWhole : Type 0
EachLedgerIsWhole = (config : ConfigData) (calls : List Call) (w : World) → Run config calls w → (p : ℕ) → IsWhole (ledger_of (purse p w))

-- ---- a purse of one tenant

-- no other tenant shares the purse
abbrev pub IsLone : ConfigData → ℕ → Type 0
IsLone config t = (u : ℕ) → is_shared (purse_name (purse_names config.tenants) u) (purse_name (purse_names config.tenants) t) ≡ true → u ≡ t

-- the calls of one tenant, in order, without its number, and their answers
abbrev pub lone_events : ℕ → List Call → List Event
lone_events t calls = map (λ (c : Call). c.event) (filter (λ (c : Call). c.tenant == t) calls)

abbrev pub lone_answers : ℕ → List Call → List Answer
lone_answers t calls = map (λ (c : Call). c.answer) (filter (λ (c : Call). c.tenant == t) calls)

-- a tenant alone: its answers and what it has at the end, if no one else used the farm
abbrev pub answers_by : Tenant → List Event → List Answer
answers_by t [] = []
answers_by t (e ∷ events) = (step t e).answer ∷ answers_by (step t e).after events

abbrev pub after_by : Tenant → List Event → Tenant
after_by t [] = t
after_by t (e ∷ events) = after_by (step t e).after events

-- in each run, the replies to a tenant that shares its purse with no other, and what it has at the
-- end, are those of its own calls alone
abbrev pub EachLoneTenantIsAlone : Type 0
EachLoneTenantIsAlone = (config : ConfigData) (calls : List Call) (w : World) → Run config calls w → (t : ℕ) → t < length config.tenants → IsLone config t →
    (lone_answers t calls ≡ answers_by (newcomer (terms_in config t)) (lone_events t calls))
    × (view t w ≡ after_by (newcomer (terms_in config t)) (lone_events t calls))

-- two runs in each of which a tenant shares its purse with no other, begins alike and asks for the
-- same agree in its replies and in what it has, whoever else uses the farms
abbrev pub EachLoneTenantIsIsolated : Type 0
EachLoneTenantIsIsolated = (config elsewhere : ConfigData) (calls others : List Call) (w x : World) → Run config calls w → Run elsewhere others x →
    (t u : ℕ) → t < length config.tenants → u < length elsewhere.tenants → IsLone config t → IsLone elsewhere u →
    newcomer (terms_in config t) ≡ newcomer (terms_in elsewhere u) → lone_events t calls ≡ lone_events u others →
    (lone_answers t calls ≡ lone_answers u others) × (view t w ≡ view u x)
