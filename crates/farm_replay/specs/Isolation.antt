-- One purse's lines in the output of a script.
use Rattle.std.specs.Prelude.{◌≡◌, ℕ, ◌==◌, Bool, false, cond, List, filter, Option, Some, None, is_some}
use Rattle.farm_core.specs.Config.{ConfigData}
use Rattle.farm_core.specs.Name.{same_bytes}
use Rattle.farm_core.specs.World.{purse_in, place_in, opened_purse}
use Rattle.farm_core.specs.Laws.{IsLone}
use Rattle.farm_session.specs.Routed.{tenant_number}
use Rattle.farm_replay.specs.Output.{Saying, Marked, who_in, opening, lines_for}

-- the tenant's name in a request, if it is known, whatever memory was refused
abbrev pub whose : Marked → Option (List ℕ)
whose m = who_in m.item.answer

-- whether a known name is this one
abbrev pub is_of : List ℕ → Option (List ℕ) → Bool
is_of name None = false
is_of name (Some who) = same_bytes who name

-- the place of tenant t in purse p, if it is a member
abbrev pub place_if : ConfigData → ℕ → Option ℕ → Option ℕ
place_if config p None = None
place_if config p (Some t) = cond (purse_in config t == p) (Some (place_in config t)) None

-- the place of the tenant of that name in purse p, if it is a member
abbrev pub seat_of : ConfigData → ℕ → List ℕ → Option ℕ
seat_of config p who = place_if config p (tenant_number who config)

-- whether a known name is that of a member of purse p
abbrev pub is_members : ConfigData → ℕ → Option (List ℕ) → Bool
is_members config p None = false
is_members config p (Some who) = is_some (seat_of config p who)

-- the lines of purse p's members
abbrev pub own_lines : ConfigData → ℕ → List Saying → List Saying
own_lines config p lines = filter (λ (line : Saying). is_members config p line.who) lines

-- the requests of purse p's members
abbrev pub own_requests : ConfigData → ℕ → List Marked → List Marked
own_requests config p requests = filter (λ (m : Marked). is_members config p (whose m)) requests

-- the lines of a purse's members are the output of their own requests alone
abbrev pub EachReplaysAlone : Type 0
EachReplaysAlone = (config : ConfigData) (requests : List Marked) (p : ℕ) →
    own_lines config p (lines_for config (opening config) requests) ≡ lines_for config (opening config) (own_requests config p requests)

-- replays are isolated: a purse's lines are equal in two replays that are alike for it. It begins
-- alike, and its members have equal names, places, requests and refusals of memory
abbrev pub ReplaysAreIsolated : Type 0
ReplaysAreIsolated = (config elsewhere : ConfigData) (requests others : List Marked) (p q : ℕ) →
    opened_purse config p ≡ opened_purse elsewhere q → ((who : List ℕ) → seat_of config p who ≡ seat_of elsewhere q who) →
    own_requests config p requests ≡ own_requests elsewhere q others →
    own_lines config p (lines_for config (opening config) requests) ≡ own_lines elsewhere q (lines_for elsewhere (opening elsewhere) others)

-- ---- a tenant that has its purse for itself

-- the lines of the tenant of that name
abbrev pub lone_lines : List ℕ → List Saying → List Saying
lone_lines name lines = filter (λ (line : Saying). is_of name line.who) lines

-- the requests of the tenant of that name
abbrev pub lone_requests : List ℕ → List Marked → List Marked
lone_requests name requests = filter (λ (m : Marked). is_of name (whose m)) requests

-- the lines of a tenant alone in its purse are the output of its own requests alone
abbrev pub EachLoneReplaysAlone : Type 0
EachLoneReplaysAlone = (config : ConfigData) (requests : List Marked) (name : List ℕ) (t : ℕ) → tenant_number name config ≡ Some t → IsLone config t →
    lone_lines name (lines_for config (opening config) requests) ≡ lines_for config (opening config) (lone_requests name requests)
