-- Of a resource that a project does not have there is nothing, and nothing of it is asked for.
use Rattle.std.proofs.Common.{◌≡◌, ℕ, ◌<◌, ◌≤◌, List, [], ◌∷◌, get_or, All, arith, refl, ⊎_elim}
use Rattle.std.proofs.lemmas.Bool.{cases_lt}
use Rattle.std.proofs.lemmas.List.{get_or_past}
use Rattle.std.proofs.lemmas.List.Elements.{All-head, All-tail}
use Rattle.std.proofs.lemmas.List.Sums.{sum_by-cons}
use Rattle.mrcpsp.specs.Project.{ProjectData, size, renewables, nonrenewables, modes, mode_count, no_mode, request, consumption, capacity, stock}
use Rattle.mrcpsp.specs.Schedule.{load}
use Rattle.mrcpsp.specs.Limits.{IsProject}
use Rattle.mrcpsp.specs.Placed.{Placed, placed_use}
use Rattle.mrcpsp.proofs.ProjectLemmas.{load-le-request}
use Rattle.serial_sgs.specs.Board.{IsInside}

pub request_past : (p : ProjectData) (j m r : ℕ) → IsProject p → j < size p → m < mode_count p j → renewables p ≤ r → request p j m r ≡ 0
unfolding request
request_past p j m r project inside known past =
    get_or_past (get_or (modes p j) m no_mode).renewable r 0 (omega (arith, (project.limited j m inside known).renewables))

pub consumption_past : (p : ProjectData) (j m r : ℕ) → IsProject p → j < size p → m < mode_count p j → nonrenewables p ≤ r → consumption p j m r ≡ 0
unfolding consumption
consumption_past p j m r project inside known past =
    get_or_past (get_or (modes p j) m no_mode).nonrenewable r 0 (omega (arith, (project.limited j m inside known).nonrenewables))

pub capacity_past : (p : ProjectData) (r : ℕ) → renewables p ≤ r → capacity p r ≡ 0
unfolding capacity renewables
capacity_past p r past = get_or_past p.renewable r 0 past

pub stock_past : (p : ProjectData) (r : ℕ) → nonrenewables p ≤ r → stock p r ≡ 0
unfolding stock nonrenewables
stock_past p r past = get_or_past p.nonrenewable r 0 past

pub use_past : (p : ProjectData) (placed : List Placed) (r u : ℕ) → IsProject p → All (IsInside p) placed → renewables p ≤ r → placed_use p placed r u ≡ 0
unfolding placed_use
use_past p [] r u project inside past = refl
use_past p (a ∷ placed) r u project inside past =
    let own : IsInside p a = All-head (IsInside p) a placed inside in
    omega (arith, sum_by-cons (λ (b : Placed). load p r u b.activity b.mode b.start) a placed, load-le-request p r u a.activity a.mode a.start, request_past p a.activity a.mode r project own.activity own.mode past, use_past p placed r u project (All-tail (IsInside p) a placed inside) past)

pub request_small : (p : ProjectData) (j m r : ℕ) → IsProject p → j < size p → m < mode_count p j → request p j m r ≤ 1000000
unfolding request
request_small p j m r project inside known =
    ⊎_elim
    (λ (among : r < renewables p). let limited = project.limited j m inside known in limited.requests r 0 (omega (arith, limited.renewables)))
    (λ (past : renewables p ≤ r). omega (arith, request_past p j m r project inside known past))
    (cases_lt r (renewables p))

pub consumption_small : (p : ProjectData) (j m r : ℕ) → IsProject p → j < size p → m < mode_count p j → consumption p j m r ≤ 1000000
unfolding consumption
consumption_small p j m r project inside known =
    ⊎_elim
    (λ (among : r < nonrenewables p). let limited = project.limited j m inside known in limited.consumptions r 0 (omega (arith, limited.nonrenewables)))
    (λ (past : nonrenewables p ≤ r). omega (arith, consumption_past p j m r project inside known past))
    (cases_lt r (nonrenewables p))

pub capacity_small : (p : ProjectData) (r : ℕ) → IsProject p → capacity p r ≤ 1000000
unfolding capacity renewables
capacity_small p r project =
    ⊎_elim
    (λ (among : r < renewables p). project.capacities r 0 among)
    (λ (past : renewables p ≤ r). omega (arith, capacity_past p r past))
    (cases_lt r (renewables p))

pub stock_small : (p : ProjectData) (r : ℕ) → IsProject p → stock p r ≤ 1000000
unfolding stock nonrenewables
stock_small p r project =
    ⊎_elim
    (λ (among : r < nonrenewables p). project.stocks r 0 among)
    (λ (past : nonrenewables p ≤ r). omega (arith, stock_past p r past))
    (cases_lt r (nonrenewables p))
