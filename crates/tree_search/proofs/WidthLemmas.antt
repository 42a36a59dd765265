-- Of a resource that a project does not have there is nothing.
use Rattle.std.proofs.Common.{◌≡◌, ℕ, zero, suc, ◌<◌, ◌≤◌, List, arith, refl}
use Rattle.mrcpsp.specs.Numbers.{sum_below}
use Rattle.mrcpsp.specs.Limits.{IsProject}
use Rattle.mrcpsp.specs.Project.{ProjectData, size, renewables, nonrenewables, mode_count}
use Rattle.mrcpsp.specs.Values.{least}
use Rattle.mrcpsp.specs.Placed.{Placed}
use Rattle.measures.proofs.ValueLemmas.{least_past}
use Rattle.serial_sgs.proofs.RowLemmas.{capacity_past, consumption_past, request_past}
use Rattle.tree_search.specs.declared.front.Running.{Running}
use Rattle.tree_search.specs.declared.table.Row.{Row}
use Rattle.tree_search.specs.Front.{IsFrontOf, left_at}
use Rattle.tree_search.specs.Table.{IsLine}
use Rattle.tree_search.specs.Width.{IsNone}
use Rattle.tree_search.proofs.PlacedLemmas.{asks_most, front_most}

pub extra_none : (p : ProjectData) (j m lanes : ℕ) (row : Row) → IsProject p → j < size p → m < mode_count p j → IsLine p j m row → nonrenewables p ≤ lanes → IsNone lanes row.extra
extra_none p j m lanes row project inside known own enough r past among = omega (arith, own.extra r among, consumption_past p j m r project inside known (omega (arith, past, enough)))

pub request_none : (p : ProjectData) (j m lanes : ℕ) (row : Row) → IsProject p → j < size p → m < mode_count p j → IsLine p j m row → renewables p ≤ lanes → IsNone lanes row.request
request_none p j m lanes row project inside known own enough r past among = omega (arith, asks_most p j m row.request own.request r among, request_past p j m r project inside known (omega (arith, past, enough)))

pub left_none : (p : ProjectData) (placed : List Placed) (from lanes : ℕ) (free : List ℕ) (running : List Running) → IsFrontOf p placed from free running → renewables p ≤ lanes → (r t : ℕ) → lanes ≤ r → r < 8 → left_at free running r t ≡ 0
left_none p placed from lanes free running front enough r t past among = omega (arith, front_most p placed from free running front r t among, capacity_past p r (omega (arith, past, enough)))

no_sum : (f : ℕ → ℕ) (n : ℕ) → ((i : ℕ) → i < n → f i ≡ 0) → sum_below f n ≡ 0
no_sum f zero none = refl
no_sum f (suc n) none = omega (arith, none n (omega arith), no_sum f n (λ i l. none i (omega arith)))

-- at first nothing is needed
pub need_none : (p : ProjectData) (r : ℕ) → IsProject p → nonrenewables p ≤ r → sum_below (λ i. least p i r) (size p) ≡ 0
need_none p r project past = no_sum (λ i. least p i r) (size p) (λ i l. least_past p i r project l past)
