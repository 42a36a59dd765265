-- The earliest start is within the latest finish of all that is placed.
use Rattle.std.proofs.Common.{◌≡◌, ℕ, ◌≤◌, true, max, List, [], ◌∷◌, ◌++◌, arith}
use Rattle.mrcpsp.specs.Project.{ProjectData}
use Rattle.mrcpsp.specs.Placed.{Placed, finish_of, latest, earliest, is_executable}
use Rattle.mrcpsp.proofs.EarliestLemmas.{earliest-le, allowed_at_latest}

-- at the latest finish of all, everything executable fits
pub earliest-le-latest : (p : ProjectData) (placed : List Placed) (j m from : ℕ) → is_executable p j m ≡ true → earliest p placed j m from ≤ max from (latest p placed)
earliest-le-latest p placed j m from can = earliest-le p placed j m from (max from (latest p placed)) (omega arith) (allowed_at_latest p placed j m (max from (latest p placed)) can (omega arith))

pub latest_push : (p : ProjectData) (placed : List Placed) (a : Placed) → latest p (placed ++ a ∷ []) ≡ max (latest p placed) (finish_of p a)
latest_push p [] a = omega arith
latest_push p (b ∷ placed) a = omega (arith, latest_push p placed a)
