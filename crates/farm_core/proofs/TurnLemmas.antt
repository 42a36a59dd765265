-- A turn that has run nothing yet.
use Rattle.std.proofs.Common.{◌≡◌, ℕ, ◌+◌, ◌-◌, false, refl, arith, inl}
use Rattle.strategy.specs.Search.{Meaning, ran_on}
use Rattle.farm_core.specs.Turn.{IsTurn}

pub turn_fresh : (slice : ℕ) (m : Meaning) → m.taken ≡ false → IsTurn slice 0 m
turn_fresh slice m best =
    let nodes : m.nodes ≡ m.nodes + 0 = omega arith in
    let left : m.left ≡ m.left - 0 = omega arith in
    record { best = best; start = m; after = rw (← nodes, ← left) refl; all = inl refl }

pub ran_none : (m : Meaning) → m ≡ ran_on 0 m
ran_none m =
    let nodes : m.nodes ≡ m.nodes + 0 = omega arith in
    let left : m.left ≡ m.left - 0 = omega arith in
    rw (← nodes, ← left) refl
