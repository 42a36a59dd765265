-- What two words draw may come next.
use Rattle.std.proofs.Common.{◌≡◌, ℕ, ◌%◌, ◌<◌, true, List, length, Option, Some, None, IfSome, option_map}
use Rattle.std.specs.Prelude.{IsSomeAnd, option_and_then, sum_by}
use Rattle.mrcpsp.specs.Project.{ProjectData, size}
use Rattle.mrcpsp.specs.Placed.{Placed, is_eligible}
use Rattle.strategy.specs.Candidate.{eligible_ones, allowed_modes}
use Rattle.strategy.specs.Pass.{weight_of, drawn_activity, drawn_mode}
use Rattle.strategy.proofs.PassLemmas.{IsEligibleOne, IsAllowedMode, drawn-holds, get-holds, eligible-hold, allowed-hold}
use Rattle.serial_pass.specs.Pass.{MayComeNext, eligible_in}
use Rattle.sample_search.specs.Draw.{drawn_candidate}

module _ (p : ProjectData) (placed : List Placed) where
  mode-comes : (j : ℕ) (found : Option ℕ) → IsEligibleOne p placed j → IfSome found (IsAllowedMode p placed j) → IfSome (option_map (λ m. record { activity = j; mode = m }) found) (MayComeNext p placed)
  mode-comes j None one h = tt
  mode-comes j (Some m) one h = record { activity = one.0; mode = h.0; eligible = one.1; allowed = h.1 }

  activity-comes : (second : ℕ) (found : Option ℕ) → IfSome found (IsEligibleOne p placed) → IfSome (option_and_then (λ j. option_map (λ m. record { activity = j; mode = m }) (drawn_mode second (allowed_modes p placed j))) found) (MayComeNext p placed)
  activity-comes second None h = tt
  activity-comes second (Some j) h = mode-comes j (drawn_mode second (allowed_modes p placed j)) h (get-holds (IsAllowedMode p placed j) (allowed_modes p placed j) (second % length (allowed_modes p placed j)) (allowed-hold p placed j))

  drawn-comes : (first second : ℕ) → IfSome (drawn_candidate p first second placed) (MayComeNext p placed)
  drawn-comes first second =
      let xs = eligible_ones p placed in
      activity-comes second (drawn_activity p first xs) (drawn-holds (IsEligibleOne p placed) (weight_of p xs) (first % sum_by (weight_of p xs) xs) xs (eligible-hold p placed))

pub may_come : (p : ProjectData) (first second : ℕ) (placed : Option (List Placed)) → IfSome (option_and_then (drawn_candidate p first second) placed) (λ c. IsSomeAnd placed (λ now. MayComeNext p now c))
may_come p first second None = tt
may_come p first second (Some now) = drawn-comes p now first second

eligible-comes : (p : ProjectData) (now : List Placed) (j : ℕ) (found : Option ℕ) → Some j ≡ found → IfSome found (IsEligibleOne p now) → IsEligibleOne p now j
eligible-comes p now j None drawn h = absurd (cc)
eligible-comes p now j (Some i) drawn h = let same : j ≡ i = cc in rw same h

-- the activity that a word draws is eligible
pub drawn_eligible : (p : ProjectData) (word j : ℕ) (placed : Option (List Placed)) → Some j ≡ drawn_activity p word (eligible_in p placed) → IsSomeAnd placed (λ now. (j < size p) × (is_eligible p now j ≡ true))
drawn_eligible p word j None drawn = absurd (cc)
drawn_eligible p word j (Some now) drawn =
    let xs = eligible_ones p now in
    eligible-comes p now j (drawn_activity p word xs) drawn (drawn-holds (IsEligibleOne p now) (weight_of p xs) (word % sum_by (weight_of p xs) xs) xs (eligible-hold p now))
