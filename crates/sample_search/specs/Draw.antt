-- What two words draw.
use Rattle.std.specs.Prelude.{ℕ, List, Option, option_map, option_and_then}
use Rattle.mrcpsp.specs.Project.{ProjectData}
use Rattle.mrcpsp.specs.Placed.{Placed}
use Rattle.strategy.specs.Candidate.{Candidate, eligible_ones, allowed_modes}
use Rattle.strategy.specs.Pass.{drawn_activity, drawn_mode}
use Rattle.serial_pass.specs.Pass.{grown}

-- the first word draws an eligible activity, and the second one of its allowed modes
abbrev pub drawn_candidate : ProjectData → ℕ → ℕ → List Placed → Option Candidate
drawn_candidate p first second placed =
    option_and_then (λ j. option_map (λ m. record { activity = j; mode = m }) (drawn_mode second (allowed_modes p placed j)))
    (drawn_activity p first (eligible_ones p placed))

-- what is placed after a node with these words; none if they draw none or the pass is void
abbrev pub after_words : ProjectData → ℕ → ℕ → Option (List Placed) → Option (List Placed)
after_words p first second placed = option_and_then (λ now. option_map (λ c. grown p c now) (drawn_candidate p first second now)) placed
