-- The allowed modes of an eligible activity, as a loop finds them, and the one that a word draws.
use Rattle.std.proofs.Common.{◌≡◌, ℕ, ◌+◌, ◌%◌, ◌<◌, ◌≤◌, ◌&&◌, cond, Bool, true, false, List, [], ◌∷◌, ◌++◌, length, take, set, get_or, filter, None, Some, arith, refl, sym, ap, ◌∙◌}
use Rattle.std.specs.Prelude.{IsSomeAnd}
use Rattle.std.specs.List.{range_with_len}
use Rattle.std.proofs.lemmas.List.{get_or-take, length-take-le, take-set, take_more_set}
use Rattle.std.proofs.lemmas.Nat.{mod_below}
use Rattle.std.proofs.lemmas.Option.{slice_get-get_or}
use Rattle.mrcpsp.specs.Project.{ProjectData, size, mode_count}
use Rattle.mrcpsp.specs.Placed.{Placed, is_eligible, is_executable, is_affordable}
use Rattle.strategy.specs.Candidate.{allowed_modes, is_allowed_mode}
use Rattle.strategy.specs.Pass.{drawn_mode}
use Rattle.serial_pass.specs.Pass.{allowed_in}
use Rattle.serial_pass.proofs.ListLemmas.{next_fails, next_passes}

-- a pass that is not void, and an eligible activity
pub record IsOpenTo (p : ProjectData) (placed : List Placed) (void : Bool) (j : ℕ) : Type 0 where
  pub going : void ≡ false
  pub inside : j < size p
  pub eligible : is_eligible p placed j ≡ true

pub open_to : (p : ProjectData) (placed : List Placed) (void : Bool) (j : ℕ) → IsSomeAnd (cond void None (Some placed)) (λ placed. (j < size p) × (is_eligible p placed j ≡ true)) → IsOpenTo p placed void j
open_to p placed true j h = absurd h
open_to p placed false j h = record { going = refl; inside = h.0; eligible = h.1 }

-- a place is written behind those that passed, and kept if it passes
pub next_kept : (test : ℕ → Bool) (places : List ℕ) (count n : ℕ) (passes : Bool) → take count places ≡ filter test (range_with_len 0 n) → count < length places → passes ≡ test n → take (count + cond passes 1 0) (set places count n) ≡ filter test (range_with_len 0 (n + 1))
next_kept test places count n true so_far inside is =
    take_more_set places count n inside ∙ ap (λ (xs : List ℕ). xs ++ n ∷ []) so_far ∙ sym (next_passes test n (sym is))
next_kept test places count n false so_far inside is =
    let same : count + 0 ≡ count = omega arith in
    rw same (take-set places count n ∙ so_far ∙ sym (next_fails test n (sym is)))

pub allowed_is : (p : ProjectData) (placed : List Placed) (j m : ℕ) (can affords : Bool) → can ≡ is_executable p j m → affords ≡ is_affordable p placed j m → (can && affords) ≡ is_allowed_mode p placed j m
unfolding is_allowed_mode
allowed_is p placed j m can affords executable affordable = rw (executable, affordable) refl

-- the modes that were found are the allowed ones
pub modes_are : (p : ProjectData) (placed : List Placed) (void : Bool) (j n count : ℕ) (places : List ℕ) → void ≡ false → n ≡ mode_count p j → take count places ≡ filter (is_allowed_mode p placed j) (range_with_len 0 n) → allowed_in p (cond void None (Some placed)) j ≡ take count places
unfolding allowed_modes
modes_are p placed void j n count places going all so_far = rw (going, so_far, all) refl

pub none_drawn : (word count : ℕ) (places modes : List ℕ) → modes ≡ take count places → count ≡ 0 → None ≡ drawn_mode word modes
none_drawn word count places modes are none = rw (are, none) refl

pub one_drawn : (word count : ℕ) (places modes : List ℕ) → modes ≡ take count places → 0 < count → count ≤ length places → Some (get_or places (word % count) 0) ≡ drawn_mode word modes
one_drawn word count places modes are some room =
    let all : length (take count places) ≡ count = length-take-le count places room in
    let below : word % count < count = mod_below word count some in
    rw (are, all) (ap Some (sym (get_or-take count places (word % count) 0 below)) ∙ sym (slice_get-get_or (take count places) (word % count) 0 (omega (arith, all, below))))
