-- Each whole pass that is not void is a feasible schedule.
use Rattle.std.proofs.Common.{◌≡◌, ℕ, zero, suc, ◌+◌, ◌-◌, ◌*◌, ◌%◌, ◌<◌, Bool, true, nat_lt, nat_le, List, [], ◌∷◌, ◌++◌, length, map, fold, sum_by, All, Option, Some, None, IfSome, option_map, arith, zero-le}
use Rattle.std.specs.Prelude.{option_and_then, slice_get}
use Rattle.std.specs.List.{find, list_all, range_with_len}
use Rattle.std.proofs.lemmas.Bool.{and_parts, cond_both}
use Rattle.std.proofs.lemmas.List.{length_push}
use Rattle.std.proofs.lemmas.List.Elements.{All-nil, All-cons, All-head, All-tail, All-filter, filter_passes}
use Rattle.mrcpsp.specs.Project.{ProjectData, size, mode_count, duration}
use Rattle.mrcpsp.specs.Schedule.{ScheduleData}
use Rattle.mrcpsp.specs.Values.{shortest, lft, mts}
use Rattle.mrcpsp.specs.Limits.{IsProject}
use Rattle.mrcpsp.specs.Placed.{Placed, is_eligible, is_executable, is_affordable, schedule_of}
use Rattle.strategy.specs.Candidate.{Candidate, placed_from, eligible_ones, is_allowed_mode, allowed_modes}
use Rattle.strategy.specs.Words.{word_at}
use Rattle.strategy.specs.Pass.{weight_of, drawn_at, activity_at, mode_at, chosen_at, placed_after, pass}
use Rattle.strategy.specs.Outcome.{better, best_pass}
use Rattle.strategy.specs.declared.kind.Kind.{Kind}
use Rattle.strategy.specs.declared.kind.Kind.TheVariants.{Tree, RuleLft, RuleMts, RuleSpt, Sample}
use Rattle.strategy.proofs.SoundLemmas.{IsSound, IsOpen, sound-nil, sound-push, feasible-full, shaped-full}
use Rattle.strategy.proofs.LawLemmas.{Good, All-range, improved-good}

-- ---- what is chosen is one of the list

find-holds : (P : ℕ → Type 0) (test : ℕ → Bool) (xs : List ℕ) → All P xs → IfSome (find test xs) P
find-holds P test [] h = tt
find-holds P test (x ∷ xs) h = cond_both (test x) (Some x) (find test xs) (λ o. IfSome o P) (λ _. All-head P x xs h) (λ _. find-holds P test xs (All-tail P x xs h))

pub drawn-holds : (P : ℕ → Type 0) (weight : ℕ → ℕ) (n : ℕ) (xs : List ℕ) → All P xs → IfSome (drawn_at weight n xs) P
drawn-holds P weight n [] h = tt
drawn-holds P weight n (x ∷ xs) h = cond_both (nat_lt n (weight x)) (Some x) (drawn_at weight (n - weight x) xs) (λ o. IfSome o P) (λ _. All-head P x xs h) (λ _. drawn-holds P weight (n - weight x) xs (All-tail P x xs h))

pub get-holds : (P : ℕ → Type 0) (xs : List ℕ) (i : ℕ) → All P xs → IfSome (slice_get xs i) P
get-holds P [] i h = tt
get-holds P (x ∷ xs) zero h = All-head P x xs h
get-holds P (x ∷ xs) (suc i) h = get-holds P xs i (All-tail P x xs h)

activity-holds : (P : ℕ → Type 0) (p : ProjectData) (kind : Kind) (i : ℕ) (xs : List ℕ) → All P xs → IfSome (activity_at p kind i xs) P
activity-holds P p Tree i xs h = tt
activity-holds P p RuleLft i xs h = find-holds P (λ x. list_all (λ y. nat_le (lft p x) (lft p y)) xs) xs h
activity-holds P p RuleMts i xs h = find-holds P (λ x. list_all (λ y. nat_le (mts p y) (mts p x)) xs) xs h
activity-holds P p RuleSpt i xs h = find-holds P (λ x. list_all (λ y. nat_le (shortest p x) (shortest p y)) xs) xs h
activity-holds P p (Sample seed) i xs h = drawn-holds P (weight_of p xs) (word_at seed (2 * i) % sum_by (weight_of p xs) xs) xs h

mode-holds : (P : ℕ → Type 0) (p : ProjectData) (kind : Kind) (i j : ℕ) (xs : List ℕ) → All P xs → IfSome (mode_at p kind i j xs) P
mode-holds P p Tree i j xs h = tt
mode-holds P p RuleLft i j xs h = find-holds P (λ x. list_all (λ y. nat_le (duration p j x) (duration p j y)) xs) xs h
mode-holds P p RuleMts i j xs h = find-holds P (λ x. list_all (λ y. nat_le (duration p j x) (duration p j y)) xs) xs h
mode-holds P p RuleSpt i j xs h = find-holds P (λ x. list_all (λ y. nat_le (duration p j x) (duration p j y)) xs) xs h
mode-holds P p (Sample seed) i j xs h = get-holds P xs (word_at seed (2 * i + 1) % length xs) h

-- an eligible activity, and an allowed mode of it
abbrev pub IsEligibleOne : ProjectData → List Placed → ℕ → Type 0
IsEligibleOne p placed j = (j < size p) × (is_eligible p placed j ≡ true)

abbrev pub IsAllowedMode : ProjectData → List Placed → ℕ → ℕ → Type 0
IsAllowedMode p placed j m = (m < mode_count p j) × (is_allowed_mode p placed j m ≡ true)

pub eligible-hold : (p : ProjectData) (placed : List Placed) → All (IsEligibleOne p placed) (eligible_ones p placed)
unfolding eligible_ones
eligible-hold p placed k d l = (
  All-filter (is_eligible p placed) (λ i. i < size p) (range_with_len 0 (size p)) (All-range (λ i. i < size p) (size p) (λ i h. h)) k d l,
  filter_passes (is_eligible p placed) (range_with_len 0 (size p)) k d l,
)

pub allowed-hold : (p : ProjectData) (placed : List Placed) (j : ℕ) → All (IsAllowedMode p placed j) (allowed_modes p placed j)
unfolding allowed_modes
allowed-hold p placed j k d l = (
  All-filter (is_allowed_mode p placed j) (λ i. i < mode_count p j) (range_with_len 0 (mode_count p j)) (All-range (λ i. i < mode_count p j) (mode_count p j) (λ i h. h)) k d l,
  filter_passes (is_allowed_mode p placed j) (range_with_len 0 (mode_count p j)) k d l,
)

pub record IsPlaceable (p : ProjectData) (placed : List Placed) (c : Candidate) : Type 0 where
  pub able : IsOpen p placed c
  pub executable : is_executable p c.activity c.mode ≡ true
  pub affordable : is_affordable p placed c.activity c.mode ≡ true

placeable-from : (p : ProjectData) (placed : List Placed) (j m : ℕ) → IsEligibleOne p placed j → IsAllowedMode p placed j m → IsPlaceable p placed (record { activity = j; mode = m })
unfolding is_allowed_mode
placeable-from p placed j m one allowed =
    let parts = and_parts (is_executable p j m) (is_affordable p placed j m) allowed.1 in
    record {
      able = record { inside = one.0; mode = allowed.0; eligible = one.1 };
      executable = parts.0;
      affordable = parts.1;
    }

mode-chosen : (p : ProjectData) (placed : List Placed) (j : ℕ) (found : Option ℕ) → IsEligibleOne p placed j → IfSome found (IsAllowedMode p placed j) → IfSome (option_map (λ m. record { activity = j; mode = m }) found) (IsPlaceable p placed)
mode-chosen p placed j None one h = tt
mode-chosen p placed j (Some m) one h = placeable-from p placed j m one h

activity-chosen : (p : ProjectData) (kind : Kind) (i : ℕ) (placed : List Placed) (found : Option ℕ) → IfSome found (IsEligibleOne p placed) → IfSome (option_and_then (λ j. option_map (λ m. record { activity = j; mode = m }) (mode_at p kind i j (allowed_modes p placed j))) found) (IsPlaceable p placed)
activity-chosen p kind i placed None h = tt
activity-chosen p kind i placed (Some j) h = mode-chosen p placed j (mode_at p kind i j (allowed_modes p placed j)) h (mode-holds (IsAllowedMode p placed j) p kind i j (allowed_modes p placed j) (allowed-hold p placed j))

pub chosen-placeable : (p : ProjectData) (kind : Kind) (i : ℕ) (placed : List Placed) → IfSome (chosen_at p kind i placed) (IsPlaceable p placed)
unfolding chosen_at
chosen-placeable p kind i placed = activity-chosen p kind i placed (activity_at p kind i (eligible_ones p placed)) (activity-holds (IsEligibleOne p placed) p kind i (eligible_ones p placed) (eligible-hold p placed))

-- ---- a whole pass

abbrev IsWhole : ProjectData → List Placed → Type 0
IsWhole p placed = IsSound p placed × (length placed ≡ size p)

module _ (p : ProjectData) (ok : IsProject p) (kind : Kind) where
  step-whole : (d i : ℕ) (placed : List Placed) (found : Option Candidate) → IfSome found (IsPlaceable p placed) → IsSound p placed → length placed + suc d ≡ size p
      → ((next : List Placed) → IsSound p next → length next + d ≡ size p → IfSome (placed_after p kind d (i + 1) next) (IsWhole p))
      → IfSome (option_and_then (λ c. placed_after p kind d (i + 1) (placed ++ placed_from p placed 0 c ∷ [])) found) (IsWhole p)
  step-whole d i placed None able sound count more = tt
  step-whole d i placed (Some c) able sound count more =
      let next : List Placed = placed ++ placed_from p placed 0 c ∷ [] in
      let longer : length next ≡ length placed + 1 = length_push placed (placed_from p placed 0 c) in
      more next (sound-push p placed 0 c ok sound able.able able.executable able.affordable zero-le) (omega arith)

  after-whole : (d i : ℕ) (placed : List Placed) → IsSound p placed → length placed + d ≡ size p → IfSome (placed_after p kind d i placed) (IsWhole p)
  after-whole zero i placed sound count = (sound, omega arith)
  after-whole (suc d) i placed sound count = step-whole d i placed (chosen_at p kind i placed) (chosen-placeable p kind i placed) sound count (λ next grown longer. after-whole d (i + 1) next grown longer)

  whole-feasible : (found : Option (List Placed)) → IfSome found (IsWhole p) → Good p (option_map (schedule_of (size p)) found)
  whole-feasible None h = tt
  whole-feasible (Some placed) h = (feasible-full p placed h.0 h.1, shaped-full p placed ok h.0 h.1)

  pub pass-feasible : (q : ℕ) → Good p (pass p kind q)
  unfolding pass
  pass-feasible q = whole-feasible (placed_after p kind (size p) (q * size p) []) (after-whole (size p) (q * size p) [] (sound-nil p) (omega arith))

  better-good : (best one : Option ScheduleData) → Good p best → Good p one → Good p (better p best one)
  better-good best None h g = h
  better-good best (Some s) h g = improved-good p best s h g

  fold-good : (passes : List (Option ScheduleData)) (best : Option ScheduleData) → Good p best → All (Good p) passes → Good p (fold (better p) best passes)
  fold-good [] best h all = h
  fold-good (x ∷ passes) best h all = fold-good passes (better p best x) (better-good best x h (All-head (Good p) x passes all)) (All-tail (Good p) x passes all)

  passes-good : (qs : List ℕ) → All (Good p) (map (pass p kind) qs)
  passes-good [] = All-nil (Good p)
  passes-good (q ∷ qs) = All-cons (Good p) (pass p kind q) (map (pass p kind) qs) (pass-feasible q) (passes-good qs)

  pub best_pass-feasible : (q : ℕ) → Good p (best_pass p kind q)
  unfolding best_pass
  best_pass-feasible q = fold-good (map (pass p kind) (range_with_len 0 q)) None tt (passes-good (range_with_len 0 q))
