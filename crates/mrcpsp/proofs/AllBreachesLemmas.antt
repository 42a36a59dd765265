-- The list of all breaches: the schedule breaks each of them, and all that is broken has its line.
use Rattle.std.proofs.Common.{◌≡◌, ⊎_elim, Bool, ℕ, ◌+◌, ◌-◌, ◌<◌, ◌≤◌, ◌&&◌, nat_lt, nat_le, true, false, List, [], ◌∷◌, ◌++◌, All, map, get_or, length, refl, sym, ap, ◌∙◌, arith, subst}
use Rattle.std.specs.List.{Contains, list_all, range_with_len, flat_map}
use Rattle.std.proofs.lemmas.Bool.{cond-true, cond-false, cases_Bool, false≢true}
use Rattle.std.proofs.lemmas.Bool.Decides.{nat_tests}
use Rattle.std.proofs.lemmas.List.{get_or_default, map-id}
use Rattle.std.proofs.lemmas.List.Elements.{All-append, All-nil, All-cons, All-tail, All-contains, Contains-append_left, Contains-append_right}
use Rattle.mrcpsp.specs.Project.{ProjectData, size, renewables, nonrenewables, capacity, mode_count, precedes}
use Rattle.mrcpsp.specs.Schedule.{ScheduleData, IsFeasible, HasMode, start_of, finish, use_of, mode_of}
use Rattle.mrcpsp.specs.Breach.{HasShape, HasModes, IsBroken}
use Rattle.mrcpsp.specs.declared.feasibility.TheConstants.{MOST_START}
use Rattle.mrcpsp.specs.declared.breach.Breach.{Breach}
use Rattle.mrcpsp.specs.declared.breach.Breach.TheVariants.{Shape, Mode, Precedence, Renewable, Nonrenewable}
use Rattle.mrcpsp.proofs.BreachLemmas.{use-le-at-start, broken-infeasible}
use Rattle.mrcpsp.proofs.PassingLemmas.{all_passing, passing_told, all_filtered, filtered_told, all_lists, list_in}
use Rattle.mrcpsp.proofs.StartLemmas.{in_from, le-largest, is_in}
use Rattle.mrcpsp.specs.Numbers.{largest}
use Rattle.mrcpsp.specs.Breaches.{AreBreaches, HasLine, is_shaped, is_modeless, is_early, is_overused, is_short, start_periods, missing_modes, early_after, overuse_of, short_stocks, other_breaches, or_else, breaches_in}

none_told : (p : ProjectData) (s : ScheduleData) (told : List Breach) → All (IsBroken p s) told → HasShape p s → IsFeasible p s → told ≡ []
none_told p s [] broken shape feasible = refl
none_told p s (b ∷ told) broken shape feasible = absurd (broken-infeasible p s b (broken 0 b (omega arith)) shape feasible)

-- ---- a shape

lt-to : {a b : ℕ} → nat_lt a b ≡ true → a < b
lt-to t = grind (arith, nat_tests)

le-to : {a b : ℕ} → nat_le a b ≡ true → a ≤ b
le-to t = grind (arith, nat_tests)

le-from : {a b : ℕ} → a ≤ b → nat_le a b ≡ true
le-from l = grind (arith, nat_tests)

lt-from : {a b : ℕ} → a < b → nat_lt a b ≡ true
lt-from l = grind (arith, nat_tests)

and_true : (a b : Bool) → (a && b) ≡ true → (a ≡ true) × (b ≡ true)
and_true true b t = (refl, t)
and_true false b t = absurd (false≢true t)

true_and : (a b : Bool) → a ≡ true → b ≡ true → (a && b) ≡ true
true_and a b s t = rw (s, t) refl

each_early : (starts : List ℕ) → All (λ t. t ≤ MOST_START) starts → list_all (λ t. nat_le t MOST_START) starts ≡ true
each_early [] early = refl
each_early (t ∷ starts) early =
    let first : nat_le t MOST_START ≡ true = le-from (early 0 t (omega arith)) in
    true_and (nat_le t MOST_START) (list_all (λ u. nat_le u MOST_START) starts) first (each_early starts (All-tail (λ u. u ≤ MOST_START) t starts early))

are_early : (starts : List ℕ) → list_all (λ t. nat_le t MOST_START) starts ≡ true → All (λ t. t ≤ MOST_START) starts
are_early [] test = All-nil (λ t. t ≤ MOST_START)
are_early (t ∷ starts) test =
    let both = and_true (nat_le t MOST_START) (list_all (λ u. nat_le u MOST_START) starts) test in
    All-cons (λ u. u ≤ MOST_START) t starts (le-to both.0) (are_early starts both.1)

pub shaped : (p : ProjectData) (s : ScheduleData) → HasShape p s → is_shaped p s ≡ true
shaped p s shape =
    let modes : length s.modes ≡ size p = shape.modes in
    let starts : length s.starts ≡ size p = shape.starts in
    let early : list_all (λ t. nat_le t MOST_START) s.starts ≡ true = each_early s.starts shape.early in
    grind (arith, nat_tests)

has_shape : (p : ProjectData) (s : ScheduleData) → is_shaped p s ≡ true → HasShape p s
has_shape p s test =
    let modes : length s.modes ≡ size p = grind (arith, nat_tests) in
    let starts : length s.starts ≡ size p = grind (arith, nat_tests) in
    let early : list_all (λ t. nat_le t MOST_START) s.starts ≡ true = grind (arith, nat_tests) in
    record { modes = modes; starts = starts; early = are_early s.starts early }

alone : (p : ProjectData) (s : ScheduleData) → (HasShape p s → ⊥) → (b : Breach) → IsBroken p s b → HasLine (Contains (Shape ∷ [])) p s b
alone p s bad Shape broken = (0, omega arith, refl)
alone p s bad (Mode j) broken = λ shape. absurd (bad shape)
alone p s bad (Precedence i j) broken = λ shape modes. absurd (bad shape)
alone p s bad (Renewable r t) broken = λ shape modes. absurd (bad shape)
alone p s bad (Nonrenewable r) broken = λ shape modes. absurd (bad shape)

shape_broken : (p : ProjectData) (s : ScheduleData) → (HasShape p s → ⊥) → All (IsBroken p s) (Shape ∷ [])
shape_broken p s bad = All-cons (IsBroken p s) Shape [] bad (All-nil (IsBroken p s))

all_shape : (p : ProjectData) (s : ScheduleData) → (HasShape p s → ⊥) → AreBreaches p s (Shape ∷ [])
all_shape p s bad = record { broken = shape_broken p s bad; whole = alone p s bad; none = λ shape feasible. absurd (bad shape) }

-- ---- modes

modeless : (p : ProjectData) (s : ScheduleData) (j : ℕ) → is_modeless p s j ≡ true → HasMode p s j → ⊥
unfolding mode_of
modeless p s j test has =
    let some : 0 < get_or s.modes j 0 = has.0 in
    let below : get_or s.modes j 0 - 1 < mode_count p j = has.1 in
    grind (arith, nat_tests)

pub has_mode : (p : ProjectData) (s : ScheduleData) (j : ℕ) → is_modeless p s j ≡ false → HasMode p s j
unfolding mode_of
has_mode p s j test =
    let some : 0 < get_or s.modes j 0 = grind (arith, nat_tests) in
    let below : get_or s.modes j 0 ≤ mode_count p j = grind (arith, nat_tests) in
    (some, omega arith)

mode_told : (p : ProjectData) (s : ScheduleData) (j : ℕ) → 0 < j → j ≤ size p → (HasMode p s (j - 1) → ⊥) → Contains (missing_modes p s) (Mode j)
mode_told p s j low high bad =
    let same : j - 1 + 1 ≡ j = omega arith in
    let test : is_modeless p s (j - 1) ≡ true = ⊎_elim (λ t. t) (λ e. absurd (bad (has_mode p s (j - 1) e))) (cases_Bool (is_modeless p s (j - 1))) in
    subst (λ i. Contains (missing_modes p s) (Mode i)) same (passing_told (λ i. Mode (i + 1)) (is_modeless p s) (size p) (j - 1) (omega arith) test)

modes_broken : (p : ProjectData) (s : ScheduleData) → All (IsBroken p s) (missing_modes p s)
modes_broken p s =
    all_passing (λ i. Mode (i + 1)) (is_modeless p s) (IsBroken p s) (size p) (λ j l t.
    let same : j + 1 - 1 ≡ j = omega arith in
    ((omega arith, omega arith), rw same (modeless p s j t)))

-- no mode is missing
pub all_modes_exist : (p : ProjectData) (s : ScheduleData) → missing_modes p s ≡ [] → HasModes p s
all_modes_exist p s none j l =
    ⊎_elim
    (λ (t : is_modeless p s j ≡ true).
    let (k, inside, is) = passing_told (λ i. Mode (i + 1)) (is_modeless p s) (size p) j l t in
    let empty : length (missing_modes p s) ≡ 0 = ap (λ (bs : List Breach). length bs) none in
    absurd (omega arith))
    (λ e. has_mode p s j e)
    (cases_Bool (is_modeless p s j))

none_missing : (p : ProjectData) (s : ScheduleData) (told : List Breach) → HasModes p s → All (IsBroken p s) told → ((b : Breach) → Contains told b → (j : ℕ) × (b ≡ Mode j)) → told ≡ []
none_missing p s [] has broken modes = refl
none_missing p s (b ∷ told) has broken modes =
    let (j, is) = modes b (0, omega arith, refl) in
    let bad : IsBroken p s (Mode j) = subst (IsBroken p s) is (broken 0 b (omega arith)) in
    absurd (bad.1 (has (j - 1) (omega (arith, bad.0.0, bad.0.1))))

are_modes : (p : ProjectData) (s : ScheduleData) → All (λ b. (j : ℕ) × (b ≡ Mode j)) (missing_modes p s)
are_modes p s = all_passing (λ i. Mode (i + 1)) (is_modeless p s) (λ b. (j : ℕ) × (b ≡ Mode j)) (size p) (λ j l t. (j + 1, refl))

no_modes : (p : ProjectData) (s : ScheduleData) → HasModes p s → missing_modes p s ≡ []
no_modes p s has = none_missing p s (missing_modes p s) has (modes_broken p s) (λ b h. All-contains (λ b. (j : ℕ) × (b ≡ Mode j)) (missing_modes p s) b (are_modes p s) h)

modes_alone : (p : ProjectData) (s : ScheduleData) → HasShape p s → (HasModes p s → ⊥) → (b : Breach) → IsBroken p s b → HasLine (Contains (missing_modes p s)) p s b
modes_alone p s shape bad Shape broken = absurd (broken shape)
modes_alone p s shape bad (Mode j) broken = λ _. mode_told p s j broken.0.0 broken.0.1 broken.1
modes_alone p s shape bad (Precedence i j) broken = λ _ modes. absurd (bad modes)
modes_alone p s shape bad (Renewable r t) broken = λ _ modes. absurd (bad modes)
modes_alone p s shape bad (Nonrenewable r) broken = λ _ modes. absurd (bad modes)

all_modes : (p : ProjectData) (s : ScheduleData) → HasShape p s → (HasModes p s → ⊥) → AreBreaches p s (missing_modes p s)
all_modes p s shape bad =
    record { broken = modes_broken p s; whole = modes_alone p s shape bad; none = none_told p s (missing_modes p s) (modes_broken p s) }

-- ---- the others

early_broken : (p : ProjectData) (s : ScheduleData) (i : ℕ) → i < size p → All (IsBroken p s) (early_after p s i)
early_broken p s i inside =
    all_passing (λ j. Precedence (i + 1) (j + 1)) (is_early p s i) (IsBroken p s) (size p) (λ j l t.
    let first : i + 1 - 1 ≡ i = omega arith in
    let second : j + 1 - 1 ≡ j = omega arith in
    let both = and_true (precedes p i j) (nat_lt (start_of s j) (finish p s i)) t in
    ((omega arith, omega arith), (omega arith, omega arith), rw (first, second) both.0, rw (first, second) (lt-to both.1)))

overuse_broken : (p : ProjectData) (s : ScheduleData) (r : ℕ) → r < renewables p → All (IsBroken p s) (overuse_of p s r)
overuse_broken p s r inside =
    all_filtered (Renewable (r + 1)) (is_overused p s r) (IsBroken p s) (start_periods s) (λ t test.
    let same : r + 1 - 1 ≡ r = omega arith in
    ((omega arith, omega arith), rw same (lt-to test)))

short_broken : (p : ProjectData) (s : ScheduleData) → All (IsBroken p s) (short_stocks p s)
short_broken p s =
    all_passing (λ r. Nonrenewable (r + 1)) (is_short p s) (IsBroken p s) (nonrenewables p) (λ r l test.
    let same : r + 1 - 1 ≡ r = omega arith in
    ((omega arith, omega arith), rw same (lt-to test)))

abbrev earlies : ProjectData → ScheduleData → List Breach
earlies p s = flat_map (early_after p s) (range_with_len 0 (size p))

abbrev overuses : ProjectData → ScheduleData → List Breach
overuses p s = flat_map (overuse_of p s) (range_with_len 0 (renewables p))

others_broken : (p : ProjectData) (s : ScheduleData) → All (IsBroken p s) (other_breaches p s)
others_broken p s =
    All-append (IsBroken p s) (earlies p s ++ overuses p s) (short_stocks p s)
    (All-append (IsBroken p s) (earlies p s) (overuses p s)
    (all_lists (early_after p s) (IsBroken p s) (size p) (early_broken p s))
    (all_lists (overuse_of p s) (IsBroken p s) (renewables p) (overuse_broken p s)))
    (short_broken p s)

early_told : (p : ProjectData) (s : ScheduleData) (i j : ℕ) → IsBroken p s (Precedence i j) → Contains (earlies p s) (Precedence i j)
early_told p s i j broken =
    let first : i - 1 + 1 ≡ i = omega (arith, broken.0.0) in
    let second : j - 1 + 1 ≡ j = omega (arith, broken.1.0) in
    let test : is_early p s (i - 1) (j - 1) ≡ true = true_and (precedes p (i - 1) (j - 1)) (nat_lt (start_of s (j - 1)) (finish p s (i - 1))) broken.2 (lt-from broken.3) in
    let told = passing_told (λ k. Precedence (i - 1 + 1) (k + 1)) (is_early p s (i - 1)) (size p) (j - 1) (omega (arith, broken.1.0, broken.1.1)) test in
    list_in (early_after p s) (size p) (i - 1) (Precedence i j) (omega (arith, broken.0.0, broken.0.1))
    (subst (λ a. Contains (early_after p s (i - 1)) (Precedence a j)) first (subst (λ b. Contains (early_after p s (i - 1)) (Precedence (i - 1 + 1) b)) second told))

-- a start at which a resource is overused that is overused later
used_at_start : (p : ProjectData) (s : ScheduleData) (r t : ℕ) → capacity p r < use_of p s r t → (k : ℕ) × ((k < size p) × (start_of s k ≤ t) × (capacity p r < use_of p s r (start_of s k)))
used_at_start p s r t over =
    ⊎_elim (λ (idle : use_of p s r t ≡ 0). absurd (omega arith))
    (λ (some : (k : ℕ) × ((k < size p) × (start_of s k ≤ t) × (use_of p s r t ≤ use_of p s r (start_of s k)))).
    (some.0, (some.1.0, some.1.1, omega (arith, some.1.2))))
    (use-le-at-start p s r t)

is_started : (p : ProjectData) (s : ScheduleData) (k : ℕ) → HasShape p s → k < size p → Contains s.starts (start_of s k)
unfolding start_of
is_started p s k shape inside = (k, omega (arith, shape.starts), get_or_default s.starts k (get_or s.starts k 0) 0 (omega (arith, shape.starts)))

is_period : (s : ScheduleData) (t : ℕ) → Contains s.starts t → Contains (map (λ (u : ℕ). u) (start_periods s)) t
is_period s t has = passing_told (λ u. u) (is_in s.starts) (largest s.starts + 1) t (omega (arith, le-largest s.starts t has)) (in_from s.starts t has)

overuse_told : (p : ProjectData) (s : ScheduleData) (r t : ℕ) → HasShape p s → IsBroken p s (Renewable r t) → (u : ℕ) × (u ≤ t) × Contains (overuses p s) (Renewable r u)
overuse_told p s r t shape broken =
    let (k, at) = used_at_start p s (r - 1) t broken.1 in
    let u = start_of s k in
    let same : r - 1 + 1 ≡ r = omega (arith, broken.0.0) in
    let (n, inside, is) = subst (λ l. Contains l u) (map-id (start_periods s)) (is_period s u (is_started p s k shape at.0)) in
    let told = filtered_told (Renewable (r - 1 + 1)) (is_overused p s (r - 1)) (start_periods s) n u inside is (lt-from at.2) in
    (u, at.1, list_in (overuse_of p s) (renewables p) (r - 1) (Renewable r u) (omega (arith, broken.0.0, broken.0.1)) (subst (λ a. Contains (overuse_of p s (r - 1)) (Renewable a u)) same told))

short_told : (p : ProjectData) (s : ScheduleData) (r : ℕ) → IsBroken p s (Nonrenewable r) → Contains (short_stocks p s) (Nonrenewable r)
short_told p s r broken =
    let same : r - 1 + 1 ≡ r = omega (arith, broken.0.0) in
    subst (λ a. Contains (short_stocks p s) (Nonrenewable a)) same
    (passing_told (λ a. Nonrenewable (a + 1)) (is_short p s) (nonrenewables p) (r - 1) (omega (arith, broken.0.0, broken.0.1)) (lt-from broken.1))

front : (p : ProjectData) (s : ScheduleData) (b : Breach) → Contains (earlies p s ++ overuses p s) b → Contains (other_breaches p s) b
front p s b has = Contains-append_left (earlies p s ++ overuses p s) (short_stocks p s) b has

others_whole : (p : ProjectData) (s : ScheduleData) → HasShape p s → HasModes p s → (b : Breach) → IsBroken p s b → HasLine (Contains (other_breaches p s)) p s b
others_whole p s shape modes Shape broken = absurd (broken shape)
others_whole p s shape modes (Mode j) broken = λ _. absurd (broken.1 (modes (j - 1) (omega (arith, broken.0.0, broken.0.1))))
others_whole p s shape modes (Precedence i j) broken = λ _ _. front p s (Precedence i j) (Contains-append_left (earlies p s) (overuses p s) (Precedence i j) (early_told p s i j broken))
others_whole p s shape modes (Renewable r t) broken = λ _ _.
    let (u, before, has) = overuse_told p s r t shape broken in
    (u, before, front p s (Renewable r u) (Contains-append_right (earlies p s) (overuses p s) (Renewable r u) has))
others_whole p s shape modes (Nonrenewable r) broken = λ _ _. Contains-append_right (earlies p s ++ overuses p s) (short_stocks p s) (Nonrenewable r) (short_told p s r broken)

all_others : (p : ProjectData) (s : ScheduleData) → HasShape p s → HasModes p s → AreBreaches p s (other_breaches p s)
all_others p s shape modes =
    record { broken = others_broken p s; whole = others_whole p s shape modes; none = none_told p s (other_breaches p s) (others_broken p s) }

-- ---- the list

else_second : (told others : List Breach) → told ≡ [] → or_else told others ≡ others
else_second [] others none = refl
else_second (b ∷ told) others none = absurd (let e : length (b ∷ told) ≡ 0 = ap (λ (bs : List Breach). length bs) none in omega arith)

else_first : (told others : List Breach) → (told ≡ [] → ⊥) → or_else told others ≡ told
else_first [] others some = absurd (some refl)
else_first (b ∷ told) others some = refl

-- what the code lists in each of its three ways
pub shape_told : (p : ProjectData) (s : ScheduleData) → (HasShape p s → ⊥) → Shape ∷ [] ≡ breaches_in p s
shape_told p s bad =
    let test : is_shaped p s ≡ false = ⊎_elim (λ t. absurd (bad (has_shape p s t))) (λ e. e) (cases_Bool (is_shaped p s)) in
    sym (cond-false (is_shaped p s) (or_else (missing_modes p s) (other_breaches p s)) (Shape ∷ []) test)

shaped_told : (p : ProjectData) (s : ScheduleData) → HasShape p s → or_else (missing_modes p s) (other_breaches p s) ≡ breaches_in p s
shaped_told p s shape = sym (cond-true (is_shaped p s) (or_else (missing_modes p s) (other_breaches p s)) (Shape ∷ []) (shaped p s shape))

pub modes_told : (p : ProjectData) (s : ScheduleData) → HasShape p s → (missing_modes p s ≡ [] → ⊥) → missing_modes p s ≡ breaches_in p s
modes_told p s shape some = sym (else_first (missing_modes p s) (other_breaches p s) some) ∙ shaped_told p s shape

pub others_told : (p : ProjectData) (s : ScheduleData) → HasShape p s → missing_modes p s ≡ [] → other_breaches p s ≡ breaches_in p s
others_told p s shape none = sym (else_second (missing_modes p s) (other_breaches p s) none) ∙ shaped_told p s shape

by_modes : (p : ProjectData) (s : ScheduleData) → HasShape p s → (told : List Breach) → told ≡ missing_modes p s → AreBreaches p s (breaches_in p s)
by_modes p s shape [] e = subst (AreBreaches p s) (others_told p s shape (sym e)) (all_others p s shape (all_modes_exist p s (sym e)))
by_modes p s shape (b ∷ told) e =
    let some : missing_modes p s ≡ [] → ⊥ = λ none. let long : length (b ∷ told) ≡ 0 = ap (λ (bs : List Breach). length bs) (e ∙ none) in omega arith in
    subst (AreBreaches p s) (modes_told p s shape some) (all_modes p s shape (λ modes. some (no_modes p s modes)))

pub breaches_are_right : (p : ProjectData) (s : ScheduleData) → AreBreaches p s (breaches_in p s)
breaches_are_right p s =
    ⊎_elim
    (λ (t : is_shaped p s ≡ true). by_modes p s (has_shape p s t) (missing_modes p s) refl)
    (λ (e : is_shaped p s ≡ false).
    let bad : HasShape p s → ⊥ = λ shape. false≢true (sym e ∙ shaped p s shape) in
    subst (AreBreaches p s) (shape_told p s bad) (all_shape p s bad))
    (cases_Bool (is_shaped p s))
