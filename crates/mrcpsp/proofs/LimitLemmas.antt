-- The test of projects gives each fact that a project keeps.
use Rattle.std.proofs.Common.{◌≡◌, ℕ, zero, suc, ◌+◌, ◌<◌, ◌≤◌, Bool, true, ◌&&◌, not, nat_le, nat_lt, ◌==◌, List, [], ◌∷◌, ◌++◌, length, get_or, All, arith}
use Rattle.std.specs.List.{list_all, list_any}
use Rattle.std.proofs.lemmas.Bool.{and_parts, leb-true, ltb-true, eqb-true}
use Rattle.std.proofs.lemmas.List.Elements.{All-nil, All-cons}
use Rattle.mrcpsp.specs.Project.{ActivityData, ProjectData, is_between, are_amounts, is_mode, are_successors, are_activities, is_project, horizon, no_mode, no_activity, size, renewables, nonrenewables, modes, mode_count, successors}
use Rattle.mrcpsp.specs.Limits.{IsLimited, IsProject}

-- a test of all holds of each
pub all-from : {X : Type 0} (test : X → Bool) (xs : List X) (i : ℕ) (d : X) → list_all test xs ≡ true → i < length xs → test (get_or xs i d) ≡ true
all-from test [] i d h l = absurd (omega arith)
all-from test (x ∷ xs) zero d h l = (and_parts (test x) (list_all test xs) h).0
all-from test (x ∷ xs) (suc i) d h l = all-from test xs i d (and_parts (test x) (list_all test xs) h).1 (omega arith)

small-from : (xs : List ℕ) → list_all (λ a. nat_le a 1000000) xs ≡ true → All (λ a. a ≤ 1000000) xs
small-from [] h = All-nil (λ (a : ℕ). a ≤ 1000000)
small-from (x ∷ xs) h =
    let parts = and_parts (nat_le x 1000000) (list_all (λ a. nat_le a 1000000) xs) h in
    All-cons (λ (a : ℕ). a ≤ 1000000) x xs (leb-true x 1000000 parts.0) (small-from xs parts.1)

between-from : (low high n : ℕ) → is_between low high n ≡ true → (low ≤ n) × (n ≤ high)
between-from low high n h =
    let parts = and_parts (nat_le low n) (nat_le n high) h in
    (leb-true low n parts.0, leb-true n high parts.1)

rising-from : (n j : ℕ) (before xs : List ℕ) → are_successors n j before xs ≡ true → All (λ s. (j < s) × (s ≤ n)) xs
rising-from n j before [] h = All-nil (λ (s : ℕ). (j < s) × (s ≤ n))
rising-from n j before (s ∷ more) h =
    let parts = and_parts (nat_lt j s && nat_le s n && not (list_any (λ t. t == s) before)) (are_successors n j (before ++ s ∷ []) more) h in
    let within = and_parts (nat_lt j s) (nat_le s n) (and_parts (nat_lt j s && nat_le s n) (not (list_any (λ t. t == s) before)) parts.0).0 in
    All-cons (λ (s : ℕ). (j < s) × (s ≤ n)) s more (ltb-true j s within.0, leb-true s n within.1) (rising-from n j (before ++ s ∷ []) more parts.1)

-- what holds of the activity with number j
pub record IsActivity (r v n j : ℕ) (a : ActivityData) : Type 0 where
  pub moded : is_between 1 10 (length a.modes) ≡ true
  pub limited : list_all (is_mode r v) a.modes ≡ true
  pub rising : are_successors n j [] a.successors ≡ true

activity-from : (r v n j : ℕ) (xs : List ActivityData) (i : ℕ) → are_activities r v n j xs ≡ true → i < length xs → IsActivity r v n (j + i) (get_or xs i no_activity)
activity-from r v n j [] i h l = absurd (omega arith)
activity-from r v n j (a ∷ more) zero h l =
    let parts = and_parts (is_between 1 10 (length a.modes) && list_all (is_mode r v) a.modes && are_successors n j [] a.successors) (are_activities r v n (j + 1) more) h in
    let own = and_parts (is_between 1 10 (length a.modes) && list_all (is_mode r v) a.modes) (are_successors n j [] a.successors) parts.0 in
    let first = and_parts (is_between 1 10 (length a.modes)) (list_all (is_mode r v) a.modes) own.0 in
    let same : j + 0 ≡ j = omega arith in
    rw same (record { moded = first.0; limited = first.1; rising = own.1 })
activity-from r v n j (a ∷ more) (suc i) h l =
    let parts = and_parts (is_between 1 10 (length a.modes) && list_all (is_mode r v) a.modes && are_successors n j [] a.successors) (are_activities r v n (j + 1) more) h in
    let later : j + suc i ≡ j + 1 + i = omega arith in
    rw later (activity-from r v n (j + 1) more i parts.1 (omega arith))

limited-from : (p : ProjectData) (j m : ℕ) → list_all (is_mode (length p.renewable) (length p.nonrenewable)) (get_or p.activities j no_activity).modes ≡ true → m < length (get_or p.activities j no_activity).modes → IsLimited p j m
unfolding modes renewables nonrenewables
limited-from p j m h l =
    let r = length p.renewable in let v = length p.nonrenewable in
    let x = get_or (get_or p.activities j no_activity).modes m no_mode in
    let fits = all-from (is_mode r v) (get_or p.activities j no_activity).modes m no_mode h l in
    let parts = and_parts (nat_le x.duration 1000 && are_amounts r x.renewable) (are_amounts v x.nonrenewable) fits in
    let front = and_parts (nat_le x.duration 1000) (are_amounts r x.renewable) parts.0 in
    let requests = and_parts (length x.renewable == r) (list_all (λ a. nat_le a 1000000) x.renewable) front.1 in
    let consumptions = and_parts (length x.nonrenewable == v) (list_all (λ a. nat_le a 1000000) x.nonrenewable) parts.1 in
    record {
      duration = leb-true x.duration 1000 front.0;
      renewables = eqb-true (length x.renewable) r requests.0;
      nonrenewables = eqb-true (length x.nonrenewable) v consumptions.0;
      requests = small-from x.renewable requests.1;
      consumptions = small-from x.nonrenewable consumptions.1;
    }

pub kept : (p : ProjectData) → is_project p ≡ true → IsProject p
unfolding size renewables nonrenewables modes mode_count successors
kept p h =
    let r = length p.renewable in let v = length p.nonrenewable in let n = length p.activities in
    let front_0 = is_between 1 202 n in
    let front_1 = front_0 && nat_le r 8 in
    let front_2 = front_1 && nat_le v 8 in
    let front_3 = front_2 && list_all (λ a. nat_le a 1000000) p.renewable in
    let front_4 = front_3 && list_all (λ a. nat_le a 1000000) p.nonrenewable in
    let front_5 = front_4 && are_activities r v n 1 p.activities in
    let at_6 = and_parts front_5 (nat_le (horizon p.activities) 20000) h in
    let at_5 = and_parts front_4 (are_activities r v n 1 p.activities) at_6.0 in
    let at_4 = and_parts front_3 (list_all (λ a. nat_le a 1000000) p.nonrenewable) at_5.0 in
    let at_3 = and_parts front_2 (list_all (λ a. nat_le a 1000000) p.renewable) at_4.0 in
    let at_2 = and_parts front_1 (nat_le v 8) at_3.0 in
    let at_1 = and_parts front_0 (nat_le r 8) at_2.0 in
    let sizes = between-from 1 202 n at_1.0 in
    let each : (j : ℕ) → j < n → IsActivity r v n (1 + j) (get_or p.activities j no_activity) = λ j l. activity-from r v n 1 p.activities j at_5.1 l in
    record {
      some = sizes.0;
      few = sizes.1;
      few_renewable = leb-true r 8 at_1.1;
      few_nonrenewable = leb-true v 8 at_2.1;
      capacities = small-from p.renewable at_3.1;
      stocks = small-from p.nonrenewable at_4.1;
      moded = λ j l. let many = between-from 1 10 (length (get_or p.activities j no_activity).modes) (each j l).moded in (omega arith, many.1);
      limited = λ j m l k. limited-from p j m (each j l).limited k;
      rising = λ j l. let same : 1 + j ≡ j + 1 = omega arith in rw same at (rising-from n (1 + j) [] (get_or p.activities j no_activity).successors (each j l).rising);
      short = leb-true (horizon p.activities) 20000 at_6.1;
    }
