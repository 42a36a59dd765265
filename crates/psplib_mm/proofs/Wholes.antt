-- The contents, where the sections' records are there and well numbered, and the limits in two parts.
use Rattle.std.proofs.Common.{◌≡◌, ℕ, ◌+◌, ◌≤◌, Bool, true, false, not, ◌||◌, ltb, List, [], ◌∷◌, length, map, take, drop, Option, Some, None, Result, Ok, Err, refl, ap, subst, ◌∙◌, arith}
use Rattle.std.specs.Option.{option_or}
use Rattle.std.specs.List.{list_any}
use Rattle.std.proofs.lemmas.Bool.{ltb-false}
use Rattle.std.proofs.lemmas.Bool.Decides.{nat_tests}
use Rattle.std.proofs.lemmas.List.{length-map, length-take, length-drop}
use Rattle.mrcpsp.specs.Project.{ActivityData, ProjectData, is_between, is_project, horizon}
use Rattle.psplib_mm.specs.declared.cell.Cell.{Cell}
use Rattle.psplib_mm.specs.declared.fault.MmFault.{MmFault}
use Rattle.psplib_mm.specs.declared.fault.MmFault.TheVariants as fault
use Rattle.psplib_mm.specs.declared.fault.SectionName.TheVariants.{ResourceAvailabilities}
use Rattle.psplib_mm.specs.declared.fault.LimitName.{LimitName}
use Rattle.psplib_mm.specs.declared.fault.LimitName.TheVariants as limit
use Rattle.psplib_mm.specs.Contents.{◌>>=◌, times, Job, jobs_of, mode_at, Group, group_at, groups_at, groups_of, each, job_in_place, group_in_place, job_follows, are_enough, numbers_of, mode_of, activities_of, any_above, first_broken, broken, unless_broken, limited, contents}
use Rattle.psplib_mm.specs.Scan.{broken_count, broken_amount}
use Rattle.psplib_mm.proofs.Sound.{bind_ok, guard_ok, ok_is, whole_ok, times_length, groups_sized, length-activities_of, is_long, is_large, contents_sound}
use Rattle.psplib_mm.proofs.CappedGroups.{at_jobs, at_groups}

-- the project that the records spell
abbrev pub project_of : ℕ → ℕ → List Job → List Group → List Cell → ProjectData
project_of r v jobs groups s = record { activities = activities_of jobs groups; renewable = numbers_of (take r s); nonrenewable = numbers_of (take v (drop r s)) }

-- what the sections' records spell, where nothing is wrong in them
pub record AreRead (n r v : ℕ) (p q s : List Cell) (jobs : List Job) (groups : List Group) : Type 0 where
  pub jobs_are : jobs_of n p ≡ Ok jobs
  pub groups_are : groups_of r v jobs q ≡ Ok groups
  pub enough : are_enough (r + v) s ≡ Ok tt
  pub jobs_placed : each job_in_place 1 jobs ≡ Ok tt
  pub groups_placed : each group_in_place 1 groups ≡ Ok tt
  pub follow : each (job_follows n) 1 jobs ≡ Ok tt

bound : {A B : Type 0} (read : Result A MmFault) (x : A) (f : A → Result B MmFault) → read ≡ Ok x → (read >>= f) ≡ f x
bound read x f e = ap (λ r. r >>= f) e

abbrev past : Result (Unit {0}) MmFault → Result ProjectData MmFault → Result ProjectData MmFault
past check rest = check >>= λ _. rest

contents_are : (n r v : ℕ) (p q s : List Cell) (jobs : List Job) (groups : List Group) → AreRead n r v p q s jobs groups → contents n r v p q s ≡ limited (project_of r v jobs groups s)
contents_are n r v p q s jobs groups read =
    bound (jobs_of n p) jobs (at_jobs n r v q s) read.jobs_are
    ∙ bound (groups_of r v jobs q) groups (at_groups n r v s jobs) read.groups_are
    ∙ ap (λ (c : Result (Unit {0}) MmFault). past c (past (each job_in_place 1 jobs) (past (each group_in_place 1 groups) (past (each (job_follows n) 1 jobs) (limited (project_of r v jobs groups s)))))) read.enough
    ∙ ap (λ (c : Result (Unit {0}) MmFault). past c (past (each group_in_place 1 groups) (past (each (job_follows n) 1 jobs) (limited (project_of r v jobs groups s))))) read.jobs_placed
    ∙ ap (λ (c : Result (Unit {0}) MmFault). past c (past (each (job_follows n) 1 jobs) (limited (project_of r v jobs groups s)))) read.groups_placed
    ∙ ap (λ (c : Result (Unit {0}) MmFault). past c (limited (project_of r v jobs groups s))) read.follow

-- ---- the numbers of modes

abbrev AreCounted : List Job → List Group → Type 0
AreCounted [] groups = Unit {0}
AreCounted (j ∷ jobs) [] = ⊥
AreCounted (j ∷ jobs) (g ∷ groups) = (length g.modes ≡ j.modes.number) × AreCounted jobs groups

group_counted : (r v n : ℕ) (cells : List Cell) (x : Group × List Cell) → group_at r v n cells ≡ Ok x → length x.0.modes ≡ n
group_counted r v n [] x e = absurd cc
group_counted r v n (job ∷ cells) x e =
    let a = bind_ok (times (mode_at r v) n cells) (λ modes. Ok (record { job = job; modes = modes.0 }, modes.1)) x e in
    let made : Group × List Cell = (record { job = job; modes = a.0.0 }, a.0.1) in
    subst (λ (y : Group × List Cell). length y.0.modes ≡ n) (ok_is made x a.2) (times_length (mode_at r v) n cells a.0 a.1)

groups_counted : (r v : ℕ) (jobs : List Job) (cells : List Cell) (x : List Group × List Cell) → groups_at r v jobs cells ≡ Ok x → AreCounted jobs x.0
groups_counted r v [] cells x e = tt
groups_counted r v (j ∷ jobs) cells x e =
    let a = bind_ok (group_at r v j.modes.number cells) (λ first. groups_at r v jobs first.1 >>= λ more. Ok (first.0 ∷ more.0, more.1)) x e in
    let b = bind_ok (groups_at r v jobs a.0.1) (λ more. Ok (a.0.0 ∷ more.0, more.1)) x a.2 in
    let made : List Group × List Cell = (a.0.0 ∷ b.0.0, b.0.1) in
    subst (λ (y : List Group × List Cell). AreCounted (j ∷ jobs) y.0) (ok_is made x b.2) (group_counted r v j.modes.number cells a.0 a.1, groups_counted r v jobs a.0.1 b.0 b.1)

abbrev is_miscounted : ActivityData → Bool
is_miscounted a = not (is_between 1 10 (length a.modes))

abbrev is_job_miscounted : Job → Bool
is_job_miscounted j = not (is_between 1 10 j.modes.number)

miscounted_same : (jobs : List Job) (groups : List Group) → AreCounted jobs groups → list_any is_miscounted (activities_of jobs groups) ≡ list_any is_job_miscounted jobs
miscounted_same [] groups are = refl
miscounted_same (j ∷ jobs) [] are = absurd are
miscounted_same (j ∷ jobs) (g ∷ groups) are =
    let count : length (map mode_of g.modes) ≡ j.modes.number = length-map g.modes mode_of ∙ are.0 in
    ap (λ (n : ℕ). not (is_between 1 10 n) || list_any is_miscounted (activities_of jobs groups)) count
    ∙ ap (λ (b : Bool). not (is_between 1 10 j.modes.number) || b) (miscounted_same jobs groups are.1)

-- ---- the limits

first_split : (b1 b2 b3 b4 b5 b6 b7 b8 : Bool)
    → first_broken ((b1, limit.Jobs) ∷ (b2, limit.Modes) ∷ (b3, limit.Renewable) ∷ (b4, limit.Nonrenewable) ∷ (b5, limit.Duration) ∷ (b6, limit.Request) ∷ (b7, limit.Capacity) ∷ (b8, limit.Horizon) ∷ [])
    ≡ option_or (first_broken ((b1, limit.Jobs) ∷ (b2, limit.Modes) ∷ (b3, limit.Renewable) ∷ (b4, limit.Nonrenewable) ∷ [])) (first_broken ((b5, limit.Duration) ∷ (b6, limit.Request) ∷ (b7, limit.Capacity) ∷ (b8, limit.Horizon) ∷ []))
first_split true _ _ _ _ _ _ _ = refl
first_split false true _ _ _ _ _ _ = refl
first_split false false true _ _ _ _ _ = refl
first_split false false false true _ _ _ _ = refl
first_split false false false false _ _ _ _ = refl

pub length-jobs : (n r v : ℕ) (p q s : List Cell) (jobs : List Job) (groups : List Group) → AreRead n r v p q s jobs groups → length (activities_of jobs groups) ≡ length jobs
length-jobs n r v p q s jobs groups read =
    let u = whole_ok _ (groups_at r v jobs q) groups read.groups_are in
    length-activities_of jobs groups (groups_sized r v jobs q _ u.1).1

enough_is : (count : ℕ) (s : List Cell) → are_enough count s ≡ Ok tt → count ≤ length s
enough_is count s e = ltb-false _ _ (guard_ok (ltb (length s) count) (fault.Count ResourceAvailabilities) tt tt e).0

pub broken_is : (n r v : ℕ) (p q s : List Cell) (jobs : List Job) (groups : List Group) → AreRead n r v p q s jobs groups
    → broken (project_of r v jobs groups s) ≡ option_or (broken_count jobs r v) (broken_amount (project_of r v jobs groups s))
broken_is n r v p q s jobs groups read =
    let u = whole_ok _ (groups_at r v jobs q) groups read.groups_are in
    let given : ProjectData = project_of r v jobs groups s in
    let enough = enough_is (r + v) s read.enough in
    let acts = length-jobs n r v p q s jobs groups read in
    let modes = miscounted_same jobs groups (groups_counted r v jobs q _ u.1) in
    let first : length given.renewable ≡ r = length-map (take r s) (λ c. c.number) ∙ omega (arith, length-take r s) in
    let second : length given.nonrenewable ≡ v = length-map (take v (drop r s)) (λ c. c.number) ∙ omega (arith, length-take v (drop r s), length-drop r s) in
    let counts : (k l m : ℕ) (b : Bool) → length given.activities ≡ k → list_any is_miscounted given.activities ≡ b → length given.renewable ≡ l → length given.nonrenewable ≡ m
    → first_broken ((not (is_between 1 202 (length given.activities)), limit.Jobs) ∷ (list_any is_miscounted given.activities, limit.Modes) ∷ (ltb 8 (length given.renewable), limit.Renewable) ∷ (ltb 8 (length given.nonrenewable), limit.Nonrenewable) ∷ [])
    ≡ first_broken ((not (is_between 1 202 k), limit.Jobs) ∷ (b, limit.Modes) ∷ (ltb 8 l, limit.Renewable) ∷ (ltb 8 m, limit.Nonrenewable) ∷ []) = λ k l m b x y z t. rw (x, y, z, t) refl in
    first_split (not (is_between 1 202 (length given.activities))) (list_any is_miscounted given.activities) (ltb 8 (length given.renewable)) (ltb 8 (length given.nonrenewable))
    (list_any (λ a. list_any is_long a.modes) given.activities) (list_any (λ a. list_any is_large a.modes) given.activities) (any_above 1000000 given.renewable || any_above 1000000 given.nonrenewable) (ltb 20000 (horizon given.activities))
    ∙ ap (λ (o : Option LimitName). option_or o (broken_amount given)) (counts _ _ _ _ acts modes first second)

few_jobs : (b1 b2 b3 b4 : Bool) → first_broken ((b1, limit.Jobs) ∷ (b2, limit.Modes) ∷ (b3, limit.Renewable) ∷ (b4, limit.Nonrenewable) ∷ []) ≡ None → b1 ≡ false
few_jobs true _ _ _ e = absurd cc
few_jobs false _ _ _ e = refl

between_le : (n : ℕ) → not (is_between 1 202 n) ≡ false → n ≤ 202
between_le n e = grind (arith, nat_tests)

-- few jobs, where no limit on numbers is broken
pub jobs_few : (jobs : List Job) (r v : ℕ) → broken_count jobs r v ≡ None → length jobs ≤ 202
jobs_few jobs r v e = between_le (length jobs) (few_jobs (not (is_between 1 202 (length jobs))) (list_any is_job_miscounted jobs) (ltb 8 r) (ltb 8 v) e)

-- ---- the whole

pub count_breaks : (n r v : ℕ) (p q s : List Cell) (jobs : List Job) (groups : List Group) (name : LimitName) → AreRead n r v p q s jobs groups → broken_count jobs r v ≡ Some name → contents n r v p q s ≡ Err (fault.Limit name)
count_breaks n r v p q s jobs groups name read e =
    let given : ProjectData = project_of r v jobs groups s in
    contents_are n r v p q s jobs groups read
    ∙ ap (λ (o : Option LimitName). unless_broken o given) (broken_is n r v p q s jobs groups read ∙ ap (λ (o : Option LimitName). option_or o (broken_amount given)) e)

pub amount_breaks : (n r v : ℕ) (p q s : List Cell) (jobs : List Job) (groups : List Group) (name : LimitName) → AreRead n r v p q s jobs groups → broken_count jobs r v ≡ None → broken_amount (project_of r v jobs groups s) ≡ Some name → contents n r v p q s ≡ Err (fault.Limit name)
amount_breaks n r v p q s jobs groups name read none e =
    let given : ProjectData = project_of r v jobs groups s in
    contents_are n r v p q s jobs groups read
    ∙ ap (λ (o : Option LimitName). unless_broken o given) (broken_is n r v p q s jobs groups read ∙ ap (λ (o : Option LimitName). option_or o (broken_amount given)) none ∙ e)

pub none_breaks : (n r v : ℕ) (p q s : List Cell) (jobs : List Job) (groups : List Group) → AreRead n r v p q s jobs groups → broken_count jobs r v ≡ None → broken_amount (project_of r v jobs groups s) ≡ None → broken (project_of r v jobs groups s) ≡ None
none_breaks n r v p q s jobs groups read none e =
    let given : ProjectData = project_of r v jobs groups s in
    broken_is n r v p q s jobs groups read ∙ ap (λ (o : Option LimitName). option_or o (broken_amount given)) none ∙ e

pub contents_whole : (n r v : ℕ) (p q s : List Cell) (jobs : List Job) (groups : List Group) → AreRead n r v p q s jobs groups → broken_count jobs r v ≡ None → broken_amount (project_of r v jobs groups s) ≡ None → contents n r v p q s ≡ Ok (project_of r v jobs groups s)
contents_whole n r v p q s jobs groups read none e =
    contents_are n r v p q s jobs groups read ∙ ap (λ (o : Option LimitName). unless_broken o (project_of r v jobs groups s)) (none_breaks n r v p q s jobs groups read none e)

pub whole_sound : (n r v : ℕ) (p q s : List Cell) (jobs : List Job) (groups : List Group) → AreRead n r v p q s jobs groups → broken_count jobs r v ≡ None → broken_amount (project_of r v jobs groups s) ≡ None → is_project (project_of r v jobs groups s) ≡ true
whole_sound n r v p q s jobs groups read none e =
    contents_sound n r v p q s jobs groups (project_of r v jobs groups s) read.jobs_are read.groups_are (enough_is (r + v) s read.enough) read.follow refl (none_breaks n r v p q s jobs groups read none e)
