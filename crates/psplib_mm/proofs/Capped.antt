-- Numbers above the greatest u32 mean the same as that number, since a text has fewer words.
use Rattle.std.proofs.Common.{◌≡◌, ℕ, zero, suc, ◌+◌, ◌<◌, ◌≤◌, Bool, true, false, not, cond, ◌||◌, ◌⊎◌, Option, Some, None, ltb, leb, eqb, min, List, [], ◌∷◌, ◌++◌, length, map, take, drop, Result, Ok, Err, refl, sym, ap, ◌∙◌, inl, inr, arith}
use Rattle.std.specs.List.{list_any}
use Rattle.std.proofs.lemmas.Bool.{cases_lt, ltb-false}
use Rattle.std.proofs.lemmas.Bool.Decides.{nat_tests}
use Rattle.std.proofs.lemmas.List.{length-map, length-drop, take-map, drop-map, take_min, drop_min}
use Rattle.psplib_mm.specs.Scan.{cap, capped}
use Rattle.psplib_mm.specs.declared.cell.Cell.{Cell}
use Rattle.psplib_mm.specs.declared.fault.MmFault.{MmFault}
use Rattle.psplib_mm.specs.declared.fault.MmFault.TheVariants as fault
use Rattle.psplib_mm.specs.declared.fault.SectionName.{SectionName}
use Rattle.psplib_mm.specs.declared.fault.SectionName.TheVariants.{PrecedenceRelations}
use Rattle.psplib_mm.specs.declared.fault.LimitName.{LimitName}
use Rattle.psplib_mm.specs.declared.fault.LimitName.TheVariants as limit
use Rattle.psplib_mm.specs.Contents.{◌>>=◌, uneven, times, whole, Job, job_at, jobs_of, each, in_place, job_in_place, follow, job_follows, any_above, first_broken, broken, unless_broken, limited}
use Rattle.mrcpsp.specs.Project.{ModeData, ActivityData, ProjectData, is_between, longest, horizon}
use Rattle.psplib_mm.proofs.Sound.{guard_ok, none_broken, or_false, is_long, is_large}

-- few enough
abbrev pub IsFew : {A : Type 0} → List A → Type 0
IsFew xs = length xs < 4294967295

abbrev pub all : List Cell → List Cell
all cells = map capped cells

-- ---- lists

pub take_cap : (k : ℕ) (cells : List Cell) → IsFew cells → take (cap k) (all cells) ≡ all (take k cells)
take_cap k cells few =
    let same : min (cap k) (length cells) ≡ min k (length cells) = omega arith in
    take-map capped (cap k) cells ∙ ap (λ (cs : List Cell). all cs) (sym (take_min (cap k) cells) ∙ ap (λ (i : ℕ). take i cells) same ∙ take_min k cells)

pub drop_cap : (k : ℕ) (cells : List Cell) → IsFew cells → drop (cap k) (all cells) ≡ all (drop k cells)
drop_cap k cells few =
    let same : min (cap k) (length cells) ≡ min k (length cells) = omega arith in
    drop-map capped (cap k) cells ∙ ap (λ (cs : List Cell). all cs) (sym (drop_min (cap k) cells) ∙ ap (λ (i : ℕ). drop i cells) same ∙ drop_min k cells)

-- ---- steps

-- what a step of the capped cells gives, where the step of the cells gives read
abbrev pub onward : {X : Type 0} → (X → X) → Result (X × List Cell) MmFault → Result (X × List Cell) MmFault
onward g read = read >>= λ x. Ok (g x.0, all x.1)

-- a step takes at least a cell, and gives of the capped cells what it gives of the cells
pub record IsStep (X : Type 0) (g : X → X) (capped_step step : List Cell → Result (X × List Cell) MmFault) : Type 0 where
  pub same : (cells : List Cell) → IsFew cells → capped_step (all cells) ≡ onward g (step cells)
  pub takes : (cells : List Cell) (x : X × List Cell) → step cells ≡ Ok x → length x.1 < length cells

abbrev pub with_first : {X : Type 0} → X → Result (List X × List Cell) MmFault → Result (List X × List Cell) MmFault
with_first x read = read >>= λ more. Ok (x ∷ more.0, more.1)

abbrev then_times : {X : Type 0} → (List Cell → Result (X × List Cell) MmFault) → ℕ → Result (X × List Cell) MmFault → Result (List X × List Cell) MmFault
then_times step n read = read >>= λ first. with_first first.0 (times step n first.1)

abbrev pub mapped : {X : Type 0} → (X → X) → Result (List X × List Cell) MmFault → Result (List X × List Cell) MmFault
mapped g read = read >>= λ x. Ok (map g x.0, all x.1)

module _ (X : Type 0) (g : X → X) (capped_step step : List Cell → Result (X × List Cell) MmFault) (is : IsStep X g capped_step step) where
  enough_step : (n m : ℕ) (cells : List Cell) (ih : (rest : List Cell) → length rest < n → length rest < m → times step n rest ≡ times step m rest) → length cells < suc n → length cells < suc m → (r : Result (X × List Cell) MmFault) → step cells ≡ r
      → then_times step n r ≡ then_times step m r
  enough_step n m cells ih a b (Ok x) e =
      let less = is.takes cells x e in
      ap (with_first x.0) (ih x.1 (omega arith) (omega arith))
  enough_step n m cells ih a b (Err d) e = refl

  -- more times than there are cells
  times_enough : (n m : ℕ) (cells : List Cell) → length cells < n → length cells < m → times step n cells ≡ times step m cells
  times_enough zero m cells a b = absurd (omega arith)
  times_enough (suc n) zero cells a b = absurd (omega arith)
  times_enough (suc n) (suc m) cells a b = enough_step n m cells (λ rest. times_enough n m rest) a b (step cells) refl

  regroup : (x : X) (read : Result (List X × List Cell) MmFault) → with_first (g x) (mapped g read) ≡ mapped g (with_first x read)
  regroup x (Ok y) = refl
  regroup x (Err d) = refl

  capped_step_of : (n : ℕ) (cells : List Cell) (ih : (rest : List Cell) → IsFew rest → times capped_step n (all rest) ≡ mapped g (times step n rest)) → IsFew cells → (r : Result (X × List Cell) MmFault) → step cells ≡ r
      → then_times capped_step n (onward g r) ≡ mapped g (then_times step n r)
  capped_step_of n cells ih few (Ok x) e =
      let less = is.takes cells x e in
      ap (with_first (g x.0)) (ih x.1 (omega arith)) ∙ regroup x.0 (times step n x.1)
  capped_step_of n cells ih few (Err d) e = refl

  times_capped : (n : ℕ) (cells : List Cell) → IsFew cells → times capped_step n (all cells) ≡ mapped g (times step n cells)
  times_capped zero cells few = refl
  times_capped (suc n) cells few = ap (then_times capped_step n) (is.same cells few) ∙ capped_step_of n cells (λ rest. times_capped n rest) few (step cells) refl

  pub times_cap : (n : ℕ) (cells : List Cell) → IsFew cells → times capped_step (cap n) (all cells) ≡ mapped g (times step n cells)
  times_cap n cells few =
      elim (cases_lt n 4294967295) [
        | inl lt ↦ let e : cap n ≡ n = omega arith in rw e (times_capped n cells few)
        | inr le ↦ times_capped (cap n) cells few ∙ ap (mapped g) (times_enough (cap n) n cells (omega arith) (omega arith))
      ]

pub whole_capped : {X : Type 0} (g : X → X) (name : SectionName) (read : Result (X × List Cell) MmFault) → whole name (read >>= λ x. Ok (g x.0, all x.1)) ≡ (whole name read >>= λ x. Ok (g x))
whole_capped g name (Err d) = refl
whole_capped {X} g name (Ok x) = ap (λ (n : ℕ). let r : Result X MmFault = cond (eqb n 0) (Ok (g x.0)) (uneven name) in r) (length-map x.1 capped) ∙ go (eqb (length x.1) 0)
  where
    go : (b : Bool) → cond b (Ok (g x.0)) (uneven name) ≡ (cond b (Ok x.0) (uneven name) >>= λ y. Ok (g y))
    go true = refl
    go false = refl

-- ---- jobs

abbrev pub capped_job : Job → Job
capped_job j = record { job = capped j.job; modes = capped j.modes; successors = all j.successors }

job_same : (cells : List Cell) → IsFew cells → job_at (all cells) ≡ onward capped_job (job_at cells)
job_same [] few = refl
job_same (job ∷ []) few = refl
job_same (job ∷ modes ∷ []) few = refl
job_same (job ∷ modes ∷ count ∷ cells) few =
    let less : IsFew cells = omega arith in
    let test : ltb (length (all cells)) (cap count.number) ≡ ltb (length cells) count.number = grind (arith, nat_tests, length-map cells capped) in
    rw (test, take_cap count.number cells less, drop_cap count.number cells less) (go (ltb (length cells) count.number))
  where
    go : (b : Bool) → cond b (uneven PrecedenceRelations) (Ok (record { job = capped job; modes = capped modes; successors = all (take count.number cells) }, all (drop count.number cells)))
        ≡ onward capped_job (cond b (uneven PrecedenceRelations) (Ok (record { job = job; modes = modes; successors = take count.number cells }, drop count.number cells)))
    go true = refl
    go false = refl

job_takes : (cells : List Cell) (x : Job × List Cell) → job_at cells ≡ Ok x → length x.1 < length cells
job_takes [] x e = absurd cc
job_takes (job ∷ []) x e = absurd cc
job_takes (job ∷ modes ∷ []) x e = absurd cc
job_takes (job ∷ modes ∷ count ∷ cells) x e =
    let made : Job × List Cell = (record { job = job; modes = modes; successors = take count.number cells }, drop count.number cells) in
    let g = guard_ok (ltb (length cells) count.number) _ made x e in
    let same : length (drop count.number cells) ≡ length x.1 = ap (λ (y : Job × List Cell). length y.1) g.1 in
    omega (arith, length-drop count.number cells)

pub job_step : IsStep Job capped_job job_at job_at
job_step = record { same = job_same; takes = job_takes }

pub jobs_capped : (n : ℕ) (cells : List Cell) → IsFew cells → jobs_of (cap n) (all cells) ≡ (jobs_of n cells >>= λ jobs. Ok (map capped_job jobs))
jobs_capped n cells few =
    ap (λ (read : Result (List Job × List Cell) MmFault). whole PrecedenceRelations read) (times_cap Job capped_job job_at job_at job_step n cells few)
    ∙ whole_capped (λ (jobs : List Job). map capped_job jobs) PrecedenceRelations (times job_at n cells)

-- ---- places

pub in_place_capped : (i : ℕ) (c : Cell) → i < 4294967295 → in_place i (capped c) ≡ in_place i c
in_place_capped i c lt =
    let test : eqb (cap c.number) i ≡ eqb c.number i = grind (arith, nat_tests) in
    ap (λ (b : Bool). let r : Result (Unit {0}) MmFault = cond b (Ok tt) (Err (fault.Numbering c.line)) in r) test

pub each_capped : {X : Type 0} (g : X → X) (check' check : ℕ → X → Result (Unit {0}) MmFault) → ((i : ℕ) (x : X) → i < 4294967295 → check' i (g x) ≡ check i x)
    → (i : ℕ) (xs : List X) → i + length xs ≤ 4294967295 → each check' i (map g xs) ≡ each check i xs
each_capped g check' check same i [] le = refl
each_capped g check' check same i (x ∷ xs) le =
    ap (λ (r : Result (Unit {0}) MmFault). r >>= λ _. each check' (i + 1) (map g xs)) (same i x (omega arith))
    ∙ ap (λ (r : Result (Unit {0}) MmFault). check i x >>= λ _. r) (each_capped g check' check same (i + 1) xs (omega arith))

pub jobs_in_place_capped : (jobs : List Job) → IsFew jobs → each job_in_place 1 (map capped_job jobs) ≡ each job_in_place 1 jobs
jobs_in_place_capped jobs few = each_capped capped_job job_in_place job_in_place (λ i j lt. in_place_capped i j.job lt) 1 jobs (omega arith)

-- ---- successors

or_middle : (a b c : Bool) → b ≡ true → (a || b || c) ≡ true
or_middle true b c e = refl
or_middle false true c e = refl
or_middle false false c e = absurd cc

pub capped_small : (c : Cell) (n : ℕ) → c.number ≤ n → n < 4294967295 → capped c ≡ c
capped_small c n le lt =
    let e : cap c.number ≡ c.number = omega arith in
    ap (λ (k : ℕ). let d : Cell = record { line = c.line; number = k } in d) e

pub follow_capped : (n i : ℕ) (before cells : List Cell) → n < 4294967295 → follow n i before (all cells) ≡ follow n i before cells
follow_capped n i before [] lt = refl
follow_capped n i before (s ∷ cells) lt =
    elim (cases_lt n s.number) [
      | inl above ↦
          let one : ltb n (cap s.number) ≡ true = grind (arith, nat_tests) in
          let two : ltb n s.number ≡ true = grind (arith, nat_tests) in
          rw (or_middle (leb (cap s.number) i) (ltb n (cap s.number)) (list_any (λ t. eqb t.number (cap s.number)) before) one, or_middle (leb s.number i) (ltb n s.number) (list_any (λ t. eqb t.number s.number) before) two) refl
      | inr le ↦
          let same : capped s ≡ s = capped_small s n le lt in
          ap (λ (c : Cell). follow n i before (c ∷ all cells)) same ∙ ap (λ (r : Result (Unit {0}) MmFault). let whole_of : Result (Unit {0}) MmFault = cond (leb s.number i || ltb n s.number || list_any (λ t. eqb t.number s.number) before) (Err (fault.Successor s.line)) r in whole_of) (follow_capped n i (before ++ s ∷ []) cells lt)
    ]

pub all_follow_capped : (n : ℕ) (jobs : List Job) → n < 4294967295 → IsFew jobs → each (job_follows n) 1 (map capped_job jobs) ≡ each (job_follows n) 1 jobs
all_follow_capped n jobs lt few = each_capped capped_job (job_follows n) (job_follows n) (λ i j _. follow_capped n i [] j.successors lt) 1 jobs (omega arith)

-- ---- limits

abbrev pub capped_mode : ModeData → ModeData
capped_mode m = record { duration = cap m.duration; renewable = map cap m.renewable; nonrenewable = map cap m.nonrenewable }

abbrev pub capped_activity : ActivityData → ActivityData
capped_activity a = record { modes = map capped_mode a.modes; successors = a.successors }

abbrev pub capped_project : ProjectData → ProjectData
capped_project p = record { activities = map capped_activity p.activities; renewable = map cap p.renewable; nonrenewable = map cap p.nonrenewable }

-- a test that sees no difference
any_same : {X : Type 0} (g : X → X) (p : X → Bool) → ((x : X) → p (g x) ≡ p x) → (xs : List X) → list_any p (map g xs) ≡ list_any p xs
any_same g p same [] = refl
any_same g p same (x ∷ xs) = rw (same x, any_same g p same xs) refl

above_same : (m : ℕ) (xs : List ℕ) → m < 4294967295 → any_above m (map cap xs) ≡ any_above m xs
above_same m [] lt = refl
above_same m (x ∷ xs) lt =
    let one : ltb m (cap x) ≡ ltb m x = grind (arith, nat_tests) in
    rw (one, above_same m xs lt) refl

few_same : (m : ModeData) → is_large (capped_mode m) ≡ is_large m
few_same m = rw (above_same 1000000 m.renewable (omega arith), above_same 1000000 m.nonrenewable (omega arith)) refl

long_same : (m : ModeData) → is_long (capped_mode m) ≡ is_long m
long_same m = grind (arith, nat_tests)

longest_same : (ms : List ModeData) → list_any is_long ms ≡ false → longest (map capped_mode ms) ≡ longest ms
longest_same [] e = refl
longest_same (m ∷ ms) e =
    let p = or_false (is_long m) (list_any is_long ms) e in
    let le : m.duration ≤ 1000 = ltb-false _ _ p.0 in
    let one : cap m.duration ≡ m.duration = omega arith in
    rw (one, longest_same ms p.1) refl

horizon_same : (xs : List ActivityData) → list_any (λ a. list_any is_long a.modes) xs ≡ false → horizon (map capped_activity xs) ≡ horizon xs
horizon_same [] e = refl
horizon_same (a ∷ xs) e =
    let p = or_false (list_any is_long a.modes) (list_any (λ a. list_any is_long a.modes) xs) e in
    rw (longest_same a.modes p.0, horizon_same xs p.1) refl

amounts_same : (xs : List ℕ) → any_above 1000000 xs ≡ false → map cap xs ≡ xs
amounts_same [] e = refl
amounts_same (x ∷ xs) e =
    let p = or_false (ltb 1000000 x) (any_above 1000000 xs) e in
    let le : x ≤ 1000000 = ltb-false _ _ p.0 in
    let one : cap x ≡ x = omega arith in
    rw (one, amounts_same xs p.1) refl

mode_same_at : (m : ModeData) → is_long m ≡ false → is_large m ≡ false → capped_mode m ≡ m
mode_same_at m long large =
    let p = or_false (any_above 1000000 m.renewable) (any_above 1000000 m.nonrenewable) large in
    let le : m.duration ≤ 1000 = ltb-false _ _ long in
    let one : cap m.duration ≡ m.duration = omega arith in
    rw (one, amounts_same m.renewable p.0, amounts_same m.nonrenewable p.1) refl

modes_same : (ms : List ModeData) → list_any is_long ms ≡ false → list_any is_large ms ≡ false → map capped_mode ms ≡ ms
modes_same [] long large = refl
modes_same (m ∷ ms) long large =
    let a = or_false (is_long m) (list_any is_long ms) long in
    let b = or_false (is_large m) (list_any is_large ms) large in
    rw (mode_same_at m a.0 b.0, modes_same ms a.1 b.1) refl

acts_same : (xs : List ActivityData) → list_any (λ a. list_any is_long a.modes) xs ≡ false → list_any (λ a. list_any is_large a.modes) xs ≡ false → map capped_activity xs ≡ xs
acts_same [] long large = refl
acts_same (x ∷ xs) long large =
    let a = or_false (list_any is_long x.modes) (list_any (λ a. list_any is_long a.modes) xs) long in
    let b = or_false (list_any is_large x.modes) (list_any (λ a. list_any is_large a.modes) xs) large in
    rw (modes_same x.modes a.0 b.0, acts_same xs a.1 b.1) refl

first_same : (b1 b2 b3 b4 b5 b6 b7 x y : Bool) → (b5 ≡ true) ⊎ (x ≡ y)
    → first_broken ((b1, limit.Jobs) ∷ (b2, limit.Modes) ∷ (b3, limit.Renewable) ∷ (b4, limit.Nonrenewable) ∷ (b5, limit.Duration) ∷ (b6, limit.Request) ∷ (b7, limit.Capacity) ∷ (x, limit.Horizon) ∷ [])
    ≡ first_broken ((b1, limit.Jobs) ∷ (b2, limit.Modes) ∷ (b3, limit.Renewable) ∷ (b4, limit.Nonrenewable) ∷ (b5, limit.Duration) ∷ (b6, limit.Request) ∷ (b7, limit.Capacity) ∷ (y, limit.Horizon) ∷ [])
first_same b1 b2 b3 b4 true b6 b7 x y h = refl
first_same b1 b2 b3 b4 false b6 b7 x y (inl e) = absurd cc
first_same b1 b2 b3 b4 false b6 b7 x y (inr e) = rw e refl

either : (b : Bool) → (b ≡ true) ⊎ (b ≡ false)
either true = inl refl
either false = inr refl

abbrev is_miscounted : ActivityData → Bool
is_miscounted a = not (is_between 1 10 (length a.modes))

abbrev has_long : ActivityData → Bool
has_long a = list_any is_long a.modes

abbrev has_large : ActivityData → Bool
has_large a = list_any is_large a.modes

broken_same : (p : ProjectData) → broken (capped_project p) ≡ broken p
broken_same p =
    let b2 : list_any is_miscounted (map capped_activity p.activities) ≡ list_any is_miscounted p.activities = any_same capped_activity is_miscounted (λ a. ap (λ (n : ℕ). not (is_between 1 10 n)) (length-map a.modes capped_mode)) p.activities in
    let b5 : list_any has_long (map capped_activity p.activities) ≡ list_any has_long p.activities = any_same capped_activity has_long (λ a. any_same capped_mode is_long long_same a.modes) p.activities in
    let b6 : list_any has_large (map capped_activity p.activities) ≡ list_any has_large p.activities = any_same capped_activity has_large (λ a. any_same capped_mode is_large few_same a.modes) p.activities in
    let last : (list_any has_long p.activities ≡ true) ⊎ (ltb 20000 (horizon (map capped_activity p.activities)) ≡ ltb 20000 (horizon p.activities)) = elim (either (list_any has_long p.activities)) [ inl e ↦ inl e | inr e ↦ inr (ap (λ (h : ℕ). ltb 20000 h) (horizon_same p.activities e)) ] in
    rw (length-map p.activities capped_activity, b2, length-map p.renewable cap, length-map p.nonrenewable cap, b5, b6, above_same 1000000 p.renewable (omega arith), above_same 1000000 p.nonrenewable (omega arith))
    (first_same (not (is_between 1 202 (length p.activities))) (list_any is_miscounted p.activities) (ltb 8 (length p.renewable)) (ltb 8 (length p.nonrenewable)) (list_any has_long p.activities) (list_any has_large p.activities) (any_above 1000000 p.renewable || any_above 1000000 p.nonrenewable) _ _ last)

project_same : (p : ProjectData) → broken p ≡ None → capped_project p ≡ p
project_same p e =
    let ok = none_broken (not (is_between 1 202 (length p.activities))) (list_any is_miscounted p.activities) (ltb 8 (length p.renewable)) (ltb 8 (length p.nonrenewable))
    (list_any has_long p.activities) (list_any has_large p.activities) (any_above 1000000 p.renewable || any_above 1000000 p.nonrenewable) (ltb 20000 (horizon p.activities)) e in
    let c = or_false (any_above 1000000 p.renewable) (any_above 1000000 p.nonrenewable) ok.6 in
    rw (acts_same p.activities ok.4 ok.5, amounts_same p.renewable c.0, amounts_same p.nonrenewable c.1) refl

limited_by : (p : ProjectData) (b : Option LimitName) → broken p ≡ b → unless_broken b (capped_project p) ≡ unless_broken b p
limited_by p None e = ap (λ (q : ProjectData). let r : Result ProjectData MmFault = Ok q in r) (project_same p e)
limited_by p (Some name) e = refl

pub limited_capped : (p : ProjectData) → limited (capped_project p) ≡ limited p
limited_capped p = ap (λ (b : Option LimitName). unless_broken b (capped_project p)) (broken_same p) ∙ limited_by p (broken p) refl
