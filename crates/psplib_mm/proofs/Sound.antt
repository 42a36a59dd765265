-- What passes every check is a project.
use Rattle.std.proofs.Common.{◌≡◌, ℕ, zero, suc, ◌+◌, ◌≤◌, Bool, true, false, not, cond, ◌&&◌, ◌||◌, ltb, leb, eqb, List, [], ◌∷◌, ◌++◌, length, map, take, drop, Option, Some, None, Result, Ok, Err, refl, sym, ap, subst, ◌∙◌, arith}
use Rattle.std.specs.List.{list_all, list_any}
use Rattle.std.proofs.lemmas.Bool.{ltb-false}
use Rattle.std.proofs.lemmas.Bool.Decides.{nat_tests}
use Rattle.std.proofs.lemmas.List.{length-take, length-drop, length-map}
use Rattle.mrcpsp.specs.Project.{ModeData, ProjectData, is_between, are_amounts, is_mode, are_successors, are_activities, is_project, horizon}
use Rattle.psplib_mm.specs.declared.cell.Cell.{Cell}
use Rattle.psplib_mm.specs.declared.fault.MmFault.{MmFault}
use Rattle.psplib_mm.specs.declared.fault.SectionName.{SectionName}
use Rattle.psplib_mm.specs.declared.fault.LimitName.TheVariants as limit
use Rattle.psplib_mm.specs.Contents.{◌>>=◌, times, whole, Job, job_at, jobs_of, ModeLine, mode_at, Group, group_at, groups_at, groups_of, each, follow, job_follows, numbers_of, mode_of, activities_of, any_above, first_broken, broken}

-- ---- steps that did not fail

pub bind_ok : {A B : Type 0} (r : Result A MmFault) (f : A → Result B MmFault) (y : B) → (r >>= f) ≡ Ok y → (x : A) × (r ≡ Ok x) × (f x ≡ Ok y)
bind_ok (Ok x) f y e = (x, refl, e)
bind_ok (Err d) f y e = absurd cc

pub guard_ok : {A : Type 0} (b : Bool) (d : MmFault) (x y : A) → cond b (Err d) (Ok x) ≡ Ok y → (b ≡ false) × (x ≡ y)
guard_ok true d x y e = absurd cc
guard_ok false d x y e = (refl, cc)

pub ended_ok : {A : Type 0} (b : Bool) (d : MmFault) (x y : A) → cond b (Ok x) (Err d) ≡ Ok y → (b ≡ true) × (x ≡ y)
ended_ok true d x y e = (refl, cc)
ended_ok false d x y e = absurd cc

abbrev pub done : {A : Type 0} → A → Result A MmFault
done x = Ok x

pub ok_is : {A : Type 0} (x y : A) → done x ≡ done y → x ≡ y
ok_is x y e = cc

pub whole_ok : {X : Type 0} (name : SectionName) (read : Result (X × List Cell) MmFault) (x : X) → whole name read ≡ Ok x → (rest : List Cell) × (read ≡ Ok (x, rest))
whole_ok {X} name (Ok y) x e =
    let g = ended_ok (eqb (length y.1) 0) _ y.0 x e in
    (y.1, ap (λ (z : X). let p : X × List Cell = (z, y.1) in done p) g.1)
whole_ok name (Err d) x e = absurd cc

-- ---- tests

and_true : (a b : Bool) → a ≡ true → b ≡ true → (a && b) ≡ true
and_true true b p q = q
and_true false b p q = absurd cc

pub or_false : (a b : Bool) → (a || b) ≡ false → (a ≡ false) × (b ≡ false)
or_false true b e = absurd cc
or_false false b e = (refl, e)

not_false : (a : Bool) → not a ≡ false → a ≡ true
not_false true e = refl
not_false false e = absurd cc

not_above : (m a : ℕ) → ltb m a ≡ false → leb a m ≡ true
not_above m a e = grind (arith, nat_tests)

pub none_broken : (b1 b2 b3 b4 b5 b6 b7 b8 : Bool) → first_broken ((b1, limit.Jobs) ∷ (b2, limit.Modes) ∷ (b3, limit.Renewable) ∷ (b4, limit.Nonrenewable) ∷ (b5, limit.Duration) ∷ (b6, limit.Request) ∷ (b7, limit.Capacity) ∷ (b8, limit.Horizon) ∷ []) ≡ None → (b1 ≡ false) × (b2 ≡ false) × (b3 ≡ false) × (b4 ≡ false) × (b5 ≡ false) × (b6 ≡ false) × (b7 ≡ false) × (b8 ≡ false)
none_broken true _ _ _ _ _ _ _ e = absurd cc
none_broken false true _ _ _ _ _ _ e = absurd cc
none_broken false false true _ _ _ _ _ e = absurd cc
none_broken false false false true _ _ _ _ e = absurd cc
none_broken false false false false true _ _ _ e = absurd cc
none_broken false false false false false true _ _ e = absurd cc
none_broken false false false false false false true _ e = absurd cc
none_broken false false false false false false false true e = absurd cc
none_broken false false false false false false false false e = (refl, refl, refl, refl, refl, refl, refl, refl)

all_small : (m : ℕ) (xs : List ℕ) → any_above m xs ≡ false → list_all (λ a. leb a m) xs ≡ true
all_small m [] e = refl
all_small m (x ∷ xs) e =
    let p = or_false (ltb m x) (any_above m xs) e in
    and_true _ _ (not_above m x p.0) (all_small m xs p.1)

amounts_sound : (count : ℕ) (xs : List ℕ) → length xs ≡ count → any_above 1000000 xs ≡ false → are_amounts count xs ≡ true
amounts_sound count xs len e = and_true _ _ (grind (arith, nat_tests)) (all_small 1000000 xs e)

-- ---- the modes

abbrev pub AreSized : ℕ → ℕ → List ModeLine → Type 0
AreSized r v [] = Unit {0}
AreSized r v (m ∷ ms) = (length m.renewable ≡ r) × (length m.nonrenewable ≡ v) × AreSized r v ms

abbrev pub AllSized : ℕ → ℕ → List Group → Type 0
AllSized r v [] = Unit {0}
AllSized r v (g ∷ gs) = AreSized r v g.modes × AllSized r v gs

abbrev pub is_long : ModeData → Bool
is_long m = ltb 1000 m.duration

abbrev pub is_large : ModeData → Bool
is_large m = any_above 1000000 m.renewable || any_above 1000000 m.nonrenewable

modes_sound : (r v : ℕ) (ms : List ModeLine) → AreSized r v ms → list_any is_long (map mode_of ms) ≡ false → list_any is_large (map mode_of ms) ≡ false → list_all (is_mode r v) (map mode_of ms) ≡ true
modes_sound r v [] sized long large = refl
modes_sound r v (m ∷ ms) sized long large =
    let a = or_false (is_long (mode_of m)) (list_any is_long (map mode_of ms)) long in
    let b = or_false (is_large (mode_of m)) (list_any is_large (map mode_of ms)) large in
    let d = or_false (any_above 1000000 (numbers_of m.renewable)) (any_above 1000000 (numbers_of m.nonrenewable)) b.0 in
    and_true _ _
    (and_true _ _ (and_true _ _ (not_above 1000 m.duration.number a.0)
    (amounts_sound r (numbers_of m.renewable) (length-map m.renewable (λ c. c.number) ∙ sized.0) d.0))
    (amounts_sound v (numbers_of m.nonrenewable) (length-map m.nonrenewable (λ c. c.number) ∙ sized.1) d.1))
    (modes_sound r v ms sized.2 a.1 b.1)

-- ---- what holds of what was read

pub guard_then : {A : Type 0} (b : Bool) (d : MmFault) (r : Result A MmFault) (y : A) → cond b (Err d) r ≡ Ok y → (b ≡ false) × (r ≡ Ok y)
guard_then true d r y e = absurd cc
guard_then false d r y e = (refl, e)

mode_sized : (r v : ℕ) (cells : List Cell) (x : ModeLine × List Cell) → mode_at r v cells ≡ Ok x → (length x.0.renewable ≡ r) × (length x.0.nonrenewable ≡ v)
mode_sized r v [] x e = absurd cc
mode_sized r v (mode ∷ []) x e = absurd cc
mode_sized r v (mode ∷ duration ∷ cells) x e =
    let made : ModeLine × List Cell = (record { mode = mode; duration = duration; renewable = take r cells; nonrenewable = take v (drop r cells) }, drop v (drop r cells)) in
    let g = guard_ok (ltb (length cells) (r + v)) _ made x e in
    let long : r + v ≤ length cells = ltb-false _ _ g.0 in (
      ap (λ (y : ModeLine × List Cell). length y.0.renewable) (sym g.1) ∙ omega (arith, length-take r cells),
      ap (λ (y : ModeLine × List Cell). length y.0.nonrenewable) (sym g.1) ∙ omega (arith, length-take v (drop r cells), length-drop r cells),
    )

modes_sized : (r v n : ℕ) (cells : List Cell) (x : List ModeLine × List Cell) → times (mode_at r v) n cells ≡ Ok x → AreSized r v x.0
modes_sized r v zero cells x e =
    let made : List ModeLine × List Cell = ([], cells) in
    subst (λ (y : List ModeLine × List Cell). AreSized r v y.0) (ok_is made x e) tt
modes_sized r v (suc n) cells x e =
    let a = bind_ok (mode_at r v cells) (λ first. times (mode_at r v) n first.1 >>= λ more. Ok (first.0 ∷ more.0, more.1)) x e in
    let b = bind_ok (times (mode_at r v) n a.0.1) (λ more. Ok (a.0.0 ∷ more.0, more.1)) x a.2 in
    let s = mode_sized r v cells a.0 a.1 in
    let made : List ModeLine × List Cell = (a.0.0 ∷ b.0.0, b.0.1) in
    subst (λ (y : List ModeLine × List Cell). AreSized r v y.0) (ok_is made x b.2) (s.0, s.1, modes_sized r v n a.0.1 b.0 b.1)

pub times_length : {X : Type 0} (step : List Cell → Result (X × List Cell) MmFault) (n : ℕ) (cells : List Cell) (x : List X × List Cell) → times step n cells ≡ Ok x → length x.0 ≡ n
times_length {X} step zero cells x e =
    let made : List X × List Cell = ([], cells) in
    ap (λ (y : List X × List Cell). length y.0) (sym (ok_is made x e))
times_length {X} step (suc n) cells x e =
    let a = bind_ok (step cells) (λ first. times step n first.1 >>= λ more. Ok (first.0 ∷ more.0, more.1)) x e in
    let b = bind_ok (times step n a.0.1) (λ more. Ok (a.0.0 ∷ more.0, more.1)) x a.2 in
    let made : List X × List Cell = (a.0.0 ∷ b.0.0, b.0.1) in
    ap (λ (y : List X × List Cell). length y.0) (sym (ok_is made x b.2)) ∙ ap suc (times_length step n a.0.1 b.0 b.1)

group_sized : (r v n : ℕ) (cells : List Cell) (x : Group × List Cell) → group_at r v n cells ≡ Ok x → AreSized r v x.0.modes
group_sized r v n [] x e = absurd cc
group_sized r v n (job ∷ cells) x e =
    let a = bind_ok (times (mode_at r v) n cells) (λ modes. Ok (record { job = job; modes = modes.0 }, modes.1)) x e in
    let made : Group × List Cell = (record { job = job; modes = a.0.0 }, a.0.1) in
    subst (λ (y : Group × List Cell). AreSized r v y.0.modes) (ok_is made x a.2) (modes_sized r v n cells a.0 a.1)

pub groups_sized : (r v : ℕ) (jobs : List Job) (cells : List Cell) (x : List Group × List Cell) → groups_at r v jobs cells ≡ Ok x → AllSized r v x.0 × (length x.0 ≡ length jobs)
groups_sized r v [] cells x e =
    let made : List Group × List Cell = ([], cells) in
    subst (λ (y : List Group × List Cell). AllSized r v y.0 × (length y.0 ≡ 0)) (ok_is made x e) (tt, refl)
groups_sized r v (j ∷ jobs) cells x e =
    let a = bind_ok (group_at r v j.modes.number cells) (λ first. groups_at r v jobs first.1 >>= λ more. Ok (first.0 ∷ more.0, more.1)) x e in
    let b = bind_ok (groups_at r v jobs a.0.1) (λ more. Ok (a.0.0 ∷ more.0, more.1)) x a.2 in
    let others = groups_sized r v jobs a.0.1 b.0 b.1 in
    let made : List Group × List Cell = (a.0.0 ∷ b.0.0, b.0.1) in
    subst (λ (y : List Group × List Cell). AllSized r v y.0 × (length y.0 ≡ suc (length jobs))) (ok_is made x b.2) ((group_sized r v j.modes.number cells a.0 a.1, others.0), ap suc others.1)

-- ---- the successors

any_named : (n : ℕ) (before : List Cell) → list_any (λ t. eqb t.number n) before ≡ list_any (λ t. eqb t n) (numbers_of before)
any_named n [] = refl
any_named n (c ∷ cells) = ap (λ (b : Bool). eqb c.number n || b) (any_named n cells)

named_push : (before : List Cell) (s : Cell) → numbers_of (before ++ s ∷ []) ≡ numbers_of before ++ s.number ∷ []
named_push [] s = refl
named_push (c ∷ cells) s = ap (λ (ns : List ℕ). c.number ∷ ns) (named_push cells s)

follow_sound : (n i : ℕ) (before cells : List Cell) → follow n i before cells ≡ Ok tt → are_successors n i (numbers_of before) (numbers_of cells) ≡ true
follow_sound n i before [] e = refl
follow_sound n i before (s ∷ cells) e =
    let g = guard_then (leb s.number i || ltb n s.number || list_any (λ t. eqb t.number s.number) before) _ (follow n i (before ++ s ∷ []) cells) tt e in
    let p = or_false (leb s.number i || ltb n s.number) (list_any (λ t. eqb t.number s.number) before) g.0 in
    let q = or_false (leb s.number i) (ltb n s.number) p.0 in
    let rest = rw named_push at (follow_sound n i (before ++ s ∷ []) cells g.1) in
    let fresh : not (list_any (λ t. eqb t s.number) (numbers_of before)) ≡ true = ap not (sym (any_named s.number before) ∙ p.1) in
    let above : ltb i s.number ≡ true = grind (arith, nat_tests, q.0) in
    and_true _ _ (and_true _ _ (and_true _ _ above (not_above n s.number q.1)) fresh) rest

-- ---- the activities

acts_sound : (n r v i : ℕ) (jobs : List Job) (groups : List Group) → AllSized r v groups → each (job_follows n) i jobs ≡ Ok tt
    → list_any (λ a. not (is_between 1 10 (length a.modes))) (activities_of jobs groups) ≡ false
    → list_any (λ a. list_any is_long a.modes) (activities_of jobs groups) ≡ false
    → list_any (λ a. list_any is_large a.modes) (activities_of jobs groups) ≡ false
    → are_activities r v n i (activities_of jobs groups) ≡ true
acts_sound n r v i [] groups sized follows few long large = refl
acts_sound n r v i (j ∷ jobs) [] sized follows few long large = refl
acts_sound n r v i (j ∷ jobs) (g ∷ groups) sized follows few long large =
    let f = bind_ok (job_follows n i j) (λ _. each (job_follows n) (i + 1) jobs) tt follows in
    let a = or_false (not (is_between 1 10 (length (map mode_of g.modes)))) (list_any (λ a. not (is_between 1 10 (length a.modes))) (activities_of jobs groups)) few in
    let b = or_false (list_any is_long (map mode_of g.modes)) (list_any (λ a. list_any is_long a.modes) (activities_of jobs groups)) long in
    let d = or_false (list_any is_large (map mode_of g.modes)) (list_any (λ a. list_any is_large a.modes) (activities_of jobs groups)) large in
    and_true _ _ (and_true _ _ (and_true _ _ (not_false _ a.0) (modes_sound r v g.modes sized.0 b.0 d.0)) (follow_sound n i [] j.successors f.1))
    (acts_sound n r v (i + 1) jobs groups sized.1 f.2 a.1 b.1 d.1)

pub length-activities_of : (jobs : List Job) (groups : List Group) → length groups ≡ length jobs → length (activities_of jobs groups) ≡ length jobs
length-activities_of [] groups e = refl
length-activities_of (j ∷ jobs) [] e = e
length-activities_of (j ∷ jobs) (g ∷ groups) e = ap suc (length-activities_of jobs groups (omega arith))

pub contents_sound : (n r v : ℕ) (precedence requests availabilities : List Cell) (jobs : List Job) (groups : List Group) (p : ProjectData)
    → jobs_of n precedence ≡ Ok jobs → groups_of r v jobs requests ≡ Ok groups → r + v ≤ length availabilities → each (job_follows n) 1 jobs ≡ Ok tt
    → p ≡ record { activities = activities_of jobs groups; renewable = numbers_of (take r availabilities); nonrenewable = numbers_of (take v (drop r availabilities)) }
    → broken p ≡ None → is_project p ≡ true
contents_sound n r v precedence requests availabilities jobs groups p read_jobs read_groups enough follows made unbroken =
    let w = whole_ok _ (times job_at n precedence) jobs read_jobs in
    let count = times_length job_at n precedence _ w.1 in
    let u = whole_ok _ (groups_at r v jobs requests) groups read_groups in
    let s = groups_sized r v jobs requests _ u.1 in
    let acts : length p.activities ≡ n = ap (λ (q : ProjectData). length q.activities) made ∙ length-activities_of jobs groups s.1 ∙ count in
    let first : length p.renewable ≡ r = ap (λ (q : ProjectData). length q.renewable) made ∙ length-map (take r availabilities) (λ c. c.number) ∙ omega (arith, length-take r availabilities) in
    let second : length p.nonrenewable ≡ v = ap (λ (q : ProjectData). length q.nonrenewable) made ∙ length-map (take v (drop r availabilities)) (λ c. c.number) ∙ omega (arith, length-take v (drop r availabilities), length-drop r availabilities) in
    let ok = none_broken (not (is_between 1 202 (length p.activities))) (list_any (λ a. not (is_between 1 10 (length a.modes))) p.activities) (ltb 8 (length p.renewable)) (ltb 8 (length p.nonrenewable))
    (list_any (λ a. list_any is_long a.modes) p.activities) (list_any (λ a. list_any is_large a.modes) p.activities) (any_above 1000000 p.renewable || any_above 1000000 p.nonrenewable) (ltb 20000 (horizon p.activities)) unbroken in
    let cap = or_false (any_above 1000000 p.renewable) (any_above 1000000 p.nonrenewable) ok.6 in
    let few : list_any (λ a. not (is_between 1 10 (length a.modes))) p.activities ≡ false = ok.1 in
    let long : list_any (λ a. list_any is_long a.modes) p.activities ≡ false = ok.4 in
    let large : list_any (λ a. list_any is_large a.modes) p.activities ≡ false = ok.5 in
    let acts_are : p.activities ≡ activities_of jobs groups = ap (λ (q : ProjectData). q.activities) made in
    let whole_acts : are_activities (length p.renewable) (length p.nonrenewable) (length p.activities) 1 p.activities ≡ true = rw (acts, first, second, acts_are) (acts_sound n r v 1 jobs groups s.0 follows (rw acts_are at few) (rw acts_are at long) (rw acts_are at large)) in
    and_true _ _ (and_true _ _ (and_true _ _ (and_true _ _ (and_true _ _ (and_true _ _ (not_false _ ok.0) (not_above 8 (length p.renewable) ok.2)) (not_above 8 (length p.nonrenewable) ok.3))
    (all_small 1000000 p.renewable cap.0)) (all_small 1000000 p.nonrenewable cap.1)) whole_acts) (not_above 20000 (horizon p.activities) ok.7)

pub not_none : (b : Bool) (p : ProjectData) (r : Option ProjectData) → b ≡ true → r ≡ cond b (Some p) None → r ≡ None → ⊥
not_none true p r e is none = absurd cc
not_none false p r e is none = absurd cc

pub some_is : (b : Bool) (p q : ProjectData) (r : Option ProjectData) → b ≡ true → r ≡ cond b (Some p) None → r ≡ Some q → p ≡ q
some_is true p q r e is some =
    let same : Some p ≡ Some q = sym is ∙ some in
    cc
some_is false p q r e is some = absurd cc
