-- The lemmas of `Capped` for the section on requests, and for the whole contents.
use Rattle.std.proofs.Common.{◌≡◌, ℕ, zero, suc, ◌+◌, ◌<◌, ◌≤◌, Bool, true, false, cond, ◌||◌, ltb, leb, eqb, List, [], ◌∷◌, ◌++◌, length, map, take, drop, Result, Ok, Err, refl, ap, subst, ◌∙◌, arith}
use Rattle.std.specs.List.{list_any}
use Rattle.std.proofs.lemmas.Bool.{ltb-false}
use Rattle.std.proofs.lemmas.Bool.Decides.{nat_tests}
use Rattle.std.proofs.lemmas.List.{length-map, length-drop}
use Rattle.mrcpsp.specs.Project.{ActivityData, ProjectData}
use Rattle.psplib_mm.specs.Scan.{cap, capped}
use Rattle.psplib_mm.specs.declared.cell.Cell.{Cell}
use Rattle.psplib_mm.specs.declared.fault.MmFault.{MmFault}
use Rattle.psplib_mm.specs.declared.fault.SectionName.TheVariants.{RequestsDurations, ResourceAvailabilities}
use Rattle.psplib_mm.specs.Contents.{◌>>=◌, uneven, times, whole, Job, job_at, jobs_of, ModeLine, mode_at, Group, group_at, groups_at, groups_of, each, job_in_place, mode_in_place, group_in_place, in_place, follow, job_follows, are_enough, numbers_of, mode_of, activities_of, limited, contents}
use Rattle.psplib_mm.proofs.Sound.{bind_ok, guard_ok, guard_then, ok_is, whole_ok, times_length, or_false}
use Rattle.psplib_mm.proofs.Capped.{IsFew, all, take_cap, drop_cap, onward, IsStep, mapped, with_first, times_cap, whole_capped, capped_job, job_step, jobs_capped, in_place_capped, each_capped, jobs_in_place_capped, all_follow_capped, capped_mode, capped_activity, capped_project, limited_capped}

abbrev pub capped_line : ModeLine → ModeLine
capped_line m = record { mode = capped m.mode; duration = capped m.duration; renewable = all m.renewable; nonrenewable = all m.nonrenewable }

abbrev pub capped_group : Group → Group
capped_group g = record { job = capped g.job; modes = map capped_line g.modes }

mode_same : (r v : ℕ) (cells : List Cell) → IsFew cells → mode_at (cap r) (cap v) (all cells) ≡ onward capped_line (mode_at r v cells)
mode_same r v [] few = refl
mode_same r v (mode ∷ []) few = refl
mode_same r v (mode ∷ duration ∷ cells) few =
    let less : IsFew cells = omega arith in
    let lesser : IsFew (drop r cells) = omega (arith, length-drop r cells) in
    let test : ltb (length (all cells)) (cap r + cap v) ≡ ltb (length cells) (r + v) = grind (arith, nat_tests, length-map cells capped) in
    rw (test, drop_cap r cells less, take_cap r cells less, take_cap v (drop r cells) lesser, drop_cap v (drop r cells) lesser) (go (ltb (length cells) (r + v)))
  where
    go : (b : Bool) → cond b (uneven RequestsDurations) (Ok (record { mode = capped mode; duration = capped duration; renewable = all (take r cells); nonrenewable = all (take v (drop r cells)) }, all (drop v (drop r cells))))
        ≡ onward capped_line (cond b (uneven RequestsDurations) (Ok (record { mode = mode; duration = duration; renewable = take r cells; nonrenewable = take v (drop r cells) }, drop v (drop r cells))))
    go true = refl
    go false = refl

mode_takes : (r v : ℕ) (cells : List Cell) (x : ModeLine × List Cell) → mode_at r v cells ≡ Ok x → length x.1 < length cells
mode_takes r v [] x e = absurd cc
mode_takes r v (mode ∷ []) x e = absurd cc
mode_takes r v (mode ∷ duration ∷ cells) x e =
    let made : ModeLine × List Cell = (record { mode = mode; duration = duration; renewable = take r cells; nonrenewable = take v (drop r cells) }, drop v (drop r cells)) in
    let g = guard_ok (ltb (length cells) (r + v)) _ made x e in
    let same : length (drop v (drop r cells)) ≡ length x.1 = ap (λ (y : ModeLine × List Cell). length y.1) g.1 in
    omega (arith, length-drop r cells, length-drop v (drop r cells))

mode_step : (r v : ℕ) → IsStep ModeLine capped_line (mode_at (cap r) (cap v)) (mode_at r v)
mode_step r v = record { same = mode_same r v; takes = mode_takes r v }

-- what was read and what is left is no more than there was
times_bound : {X : Type 0} (step : List Cell → Result (X × List Cell) MmFault) (takes : (cells : List Cell) (x : X × List Cell) → step cells ≡ Ok x → length x.1 < length cells)
    → (n : ℕ) (cells : List Cell) (x : List X × List Cell) → times step n cells ≡ Ok x → length x.0 + length x.1 ≤ length cells
times_bound {X} step takes zero cells x e =
    let made : List X × List Cell = ([], cells) in
    subst (λ (y : List X × List Cell). length y.0 + length y.1 ≤ length cells) (ok_is made x e) (omega arith)
times_bound {X} step takes (suc n) cells x e =
    let a = bind_ok (step cells) (λ first. times step n first.1 >>= λ more. Ok (first.0 ∷ more.0, more.1)) x e in
    let b = bind_ok (times step n a.0.1) (λ more. Ok (a.0.0 ∷ more.0, more.1)) x a.2 in
    let made : List X × List Cell = (a.0.0 ∷ b.0.0, b.0.1) in
    let less = takes cells a.0 a.1 in
    let rest = times_bound step takes n a.0.1 b.0 b.1 in
    subst (λ (y : List X × List Cell). length y.0 + length y.1 ≤ length cells) (ok_is made x b.2) (omega arith)

-- ---- groups

abbrev as_group : Cell → Result (List ModeLine × List Cell) MmFault → Result (Group × List Cell) MmFault
as_group job read = read >>= λ modes. Ok (record { job = job; modes = modes.0 }, modes.1)

as_group_capped : (job : Cell) (read : Result (List ModeLine × List Cell) MmFault) → as_group (capped job) (mapped capped_line read) ≡ onward capped_group (as_group job read)
as_group_capped job (Ok x) = refl
as_group_capped job (Err d) = refl

group_same : (r v n : ℕ) (cells : List Cell) → IsFew cells → group_at (cap r) (cap v) (cap n) (all cells) ≡ onward capped_group (group_at r v n cells)
group_same r v n [] few = refl
group_same r v n (job ∷ cells) few =
    let less : IsFew cells = omega arith in
    ap (as_group (capped job)) (times_cap ModeLine capped_line (mode_at (cap r) (cap v)) (mode_at r v) (mode_step r v) n cells less) ∙ as_group_capped job (times (mode_at r v) n cells)

group_bound : (r v n : ℕ) (cells : List Cell) (x : Group × List Cell) → group_at r v n cells ≡ Ok x → length x.0.modes + length x.1 < length cells
group_bound r v n [] x e = absurd cc
group_bound r v n (job ∷ cells) x e =
    let a = bind_ok (times (mode_at r v) n cells) (λ modes. Ok (record { job = job; modes = modes.0 }, modes.1)) x e in
    let made : Group × List Cell = (record { job = job; modes = a.0.0 }, a.0.1) in
    let rest = times_bound (mode_at r v) (mode_takes r v) n cells a.0 a.1 in
    subst (λ (y : Group × List Cell). length y.0.modes + length y.1 < suc (length cells)) (ok_is made x a.2) (omega arith)

abbrev then_groups : ℕ → ℕ → List Job → Result (Group × List Cell) MmFault → Result (List Group × List Cell) MmFault
then_groups r v jobs read = read >>= λ first. with_first first.0 (groups_at r v jobs first.1)

regroup : (x : Group) (read : Result (List Group × List Cell) MmFault) → with_first (capped_group x) (mapped capped_group read) ≡ mapped capped_group (with_first x read)
regroup x (Ok y) = refl
regroup x (Err d) = refl

groups_step : (r v n : ℕ) (jobs : List Job) (cells : List Cell) (ih : (rest : List Cell) → IsFew rest → groups_at (cap r) (cap v) (map capped_job jobs) (all rest) ≡ mapped capped_group (groups_at r v jobs rest)) → IsFew cells
    → (read : Result (Group × List Cell) MmFault) → group_at r v n cells ≡ read → then_groups (cap r) (cap v) (map capped_job jobs) (onward capped_group read) ≡ mapped capped_group (then_groups r v jobs read)
groups_step r v n jobs cells ih few (Ok x) e =
    let less = group_bound r v n cells x e in
    ap (with_first (capped_group x.0)) (ih x.1 (omega arith)) ∙ regroup x.0 (groups_at r v jobs x.1)
groups_step r v n jobs cells ih few (Err d) e = refl

groups_same : (r v : ℕ) (jobs : List Job) (cells : List Cell) → IsFew cells → groups_at (cap r) (cap v) (map capped_job jobs) (all cells) ≡ mapped capped_group (groups_at r v jobs cells)
groups_same r v [] cells few = refl
groups_same r v (j ∷ jobs) cells few = ap (then_groups (cap r) (cap v) (map capped_job jobs)) (group_same r v j.modes.number cells few) ∙ groups_step r v j.modes.number jobs cells (λ rest. groups_same r v jobs rest) few (group_at r v j.modes.number cells) refl

pub groups_capped : (r v : ℕ) (jobs : List Job) (cells : List Cell) → IsFew cells → groups_of (cap r) (cap v) (map capped_job jobs) (all cells) ≡ (groups_of r v jobs cells >>= λ groups. Ok (map capped_group groups))
groups_capped r v jobs cells few =
    ap (λ (read : Result (List Group × List Cell) MmFault). whole RequestsDurations read) (groups_same r v jobs cells few)
    ∙ whole_capped (λ (groups : List Group). map capped_group groups) RequestsDurations (groups_at r v jobs cells)

abbrev AllFew : List Group → Type 0
AllFew [] = Unit {0}
AllFew (g ∷ gs) = IsFew g.modes × AllFew gs

groups_bound : (r v : ℕ) (jobs : List Job) (cells : List Cell) (x : List Group × List Cell) → IsFew cells → groups_at r v jobs cells ≡ Ok x → AllFew x.0 × (length x.0 + length x.1 ≤ length cells)
groups_bound r v [] cells x few e =
    let made : List Group × List Cell = ([], cells) in
    subst (λ (y : List Group × List Cell). AllFew y.0 × (length y.0 + length y.1 ≤ length cells)) (ok_is made x e) (tt, omega arith)
groups_bound r v (j ∷ jobs) cells x few e =
    let a = bind_ok (group_at r v j.modes.number cells) (λ first. groups_at r v jobs first.1 >>= λ more. Ok (first.0 ∷ more.0, more.1)) x e in
    let b = bind_ok (groups_at r v jobs a.0.1) (λ more. Ok (a.0.0 ∷ more.0, more.1)) x a.2 in
    let first = group_bound r v j.modes.number cells a.0 a.1 in
    let others = groups_bound r v jobs a.0.1 b.0 (omega arith) b.1 in
    let made : List Group × List Cell = (a.0.0 ∷ b.0.0, b.0.1) in
    subst (λ (y : List Group × List Cell). AllFew y.0 × (length y.0 + length y.1 ≤ length cells)) (ok_is made x b.2) ((omega arith, others.0), omega arith)

groups_in_place_capped : (i : ℕ) (groups : List Group) → AllFew groups → i + length groups ≤ 4294967295 → each group_in_place i (map capped_group groups) ≡ each group_in_place i groups
groups_in_place_capped i [] few le = refl
groups_in_place_capped i (g ∷ groups) few le =
    let inner : IsFew g.modes = few.0 in
    let modes : each mode_in_place 1 (map capped_line g.modes) ≡ each mode_in_place 1 g.modes = each_capped capped_line mode_in_place mode_in_place (λ k m lt. in_place_capped k m.mode lt) 1 g.modes (omega arith) in
    let job : in_place i (capped g.job) ≡ in_place i g.job = in_place_capped i g.job (omega arith) in
    let rest = groups_in_place_capped (i + 1) groups few.1 (omega arith) in
    ap (λ (a : Result (Unit {0}) MmFault). (a >>= λ _. each mode_in_place 1 (map capped_line g.modes)) >>= λ _. each group_in_place (i + 1) (map capped_group groups)) job
    ∙ ap (λ (a : Result (Unit {0}) MmFault). (in_place i g.job >>= λ _. a) >>= λ _. each group_in_place (i + 1) (map capped_group groups)) modes
    ∙ ap (λ (a : Result (Unit {0}) MmFault). (in_place i g.job >>= λ _. each mode_in_place 1 g.modes) >>= λ _. a) rest

-- ---- activities

numbers_capped : (cells : List Cell) → numbers_of (all cells) ≡ map cap (numbers_of cells)
numbers_capped [] = refl
numbers_capped (c ∷ cells) = ap (λ (ns : List ℕ). cap c.number ∷ ns) (numbers_capped cells)

modes_capped : (ms : List ModeLine) → map mode_of (map capped_line ms) ≡ map capped_mode (map mode_of ms)
modes_capped [] = refl
modes_capped (m ∷ ms) = rw (numbers_capped m.renewable, numbers_capped m.nonrenewable, modes_capped ms) refl

named_same : (n i : ℕ) (before cells : List Cell) → n < 4294967295 → follow n i before cells ≡ Ok tt → numbers_of (all cells) ≡ numbers_of cells
named_same n i before [] lt e = refl
named_same n i before (s ∷ cells) lt e =
    let g = guard_then (leb s.number i || ltb n s.number || list_any (λ t. eqb t.number s.number) before) _ (follow n i (before ++ s ∷ []) cells) tt e in
    let p = or_false (leb s.number i || ltb n s.number) (list_any (λ t. eqb t.number s.number) before) g.0 in
    let q = or_false (leb s.number i) (ltb n s.number) p.0 in
    let le : s.number ≤ n = ltb-false _ _ q.1 in
    let one : cap s.number ≡ s.number = omega arith in
    rw (one, named_same n i (before ++ s ∷ []) cells lt g.1) refl

acts_capped : (n i : ℕ) (jobs : List Job) (groups : List Group) → n < 4294967295 → each (job_follows n) i jobs ≡ Ok tt → activities_of (map capped_job jobs) (map capped_group groups) ≡ map capped_activity (activities_of jobs groups)
acts_capped n i [] groups lt e = refl
acts_capped n i (j ∷ jobs) [] lt e = refl
acts_capped n i (j ∷ jobs) (g ∷ groups) lt e =
    let f = bind_ok (job_follows n i j) (λ _. each (job_follows n) (i + 1) jobs) tt e in
    rw (modes_capped g.modes, named_same n i [] j.successors lt f.1, acts_capped n (i + 1) jobs groups lt f.2) refl

-- ---- the contents

pub under : {A B : Type 0} (read : Result A MmFault) (g : A → A) (f' f : A → Result B MmFault) → ((x : A) → read ≡ Ok x → f' (g x) ≡ f x) → ((read >>= λ x. Ok (g x)) >>= f') ≡ (read >>= f)
under (Ok x) g f' f h = h x refl
under (Err d) g f' f h = refl

pub under_same : {A B : Type 0} (read' read : Result A MmFault) (f' f : A → Result B MmFault) → read' ≡ read → ((x : A) → read ≡ Ok x → f' x ≡ f x) → (read' >>= f') ≡ (read >>= f)
under_same read' (Ok x) f' f e h = ap (λ r. r >>= f') e ∙ h x refl
under_same read' (Err d) f' f e h = ap (λ r. r >>= f') e

abbrev pub at_groups : ℕ → ℕ → ℕ → List Cell → List Job → List Group → Result ProjectData MmFault
at_groups n r v s jobs groups = do
  _ ← are_enough (r + v) s
  _ ← each job_in_place 1 jobs
  _ ← each group_in_place 1 groups
  _ ← each (job_follows n) 1 jobs
  limited (record { activities = activities_of jobs groups; renewable = numbers_of (take r s); nonrenewable = numbers_of (take v (drop r s)) })

abbrev pub at_jobs : ℕ → ℕ → ℕ → List Cell → List Cell → List Job → Result ProjectData MmFault
at_jobs n r v q s jobs = groups_of r v jobs q >>= λ groups. at_groups n r v s jobs groups

enough_same : (r v : ℕ) (s : List Cell) → IsFew s → are_enough (cap r + cap v) (all s) ≡ are_enough (r + v) s
enough_same r v s few =
    let test : ltb (length (all s)) (cap r + cap v) ≡ ltb (length s) (r + v) = grind (arith, nat_tests, length-map s capped) in
    ap (λ (b : Bool). let x : Result (Unit {0}) MmFault = cond b (uneven ResourceAvailabilities) (Ok tt) in x) test

project_capped : (n r v : ℕ) (s : List Cell) (jobs : List Job) (groups : List Group) → IsFew s → n < 4294967295 → each (job_follows n) 1 jobs ≡ Ok tt
    → limited (record { activities = activities_of (map capped_job jobs) (map capped_group groups); renewable = numbers_of (take (cap r) (all s)); nonrenewable = numbers_of (take (cap v) (drop (cap r) (all s))) })
    ≡ limited (record { activities = activities_of jobs groups; renewable = numbers_of (take r s); nonrenewable = numbers_of (take v (drop r s)) })
project_capped n r v s jobs groups few lt e =
    let given : ProjectData = record { activities = activities_of jobs groups; renewable = numbers_of (take r s); nonrenewable = numbers_of (take v (drop r s)) } in
    let lesser : IsFew (drop r s) = omega (arith, length-drop r s) in
    let a = acts_capped n 1 jobs groups lt e in
    let b : numbers_of (take (cap r) (all s)) ≡ map cap (numbers_of (take r s)) = ap (λ (cs : List Cell). numbers_of cs) (take_cap r s few) ∙ numbers_capped (take r s) in
    let c : numbers_of (take (cap v) (drop (cap r) (all s))) ≡ map cap (numbers_of (take v (drop r s))) = ap (λ (cs : List Cell). numbers_of (take (cap v) cs)) (drop_cap r s few) ∙ ap (λ (cs : List Cell). numbers_of cs) (take_cap v (drop r s) lesser) ∙ numbers_capped (take v (drop r s)) in
    let whole_of : (acts : List ActivityData) (ren non : List ℕ) → acts ≡ map capped_activity given.activities → ren ≡ map cap given.renewable → non ≡ map cap given.nonrenewable → limited (record { activities = acts; renewable = ren; nonrenewable = non }) ≡ limited (capped_project given) = λ acts ren non x y z. rw (x, y, z) refl in
    whole_of _ _ _ a b c ∙ limited_capped given

pub contents_capped : (n r v : ℕ) (p q s : List Cell) → IsFew p → IsFew q → IsFew s → contents (cap n) (cap r) (cap v) (all p) (all q) (all s) ≡ contents n r v p q s
contents_capped n r v p q s few_p few_q few_s =
    ap (λ (read : Result (List Job) MmFault). read >>= λ jobs. at_jobs (cap n) (cap r) (cap v) (all q) (all s) jobs) (jobs_capped n p few_p)
    ∙ under (jobs_of n p) (λ jobs. map capped_job jobs) (at_jobs (cap n) (cap r) (cap v) (all q) (all s)) (at_jobs n r v q s) (λ jobs read_jobs. jobs_part jobs read_jobs)
  where
    jobs_part : (jobs : List Job) → jobs_of n p ≡ Ok jobs → at_jobs (cap n) (cap r) (cap v) (all q) (all s) (map capped_job jobs) ≡ at_jobs n r v q s jobs
    jobs_part jobs read_jobs =
        let w = whole_ok _ (times job_at n p) jobs read_jobs in
        let count : length jobs ≡ n = times_length job_at n p _ w.1 in
        let bound = times_bound job_at job_step.takes n p _ w.1 in
        let lt : n < 4294967295 = omega arith in
        let few_jobs : IsFew jobs = omega arith in
        let same_n : cap n ≡ n = omega arith in
        ap (λ (read : Result (List Group) MmFault). read >>= λ groups. at_groups (cap n) (cap r) (cap v) (all s) (map capped_job jobs) groups) (groups_capped r v jobs q few_q)
        ∙ under (groups_of r v jobs q) (λ groups. map capped_group groups) (at_groups (cap n) (cap r) (cap v) (all s) (map capped_job jobs)) (at_groups n r v s jobs)
        (λ groups read_groups.
        let u = whole_ok _ (groups_at r v jobs q) groups read_groups in
        let g = groups_bound r v jobs q _ few_q u.1 in
        under_same _ (are_enough (r + v) s) _ _ (enough_same r v s few_s) (λ _ _.
        under_same _ (each job_in_place 1 jobs) _ _ (jobs_in_place_capped jobs few_jobs) (λ _ _.
        under_same _ (each group_in_place 1 groups) _ _ (groups_in_place_capped 1 groups g.0 (omega arith)) (λ _ _.
        under_same _ (each (job_follows n) 1 jobs) _ _ (ap (λ (k : ℕ). each (job_follows k) 1 (map capped_job jobs)) same_n ∙ all_follow_capped n jobs lt few_jobs) (λ _ e.
        project_capped n r v s jobs groups few_s lt e)))))
