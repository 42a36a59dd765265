-- What a script's farm holds once the turns that are still out are given back unrun.
use Rattle.std.proofs.Common.{◌≡◌, ℕ, zero, suc, ◌+◌, ◌<◌, ◌==◌, ◌&&◌, ◌||◌, Bool, true, false, cond, List, [], ◌∷◌, length, map, filter, set, get_or, Option, Some, None, refl, sym, ap, ◌∙◌, subst, arith, inl, inr, ⊎_elim}
use Rattle.std.specs.Prelude.{if◌then◌else◌}
use Rattle.std.proofs.lemmas.Bool.{cases_eq, eq-eqb, eqb-true}
use Rattle.strategy.specs.Search.{Meaning}
use Rattle.job_table.specs.Table.{JobData, is_out}
use Rattle.job_table.specs.Job.{back, phase_after, is_turn}
use Rattle.job_table.specs.declared.phase.Phase.{Phase}
use Rattle.job_table.specs.declared.phase.Phase.TheVariants.{Waiting, Out, Leaving, Dry, Closed, Cancelled}
use Rattle.farm_core.specs.declared.entry.Event.TheVariants.{Give}
use Rattle.farm_core.specs.declared.reply.Reply.{Reply}
use Rattle.farm_core.specs.declared.reply.Reply.TheVariants as reply
use Rattle.farm_core.specs.Step.{Replied, NoTurn, Nothing, Changes, done, about, may_have_run, to_give, step}
use Rattle.farm_core.specs.Tenant.{Tenant, Member, Purse, find_job, put_job, no_member, own_of, seat, with_seat, line_of, nodes_out_in}
use Rattle.farm_core.specs.World.{World, purse_in, place_in, member, purse, view, events_of, Follows, IsOfJournal}
use Rattle.farm_core.specs.Config.{purse_names, member_lines}
use Rattle.farm_core.specs.Purses.{members_of}
use Rattle.farm_core.specs.Held.{is_out_of, IsOutFor}
use Rattle.farm_core.proofs.NeedLemmas.{IsNumberOf, AreDistinct, alone_distinct}
use Rattle.farm_core.proofs.RunningLemmas.{found_seq}
use Rattle.farm_core.proofs.SeatLemmas.{each_view_is_a_seat, steps_of, purse_after, purse_stays}
use Rattle.farm_replay.specs.Closing.{unrun, turns_back, all_back}

-- ---- one job

in_after : (closed empty : Bool) → is_out (cond closed Closed (cond empty Dry Waiting)) ≡ false
in_after true empty = refl
in_after false true = refl
in_after false false = refl

phase_in : (phase : Phase) (closed : Bool) (left : ℕ) → is_out (phase_after phase closed left) ≡ false
phase_in Waiting closed left = in_after closed (left == 0)
phase_in (Out slice) closed left = in_after closed (left == 0)
phase_in (Leaving slice) closed left = refl
phase_in Dry closed left = in_after closed (left == 0)
phase_in Closed closed left = in_after closed (left == 0)
phase_in Cancelled closed left = in_after closed (left == 0)

back_in : (job : JobData) → is_out (back 0 job).phase ≡ false
back_in job = phase_in job.phase _ _

unrun_back : (job : JobData) → is_out job.phase ≡ true → unrun (back 0 job) ≡ unrun job
unrun_back job out = ap (λ b. cond b (back 0 (back 0 job)) (back 0 job)) (back_in job) ∙ sym (ap (λ b. cond b (back 0 job) job) out)

-- ---- the jobs of a member

abbrev outs : List JobData → ℕ
outs jobs = length (filter (λ (job : JobData). is_out job.phase) jobs)

record AreBack (jobs new : List JobData) : Type 0 where
  same : map unrun new ≡ map unrun jobs
  fewer : outs new + 1 ≡ outs jobs

here_back : (job : JobData) (jobs : List JobData) → is_out job.phase ≡ true → AreBack (job ∷ jobs) (back 0 job ∷ jobs)
here_back job jobs out =
    let fs = filter (λ (job : JobData). is_out job.phase) jobs in
    let none : outs (back 0 job ∷ jobs) ≡ length fs = ap (λ b. length (cond b (back 0 job ∷ fs) fs)) (back_in job) in
    let one : outs (job ∷ jobs) ≡ length (job ∷ fs) = ap (λ b. length (cond b (job ∷ fs) fs)) out in
    record {
      same = ap (λ (j : JobData). j ∷ map unrun jobs) (unrun_back job out);
      fewer = omega (arith, none, one);
    }

later_back : (job : JobData) (jobs new : List JobData) → AreBack jobs new → AreBack (job ∷ jobs) (job ∷ new)
later_back job jobs new it =
    let few = it.fewer in
    let fs = filter (λ (job : JobData). is_out job.phase) jobs in
    let gs = filter (λ (job : JobData). is_out job.phase) new in
    record {
      same = ap (λ (js : List JobData). unrun job ∷ js) it.same;
      fewer = elim (is_out job.phase) as (λ b. length (cond b (job ∷ gs) gs) + 1 ≡ length (cond b (job ∷ fs) fs)) [ true ↦ omega (arith, few) | false ↦ few ];
    }

put_back : (s : ℕ) (jobs : List JobData) (job : JobData) → find_job s jobs ≡ Some job → is_out job.phase ≡ true → AreBack jobs (put_job s (back 0 job) jobs)
put_back s [] job found out = absurd (cc)
put_back s (j ∷ jobs) job found out =
    elim (j.seq == s) as (λ b. cond b (Some j) (find_job s jobs) ≡ Some job → AreBack (j ∷ jobs) (cond b (back 0 job ∷ jobs) (j ∷ put_job s (back 0 job) jobs))) [
      | true ↦ λ e. let same : j ≡ job = cc e in subst (λ (x : JobData). AreBack (x ∷ jobs) (back 0 job ∷ jobs)) (sym same) (here_back job jobs out)
      | false ↦ λ e. later_back j jobs (put_job s (back 0 job) jobs) (put_back s jobs job e out)
    ] found

-- ---- a member, and its purse

-- the tenant's part after the give of an unrun turn that is out
abbrev given : Tenant → JobData → Tenant
given t job = record t { spent = t.spent + 0; used = t.used + 1; jobs = put_job job.seq (back 0 job) t.jobs }

given_is : (t : Tenant) (s : ℕ) (job : JobData) → find_job s t.jobs ≡ Some job → is_out job.phase ≡ true → (step t (Give s 0)).after ≡ given t job
given_is t s job found out =
    let may : may_have_run 0 job job.phase ≡ true = ap (λ b. b && (true || (0 == nodes_out_in job job.phase))) out in
    ap (λ (o : Option JobData). (done t (about (Nothing NoTurn) (to_give 0) o)).after) found
    ∙ ap (λ b. (done t (if b then Changes (back 0 job) 0 (Replied (reply.Ran 0 (line_of (back 0 job)))) else Nothing NoTurn)).after) may

given_back : (t : Tenant) (s : ℕ) (job : JobData) → find_job s t.jobs ≡ Some job → is_out job.phase ≡ true → turns_back (own_of (given t job)) ≡ turns_back (own_of t)
given_back t s job found out =
    let it = put_back s t.jobs job found out in
    let seq : job.seq ≡ s = found_seq s t.jobs job found in
    let new = put_job s (back 0 job) t.jobs in
    let few = it.fewer in
    let used : t.used + 1 + outs new ≡ t.used + outs t.jobs = omega (arith, few) in
    ap (λ n. turns_back (own_of (let it : Tenant = record t { spent = t.spent + 0; used = t.used + 1; jobs = put_job n (back 0 job) t.jobs } in it))) seq
    ∙ (λ i. record { terms = t.terms; next = t.next; used = used i; jobs = it.same i })

set_kept : (f : Member → Member) (ms : List Member) (k : ℕ) (x : Member) → f x ≡ f (get_or ms k no_member) → map f (set ms k x) ≡ map f ms
set_kept f [] k x h = refl
set_kept f (m ∷ ms) zero x h = ap (λ (y : Member). y ∷ map f ms) h
set_kept f (m ∷ ms) (suc k) x h = ap (λ (ys : List Member). f m ∷ ys) (set_kept f ms k x h)

purse_back : (p : Purse) (k s : ℕ) (job : JobData) → find_job s (seat p k).jobs ≡ Some job → is_out job.phase ≡ true
    → all_back (with_seat p k (step (seat p k) (Give s 0)).after) ≡ all_back p
purse_back p k s job found out =
    let t = seat p k in
    let spent : p.spent + 0 ≡ p.spent = omega arith in
    ap (λ (v : Tenant). all_back (with_seat p k v)) (given_is t s job found out)
    ∙ (λ i. record { granted = p.granted; spent = spent i; members = set_kept turns_back p.members k (own_of (given t job)) (given_back t s job found out) i })

-- ---- the farm

out_of_turn : (slice : ℕ) (phase : Phase) → is_turn slice phase ≡ true → is_out phase ≡ true
out_of_turn slice Waiting h = absurd (cc)
out_of_turn slice (Out s) h = refl
out_of_turn slice (Leaving s) h = refl
out_of_turn slice Dry h = absurd (cc)
out_of_turn slice Closed h = absurd (cc)
out_of_turn slice Cancelled h = absurd (cc)

-- the give of a held turn that has not run changes no part, once all turns are back
pub given_parts : (old new : World) (t s slice ran : ℕ) (m : Meaning) (reply : Reply) → t < length old.config.tenants → IsOutFor old t s slice m → ran ≡ 0
    → Follows old t (Give s ran) (Replied reply) new → (p : ℕ) → all_back (purse p new) ≡ all_back (purse p old)
given_parts old new t s slice ran m reply known it none f p =
    let q = purse_in old.config t in
    let k = place_in old.config t in
    let seen : view t old ≡ seat (purse q old) k = each_view_is_a_seat old t known in
    let steps = steps_of old new t (Give s ran) (Replied reply) f in
    let out : is_out it.job.phase ≡ true = out_of_turn slice it.job.phase it.own.turn in
    let found : find_job s (seat (purse q old) k).jobs ≡ Some it.job = ap (λ (v : Tenant). find_job s v.jobs) (sym seen) ∙ it.found in
    ⊎_elim
    (λ (own : p ≡ q).
    ap (λ n. all_back (purse n new)) own
    ∙ ap all_back (purse_after old new t (Give s ran) (Replied reply) steps)
    ∙ ap (λ n. all_back (with_seat (purse q old) k (step (view t old) (Give s n)).after)) none
    ∙ ap (λ (v : Tenant). all_back (with_seat (purse q old) k (step v (Give s 0)).after)) seen
    ∙ purse_back (purse q old) k s it.job found out
    ∙ ap (λ n. all_back (purse n old)) (sym own))
    (λ (other : p ≡ q → ⊥). ap all_back (purse_stays old new t (Give s ran) (Replied reply) steps p other))
    (cases_eq p q)

-- ---- where no turn is out

none_of : (s : ℕ) (jobs : List JobData) → (IsNumberOf s jobs → ⊥) → find_job s jobs ≡ None
none_of s [] off = refl
none_of s (j ∷ jobs) off =
    elim (j.seq == s) as (λ b. (j.seq == s) ≡ b → cond b (Some j) (find_job s jobs) ≡ None) [
      | true ↦ λ e. absurd (off (inl (eqb-true j.seq s e)))
      | false ↦ λ _. none_of s jobs (λ i. off (inr i))
    ] refl

record AreStill (jobs : List JobData) : Type 0 where
  same : map unrun jobs ≡ jobs
  none : outs jobs ≡ 0

still : (jobs : List JobData) → AreDistinct jobs → ((s : ℕ) → is_out_of (find_job s jobs) ≡ false) → AreStill jobs
still [] distinct h = record { same = refl; none = refl }
still (j ∷ jobs) distinct h =
    let own : is_out j.phase ≡ false = sym (ap (λ b. is_out_of (cond b (Some j) (find_job j.seq jobs))) (eq-eqb j.seq j.seq refl)) ∙ h j.seq in
    let rest = still jobs distinct.1
    (λ s. elim (j.seq == s) as (λ b. (j.seq == s) ≡ b → is_out_of (find_job s jobs) ≡ false) [
      | true ↦ λ e. ap is_out_of (none_of s jobs (λ i. distinct.0 (subst (λ n. IsNumberOf n jobs) (sym (eqb-true j.seq s e)) i)))
      | false ↦ λ e. sym (ap (λ b. is_out_of (cond b (Some j) (find_job s jobs))) e) ∙ h s
    ] refl) in
    let fs = filter (λ (job : JobData). is_out job.phase) jobs in
    record {
      same = ap (λ b. cond b (back 0 j) j ∷ map unrun jobs) own ∙ ap (λ (js : List JobData). j ∷ js) rest.same;
      none = ap (λ b. length (cond b (j ∷ fs) fs)) own ∙ rest.none;
    }

still_member : (m : Member) → AreDistinct m.jobs → ((s : ℕ) → is_out_of (find_job s m.jobs) ≡ false) → turns_back m ≡ m
still_member m distinct h =
    let it = still m.jobs distinct h in
    let none = it.none in
    let used : m.used + outs m.jobs ≡ m.used = omega (arith, none) in
    λ i. record { terms = m.terms; next = m.next; used = used i; jobs = it.same i }

still_members : (ms : List Member) → ((k : ℕ) → AreDistinct (get_or ms k no_member).jobs) → ((k s : ℕ) → is_out_of (find_job s (get_or ms k no_member).jobs) ≡ false)
    → map turns_back ms ≡ ms
still_members [] distinct h = refl
still_members (m ∷ ms) distinct h =
    (λ i. still_member m (distinct 0) (h 0) i ∷ still_members ms (λ k. distinct (suc k)) (λ k. h (suc k)) i)

none_at : (w : World) (ts : List ℕ) → ((t s : ℕ) → is_out_of (find_job s (member t w).jobs) ≡ false)
    → (k s : ℕ) → is_out_of (find_job s (get_or (map (λ t. member t w) ts) k no_member).jobs) ≡ false
none_at w [] h k s = refl
none_at w (t ∷ ts) h zero s = h t s
none_at w (t ∷ ts) h (suc k) s = none_at w ts h k s

-- a farm of its journal in which no job is out has its parts with all turns back
pub back_parts : (w : World) → IsOfJournal w → ((t s : ℕ) → is_out_of (find_job s (view t w).jobs) ≡ false) → (p : ℕ) → all_back (purse p w) ≡ purse p w
unfolding view purse
back_parts w replayed none p =
    let ms = map (λ t. member t w) (members_of (purse_names w.config.tenants) p) in
    let distinct : (k : ℕ) → AreDistinct (get_or ms k no_member).jobs = λ k.
    subst (λ (x : Purse). AreDistinct (seat x k).jobs) (sym (replayed p)) (alone_distinct (member_lines w.config.tenants p) (events_of w.config p w.journal) k) in
    ap (λ (xs : List Member). let it : Purse = record (purse p w) { members = xs } in it)
    (still_members ms distinct (none_at w (members_of (purse_names w.config.tenants) p) none))
