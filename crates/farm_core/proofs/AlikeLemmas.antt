-- What their gifts make of the jobs of a purse's members, once they are at rest.
use Rattle.std.proofs.Common.{◌≡◌, ◌≢◌, ℕ, ◌+◌, ◌-◌, ◌<◌, ◌≤◌, List, [], ◌∷◌, ◌++◌, length, map, get_or, Bool, true, false, cond, ◌==◌, Some, refl, sym, ap, ◌∙◌, subst, arith, ⊎_elim, ◌⊎◌, eq-eqb}
use Rattle.std.specs.Prelude.{⊤}
use Rattle.std.specs.List.{sum_by}
use Rattle.std.proofs.lemmas.Bool.{cond_both, cond-true, cases_lt, cases_Bool, both_ways, eqb-true}
use Rattle.std.proofs.lemmas.Bool.Decides.{nat_tests}
use Rattle.std.proofs.lemmas.List.{length-map, get_or-map}
use Rattle.std.proofs.lemmas.List.Sums.{sum_by-cons, sum_by-set, get_or-le-sum_by}
use mathlib.Core.List.{map-map}
use Rattle.mrcpsp.specs.Numbers.{first_from}
use Rattle.strategy.specs.Outcome.{is_closed}
use Rattle.strategy.specs.declared.plan.Plan.{Plan}
use Rattle.job_table.specs.Table.{JobData, is_waiting, is_out, is_ended}
use Rattle.job_table.specs.Job.{gone_out, is_here, phase_after, back}
use Rattle.job_table.specs.declared.phase.Phase.{Phase}
use Rattle.job_table.specs.declared.phase.Phase.TheVariants.{Waiting, Out, Leaving, Dry, Closed, Cancelled}
use Rattle.farm_core.specs.declared.config.TenantLine.{TenantLine}
use Rattle.farm_core.specs.declared.entry.Event.{Event}
use Rattle.farm_core.specs.declared.entry.Event.TheVariants.{Submit, Fund, Status, Fetch, Cancel, Forget, Ledger, Take, Give}
use Rattle.farm_core.specs.declared.reply.Reply.TheVariants as reply
use Rattle.farm_core.specs.Purses.{purse_of, members_of}
use Rattle.farm_core.specs.Config.{ConfigData, purse_names, member_lines, granted_by}
use Rattle.farm_core.specs.Tenant.{Tenant, Member, Purse, new_member, newcomers, held_by, no_member, seat, own_of, with_seat, held, find_job, put_job, line_of}
use Rattle.farm_core.specs.Step.{Answer, Replied, Sent, NoTurn, Step, Changes, done, step, fresh_job, may_have_run}
use Rattle.farm_core.specs.World.{World, Call, Steps, Leads, Run, opened, opened_purse, member, purse, view, purse_in, place_in}
use Rattle.farm_core.specs.Need.{nodes_for, accepted, asked_by, are_gifts, AreAtRest, members_in, AllMembers, HasRested, AreAlike, EachEndsAlike}
use Rattle.farm_core.proofs.HomeLemmas.{going_here}
use Rattle.farm_core.proofs.DecisionLemmas.{Cases, each_decision, unasked}
use Rattle.farm_core.proofs.PlaceLemmas.{same_below}
use Rattle.farm_core.proofs.SeatLemmas.{named, place_known, held_whole, own_seen, each_view_is_a_seat, same_book, purse_after, purse_stays}
use Rattle.farm_core.proofs.AloneLemmas.{member_opened, purse_opened, config_opened}
use Rattle.farm_core.proofs.NeedLemmas.{Unclosed, turn_of, first_none, first_is}

-- what a job was made for, and the quanta that it was given
record Gift : Type 0 where
  seq : ℕ
  plan : Plan
  given : ℕ

record Gifts : Type 0 where
  next : ℕ
  all : List Gift

abbrev add_gift : ℕ → ℕ → List Gift → List Gift
add_gift s quanta [] = []
add_gift s quanta (g ∷ gs) = cond (g.seq == s) (record g { given = g.given + quanta } ∷ gs) (g ∷ add_gift s quanta gs)

-- after these submits and funds
abbrev give_on : Gifts → List Event → Gifts
give_on x [] = x
give_on x (Submit plan quanta ∷ events) = give_on (record { next = x.next + 1; all = x.all ++ record { seq = x.next; plan = plan; given = quanta } ∷ [] }) events
give_on x (Fund s quanta ∷ events) = give_on (record x { all = add_gift s quanta x.all }) events
give_on x (e ∷ events) = give_on x events

-- where a job stands that was given so much, and never given up
abbrev StandsIn : Phase → Plan → ℕ → ℕ → ℕ → Type 0
StandsIn Waiting plan nodes left given = (nodes + left ≡ given) × Unclosed plan nodes
StandsIn (Out slice) plan nodes left given = (nodes + left ≡ given) × Unclosed plan nodes
StandsIn (Leaving slice) plan nodes left given = ⊥
StandsIn Dry plan nodes left given = (nodes + left ≡ given) × Unclosed plan nodes × (left ≡ 0) × (is_closed plan nodes ≡ false)
StandsIn Closed plan nodes left given = (nodes ≤ given) × Unclosed plan nodes × (left ≡ 0) × (is_closed plan nodes ≡ true)
StandsIn Cancelled plan nodes left given = ⊥

record Stands (g : Gift) (job : JobData) : Type 0 where
  seq : g.seq ≡ job.seq
  plan : g.plan ≡ job.plan
  has : StandsIn job.phase job.plan job.nodes job.left g.given
  home : job.here ≡ is_here job.phase

abbrev AreGiven : List Gift → List JobData → Type 0
AreGiven [] [] = ⊤
AreGiven [] (job ∷ jobs) = ⊥
AreGiven (g ∷ gs) [] = ⊥
AreGiven (g ∷ gs) (job ∷ jobs) = Stands g job × AreGiven gs jobs

abbrev nodes_in : List JobData → ℕ
nodes_in [] = 0
nodes_in (job ∷ jobs) = job.nodes + nodes_in jobs

-- what the gifts have made of a tenant, the other members of whose purse have run k nodes
record Stood (x : Gifts) (k : ℕ) (t : Tenant) : Type 0 where
  next : t.next ≡ x.next
  jobs : AreGiven x.all t.jobs
  spent : t.spent ≡ nodes_in t.jobs + k

nodes_put : (s : ℕ) (old new : JobData) (jobs : List JobData) → find_job s jobs ≡ Some old → nodes_in (put_job s new jobs) + old.nodes ≡ nodes_in jobs + new.nodes
nodes_put s old new [] found = absurd (cc)
nodes_put s old new (job ∷ jobs) found = grind (arith, nat_tests, nodes_put s old new jobs)

nodes_push : (new : JobData) (jobs : List JobData) → nodes_in (jobs ++ new ∷ []) ≡ nodes_in jobs + new.nodes
nodes_push new [] = omega arith
nodes_push new (job ∷ jobs) = omega (arith, nodes_push new jobs)

given_push : (g : Gift) (new : JobData) (gs : List Gift) (jobs : List JobData) → Stands g new → AreGiven gs jobs → AreGiven (gs ++ g ∷ []) (jobs ++ new ∷ [])
given_push g new [] [] one all = (one, tt)
given_push g new [] (job ∷ jobs) one all = absurd all
given_push g new (h ∷ gs) [] one all = absurd all
given_push g new (h ∷ gs) (job ∷ jobs) one all = (all.0, given_push g new gs jobs one all.1)

-- a job that stands otherwise, with what it was given
put_at : (b : Bool) (s : ℕ) (job new other : JobData) (g : Gift) (gs : List Gift) (jobs : List JobData) → cond b (Some other) (find_job s jobs) ≡ Some job → ((h : Gift) → Stands h job → Stands h new)
    → AreGiven (g ∷ gs) (other ∷ jobs) → (find_job s jobs ≡ Some job → AreGiven gs (put_job s new jobs)) → AreGiven (g ∷ gs) (cond b (new ∷ jobs) (other ∷ put_job s new jobs))
put_at true s job new other g gs jobs found one all later = let same : other ≡ job = cc in (one g (subst (Stands g) same all.0), all.1)
put_at false s job new other g gs jobs found one all later = (all.0, later found)

given_put : (s : ℕ) (job new : JobData) (gs : List Gift) (jobs : List JobData) → find_job s jobs ≡ Some job → ((h : Gift) → Stands h job → Stands h new) → AreGiven gs jobs → AreGiven gs (put_job s new jobs)
given_put s job new [] [] found one all = tt
given_put s job new [] (other ∷ jobs) found one all = absurd all
given_put s job new (g ∷ gs) [] found one all = absurd all
given_put s job new (g ∷ gs) (other ∷ jobs) found one all = put_at (other.seq == s) s job new other g gs jobs found one all (λ f. given_put s job new gs jobs f one all.1)

-- the same where it was given more
more_at : (b : Bool) (s quanta : ℕ) (job new other : JobData) (g : Gift) (gs : List Gift) (jobs : List JobData) → cond b (Some other) (find_job s jobs) ≡ Some job
    → ((h : Gift) → Stands h job → Stands (record h { given = h.given + quanta }) new) → AreGiven (g ∷ gs) (other ∷ jobs) → (find_job s jobs ≡ Some job → AreGiven (add_gift s quanta gs) (put_job s new jobs))
    → AreGiven (cond b (record g { given = g.given + quanta } ∷ gs) (g ∷ add_gift s quanta gs)) (cond b (new ∷ jobs) (other ∷ put_job s new jobs))
more_at true s quanta job new other g gs jobs found one all later = let same : other ≡ job = cc in (one g (subst (Stands g) same all.0), all.1)
more_at false s quanta job new other g gs jobs found one all later = (all.0, later found)

given_more : (s quanta : ℕ) (job new : JobData) (gs : List Gift) (jobs : List JobData) → find_job s jobs ≡ Some job → ((h : Gift) → Stands h job → Stands (record h { given = h.given + quanta }) new) → AreGiven gs jobs
    → AreGiven (add_gift s quanta gs) (put_job s new jobs)
given_more s quanta job new [] [] found one all = tt
given_more s quanta job new [] (other ∷ jobs) found one all = absurd all
given_more s quanta job new (g ∷ gs) [] found one all = absurd all
given_more s quanta job new (g ∷ gs) (other ∷ jobs) found one all =
    let key : (other.seq == s) ≡ (g.seq == s) = ap (λ n. n == s) (sym (all.0).seq) in
    subst (λ (b : Bool). AreGiven (cond b (record g { given = g.given + quanta } ∷ gs) (g ∷ add_gift s quanta gs)) (cond (other.seq == s) (new ∷ jobs) (other ∷ put_job s new jobs))) key
    (more_at (other.seq == s) s quanta job new other g gs jobs found one all (λ f. given_more s quanta job new gs jobs f one all.1))

-- what a call does to what stands, where it is accepted as a gift or not at all
abbrev GoesOn : Gifts → ℕ → Event → Step → Type 0
GoesOn x k e s = are_gifts (accepted e s.answer) ≡ true → Stood (give_on x (accepted e s.answer)) k s.after

used_more : (x : Gifts) (k : ℕ) (t : Tenant) (used : ℕ) → Stood x k t → Stood x k (record t { used = used })
used_more x k t used it = record { next = it.next; jobs = it.jobs; spent = it.spent }

none_before : (plan : Plan) → Unclosed plan 0
none_before plan j l = absurd (omega arith)

-- a job that is not out and not over has what it was given
stands_there : (phase : Phase) (plan : Plan) (nodes left given : ℕ) → is_out phase ≡ false → is_ended phase ≡ false → StandsIn phase plan nodes left given → (nodes + left ≡ given) × Unclosed plan nodes
stands_there Waiting plan nodes left given o e h = h
stands_there (Out slice) plan nodes left given o e h = absurd (cc)
stands_there (Leaving slice) plan nodes left given o e h = absurd (cc)
stands_there Dry plan nodes left given o e h = (h.0, h.1)
stands_there Closed plan nodes left given o e h = absurd (cc)
stands_there Cancelled plan nodes left given o e h = absurd (cc)

found_is : (s : ℕ) (jobs : List JobData) (job : JobData) → find_job s jobs ≡ Some job → job.seq ≡ s
found_is s [] job found = absurd (cc)
found_is s (one ∷ jobs) job found = grind (arith, nat_tests, found_is s jobs job)

waiting_stands : (phase : Phase) (plan : Plan) (nodes left given : ℕ) → is_waiting phase ≡ true → StandsIn phase plan nodes left given → (nodes + left ≡ given) × Unclosed plan nodes
waiting_stands Waiting plan nodes left given w h = h
waiting_stands (Out slice) plan nodes left given w h = absurd (cc)
waiting_stands (Leaving slice) plan nodes left given w h = absurd (cc)
waiting_stands Dry plan nodes left given w h = absurd (cc)
waiting_stands Closed plan nodes left given w h = absurd (cc)
waiting_stands Cancelled plan nodes left given w h = absurd (cc)

-- the job after a turn, by where it stood
back_stands : (phase : Phase) (job : JobData) (ran given : ℕ) → may_have_run ran job phase ≡ true → StandsIn phase job.plan job.nodes job.left given
    → let left = job.left - ran in let stands = phase_after phase (is_closed job.plan (job.nodes + ran)) left in
    StandsIn stands job.plan (job.nodes + ran) (cond (is_here stands) left 0) given
back_stands Waiting job ran given may h = absurd (cc)
back_stands (Out slice) job ran given may h =
    let turn = turn_of slice ran job may in
    let unclosed : Unclosed job.plan (job.nodes + ran) = λ j l.
    ⊎_elim (λ (before : j < job.nodes). h.1 j before)
    (λ (after : job.nodes ≤ j). let at : job.nodes + (j - job.nodes) ≡ j = omega arith in subst (λ n. is_closed job.plan n ≡ false) at (turn.1 (j - job.nodes) (omega arith)))
    (cases_lt j job.nodes) in
    let left : ℕ = job.left - ran in
    let Good : Phase → Type 0 = λ stands. StandsIn stands job.plan (job.nodes + ran) (cond (is_here stands) left 0) given in
    cond_both (is_closed job.plan (job.nodes + ran)) Closed (cond (left == 0) Dry Waiting) Good
    (λ over. (omega (arith, h.0, turn.0), unclosed, refl, over))
    (λ going. cond_both (left == 0) Dry Waiting Good
    (λ none. (omega (arith, h.0, turn.0), unclosed, eqb-true left 0 none, going))
    (λ some. (omega (arith, h.0, turn.0), unclosed)))
back_stands (Leaving slice) job ran given may h = absurd h
back_stands Dry job ran given may h = absurd (cc)
back_stands Closed job ran given may h = absurd (cc)
back_stands Cancelled job ran given may h = absurd (cc)

-- one job changed, that stands with what it was given
changed_on : (x y : Gifts) (k : ℕ) (t : Tenant) (s ran : ℕ) (job new : JobData) (answer : Answer) → find_job s t.jobs ≡ Some job → new.seq ≡ job.seq → new.nodes ≡ job.nodes + ran → y.next ≡ x.next
    → AreGiven y.all (put_job s new t.jobs) → Stood x k t → Stood y k (done t (Changes new ran answer)).after
changed_on x y k t s ran job new answer found named nodes next given it =
    let seq : new.seq ≡ s = named ∙ found_is s t.jobs job found in
    subst (λ (n : ℕ). Stood y k (record t { spent = t.spent + ran; used = t.used + 1; jobs = put_job n new t.jobs })) (sym seq)
    (record { next = omega (arith, it.next, next); jobs = given; spent = omega (arith, it.spent, nodes_put s job new t.jobs found, nodes) })

-- what is asked for nothing leaves all as it stands
stays_on : (x : Gifts) (k : ℕ) (t : Tenant) (events : List Event) → events ≡ [] → Stood x k t → Stood (give_on x events) k t
stays_on x k t events none it = rw none it

goes_on : (x : Gifts) (k : ℕ) (t : Tenant) → Stood x k t → Cases t (λ e f. GoesOn x k e (done t f))
goes_on x k t it = record {
  full = λ e _. stays_on x k t (accepted e (Replied reply.NoRoom)) (unasked e).0 it;
  idle = λ e _. stays_on x k t (accepted e NoTurn) (unasked e).1 it;
  notes = λ e answer room note _. stays_on x k (record t { used = t.used + 1 }) (accepted e (Replied answer)) note.accepted (used_more x k t (t.used + 1) it);
  adds = λ plan quanta room some _.
      let job : JobData = fresh_job t plan quanta in
      let gift : Gift = record { seq = x.next; plan = plan; given = quanta } in
      let stands : Stands gift job = record { seq = sym it.next; plan = refl; has = (omega arith, none_before plan); home = refl } in
      record { next = omega (arith, it.next); jobs = given_push gift job x.all t.jobs stands it.jobs; spent = omega (arith, it.spent, nodes_push job t.jobs) };
  funds = λ s quanta job room found can _.
      let new : JobData = record job { phase = Waiting; left = job.left + quanta } in
      let more : (h : Gift) → Stands h job → Stands (record h { given = h.given + quanta }) new =
      λ h one. let had = stands_there job.phase job.plan job.nodes job.left h.given can.here can.going one.has in record { seq = one.seq; plan = one.plan; has = (omega (arith, had.0), had.1); home = one.home ∙ going_here job.phase can.here can.going } in
      changed_on x (record x { all = add_gift s quanta x.all }) k t s 0 job new (Replied (reply.Line (line_of new))) found refl (omega arith) refl (given_more s quanta job new x.all t.jobs found more it.jobs) it;
  cancels = λ s job new room found gone no. absurd (cc);
  drops = λ s job room found ended no. absurd (cc);
  takes = λ s slice job room found waits _.
      let new : JobData = gone_out slice job in
      let same : (h : Gift) → Stands h job → Stands h new = λ h one. record { seq = one.seq; plan = one.plan; has = waiting_stands job.phase job.plan job.nodes job.left h.given waits one.has; home = refl } in
      changed_on x x k t s 0 job new (Sent (line_of new)) found refl (omega arith) refl (given_put s job new x.all t.jobs found same it.jobs) it;
  gives = λ s ran job found may _.
      let new : JobData = back ran job in
      let same : (h : Gift) → Stands h job → Stands h new = λ h one. record { seq = one.seq; plan = one.plan; has = back_stands job.phase job ran h.given may one.has; home = refl } in
      changed_on x x k t s ran job new (Replied (reply.Ran ran (line_of new))) found refl refl refl (given_put s job new x.all t.jobs found same it.jobs) it;
}

step_on : (x : Gifts) (k : ℕ) (t : Tenant) (e : Event) → Stood x k t → GoesOn x k e (step t e)
step_on x k t e it = each_decision t (λ e f. GoesOn x k e (done t f)) (goes_on x k t it) e

give_more_on : (x : Gifts) (a b : List Event) → give_on x (a ++ b) ≡ give_on (give_on x a) b
give_more_on x [] b = refl
give_more_on x (Submit plan quanta ∷ a) b = give_more_on (record { next = x.next + 1; all = x.all ++ record { seq = x.next; plan = plan; given = quanta } ∷ [] }) a b
give_more_on x (Fund s quanta ∷ a) b = give_more_on (record x { all = add_gift s quanta x.all }) a b
give_more_on x (Status s ∷ a) b = give_more_on x a b
give_more_on x (Fetch s ∷ a) b = give_more_on x a b
give_more_on x (Cancel s ∷ a) b = give_more_on x a b
give_more_on x (Forget s ∷ a) b = give_more_on x a b
give_more_on x (Ledger ∷ a) b = give_more_on x a b
give_more_on x (Take s slice ∷ a) b = give_more_on x a b
give_more_on x (Give s ran ∷ a) b = give_more_on x a b

gifts_parts : (a b : List Event) → are_gifts (a ++ b) ≡ true → (are_gifts a ≡ true) × (are_gifts b ≡ true)
gifts_parts [] b all = (refl, all)
gifts_parts (Submit plan quanta ∷ a) b all = gifts_parts a b all
gifts_parts (Fund s quanta ∷ a) b all = gifts_parts a b all
gifts_parts (Status s ∷ a) b all = absurd (cc)
gifts_parts (Fetch s ∷ a) b all = absurd (cc)
gifts_parts (Cancel s ∷ a) b all = absurd (cc)
gifts_parts (Forget s ∷ a) b all = absurd (cc)
gifts_parts (Ledger ∷ a) b all = absurd (cc)
gifts_parts (Take s slice ∷ a) b all = absurd (cc)
gifts_parts (Give s ran ∷ a) b all = absurd (cc)

-- ---- a purse

-- what a member's jobs have run
abbrev nodes_of : Member → ℕ
nodes_of m = nodes_in m.jobs

-- a purse has spent what the jobs of its members have run
abbrev HasSpent : Purse → Type 0
HasSpent p = p.spent ≡ sum_by nodes_of p.members

-- what the gifts have made of what is a member's own
record IsGiven (x : Gifts) (m : Member) : Type 0 where
  next : m.next ≡ x.next
  jobs : AreGiven x.all m.jobs

-- a call of the member at a place: the other members have run what the purse has spent beside it
seat_on : (x : Gifts) (p : Purse) (place : ℕ) (e : Event) → place < length p.members → IsGiven x (own_of (seat p place)) → HasSpent p
    → let it = step (seat p place) e in are_gifts (accepted e it.answer) ≡ true → IsGiven (give_on x (accepted e it.answer)) (own_of it.after) × HasSpent (with_seat p place it.after)
seat_on x p place e l given spent all =
    let after : Tenant = (step (seat p place) e).after in
    let k : ℕ = p.spent - nodes_in (seat p place).jobs in
    let part = get_or-le-sum_by nodes_of p.members place no_member l in
    let went = step_on x k (seat p place) e (record { next = given.next; jobs = given.jobs; spent = omega (arith, part, spent) }) all in
    let put = sum_by-set nodes_of p.members place (own_of after) no_member l in
    (record { next = went.next; jobs = went.jobs }, omega (arith, went.spent, put, part, spent))

-- a tenant has its place in its purse
seated : (t : ℕ) (w : World) → t < length w.config.tenants → place_in w.config t < length (purse (purse_in w.config t) w).members
unfolding purse
seated t w l =
    let names = purse_names w.config.tenants in
    let known = place_known names t (named w.config.tenants t l) in
    let ts : List ℕ = members_of names (purse_of names t) in
    let counted : length (map (λ u. member u w) ts) ≡ length ts = length-map ts (λ u. member u w) in
    omega arith

-- ---- along a run

-- the same of each member of a purse, and of the purse
record AllStood (config : ConfigData) (p : ℕ) (x : ℕ → Gifts) (w : World) : Type 0 where
  each : AllMembers config p (λ t. IsGiven (x t) (member t w))
  spent : HasSpent (purse p w)

-- what a call asked for, if it was tenant t's
abbrev asked_in : ℕ → Call → List Event
asked_in t c = cond (c.tenant == t) (accepted c.event c.answer) []

-- a call, for the caller and its purse,
own_on : (x : Gifts) (old mid : World) (c : Call) → Steps old c.tenant c.event c.answer mid → IsGiven x (member c.tenant old) → HasSpent (purse (purse_in old.config c.tenant) old)
    → are_gifts (accepted c.event c.answer) ≡ true → IsGiven (give_on x (accepted c.event c.answer)) (member c.tenant mid) × HasSpent (purse (purse_in old.config c.tenant) mid)
own_on x old mid c h given spent all =
    let t = c.tenant in
    let p : Purse = purse (purse_in old.config t) old in
    let place = place_in old.config t in
    let seen : view t old ≡ seat p place = each_view_is_a_seat old t h.known in
    let it : Step = step (seat p place) c.event in
    let had : member t old ≡ own_of (seat p place) = sym (own_seen t old) ∙ ap own_of seen in
    let answer : c.answer ≡ it.answer = h.answer_is ∙ ap (λ (v : Tenant). (step v c.event).answer) seen in
    let has : member t mid ≡ own_of it.after = sym (own_seen t mid) ∙ ap own_of h.own ∙ ap (λ (v : Tenant). own_of (step v c.event).after) seen in
    let purse_is : purse (purse_in old.config t) mid ≡ with_seat p place it.after =
    purse_after old mid t c.event c.answer h ∙ ap (λ (v : Tenant). with_seat p place (step v c.event).after) seen in
    let gifts : are_gifts (accepted c.event it.answer) ≡ true = ap (λ (a : Answer). are_gifts (accepted c.event a)) (sym answer) ∙ all in
    let went = seat_on x p place c.event (seated t old h.known) (subst (IsGiven x) had given) spent gifts in
    let own : IsGiven (give_on x (accepted c.event it.answer)) (member t mid) = subst (IsGiven (give_on x (accepted c.event it.answer))) (sym has) went.0 in
    (subst (λ (a : Answer). IsGiven (give_on x (accepted c.event a)) (member t mid)) (sym answer) own, subst HasSpent (sym purse_is) went.1)

-- and for the members of a purse, whether it is the caller's or another
call_on : (p : ℕ) (x : ℕ → Gifts) (old mid : World) (c : Call) → Steps old c.tenant c.event c.answer mid → AllMembers old.config p (λ t. are_gifts (asked_in t c) ≡ true)
    → AllStood old.config p x old → AllStood old.config p (λ t. give_on (x t) (asked_in t c)) mid
call_on p x old mid c h all it =
    let t = c.tenant in
    let gifts = accepted c.event c.answer in
    let own : purse_in old.config t ≡ p → IsGiven (give_on (x t) gifts) (member t mid) × HasSpent (purse p mid) = λ of.
    let asks : are_gifts gifts ≡ true = ap are_gifts (sym (cond-true (t == t) gifts [] (eq-eqb t t refl))) ∙ all t h.known of in
    let went = own_on (x t) old mid c h (it.each t h.known of) (subst (λ (q : ℕ). HasSpent (purse q old)) (sym of) it.spent) asks in
    (went.0, subst (λ (q : ℕ). HasSpent (purse q mid)) of went.1) in
    record {
      each = λ u l of. cond_both (t == u) gifts [] (λ (es : List Event). IsGiven (give_on (x u) es) (member u mid))
          (λ e.
          let same : t ≡ u = eqb-true t u e in
          subst (λ (v : ℕ). IsGiven (give_on (x v) gifts) (member v mid)) same (own (ap (purse_in old.config) same ∙ of)).0)
          (λ e.
          let differ : u ≢ t = λ is. both_ways (t == u) e (eq-eqb t u (sym is)) in
          subst (IsGiven (x u)) (sym (h.others u differ)) (it.each u l of));
      spent = ⊎_elim
          (λ (e : (purse_in old.config t == p) ≡ true). (own (eqb-true (purse_in old.config t) p e)).1)
          (λ (e : (purse_in old.config t == p) ≡ false).
          let differ : p ≢ purse_in old.config t = λ is. both_ways (purse_in old.config t == p) e (eq-eqb (purse_in old.config t) p (sym is)) in
          subst HasSpent (sym (purse_stays old mid t c.event c.answer h p differ)) it.spent)
          (cases_Bool (purse_in old.config t == p));
    }

leads_on : (p : ℕ) (x : ℕ → Gifts) (old new : World) (calls : List Call) → Leads old calls new → AllMembers old.config p (λ t. are_gifts (asked_by t calls) ≡ true)
    → AllStood old.config p x old → AllStood old.config p (λ t. give_on (x t) (asked_by t calls)) new
leads_on p x old new [] run all it = subst (AllStood old.config p x) (sym run) it
leads_on p x old new (c ∷ calls) run all it =
    let y : ℕ → Gifts = λ t. give_on (x t) (asked_in t c) in
    let parts : AllMembers old.config p (λ t. (are_gifts (asked_in t c) ≡ true) × (are_gifts (asked_by t calls) ≡ true)) =
    λ t l of. gifts_parts (asked_in t c) (asked_by t calls) (all t l of) in
    let here : AllStood old.config p y run.0 = call_on p x old run.0 c run.1 (λ t l of. (parts t l of).0) it in
    let later : AllStood old.config p (λ t. give_on (y t) (asked_by t calls)) new =
    subst (λ (cs : ConfigData). AllMembers cs p (λ t. are_gifts (asked_by t calls) ≡ true) → AllStood cs p y run.0 → AllStood cs p (λ t. give_on (y t) (asked_by t calls)) new)
    run.1.config (leads_on p y run.0 new calls run.2) (λ t l of. (parts t l of).1) here in
    record {
      each = λ t l of. subst (λ (g : Gifts). IsGiven g (member t new)) (sym (give_more_on (x t) (asked_in t c) (asked_by t calls))) (later.each t l of);
      spent = later.spent;
    }

abbrev no_gifts : Gifts
no_gifts = record { next = 1; all = [] }

none_ran : (lines : List TenantLine) → sum_by nodes_of (map new_member lines) ≡ 0
none_ran [] = refl
none_ran (line ∷ lines) = omega (arith, sum_by-cons nodes_of (new_member line) (map new_member lines), none_ran lines)

newcomers_spent : (lines : List TenantLine) → HasSpent (newcomers lines)
unfolding newcomers
newcomers_spent lines = sym (none_ran lines)

opened_stood : (config : ConfigData) (p : ℕ) → AllStood config p (λ t. no_gifts) (opened config)
opened_stood config p = record {
  each = λ t l of. subst (IsGiven no_gifts) (sym (member_opened t config)) (record { next = refl; jobs = tt });
  spent = subst HasSpent (sym (purse_opened p config)) (newcomers_spent (member_lines config.tenants p));
}

run_stood : (config : ConfigData) (calls : List Call) (w : World) (p : ℕ) → Run config calls w → AllMembers config p (HasRested calls w)
    → AllStood config p (λ t. give_on no_gifts (asked_by t calls)) w
run_stood config calls w p run rested =
    let gifts : ℕ → Gifts = λ t. give_on no_gifts (asked_by t calls) in
    subst (λ (c : ConfigData). AllMembers c p (λ t. are_gifts (asked_by t calls) ≡ true) → AllStood c p (λ t. no_gifts) (opened config) → AllStood c p gifts w)
    (config_opened config) (leads_on p (λ t. no_gifts) (opened config) w calls run) (λ t l of. (rested t l of).gifts) (opened_stood config p)

-- a job at rest, told by what it was given
abbrev rest_of : Gift → JobData
rest_of g =
    let nodes = nodes_for g.plan g.given in
    let phase = cond (is_closed g.plan nodes) Closed Dry in
    record { seq = g.seq; plan = g.plan; phase = phase; nodes = nodes; left = 0; here = is_here phase }

rest_is : (plan : Plan) (nodes left given : ℕ) (phase : Phase) → StandsIn phase plan nodes left given → (phase ≡ Dry) ⊎ (phase ≡ Closed)
    → (phase ≡ cond (is_closed plan (nodes_for plan given)) Closed Dry) × (nodes ≡ nodes_for plan given) × (left ≡ 0)
unfolding nodes_for
rest_is plan nodes left given Waiting h rest = ⊎_elim (λ (e : Waiting ≡ Dry). absurd (cc)) (λ (e : Waiting ≡ Closed). absurd (cc)) rest
rest_is plan nodes left given (Out slice) h rest = ⊎_elim (λ (e : Out slice ≡ Dry). absurd (cc)) (λ (e : Out slice ≡ Closed). absurd (cc)) rest
rest_is plan nodes left given (Leaving slice) h rest = absurd h
rest_is plan nodes left given Cancelled h rest = absurd h
rest_is plan nodes left given Dry h rest =
    let all : nodes ≡ first_from (is_closed plan) given 0 = omega (arith, h.0, h.2, first_none (is_closed plan) given 0 (λ j l m. h.1 j (omega (arith, h.0, h.2)))) in
    let going : is_closed plan (first_from (is_closed plan) given 0) ≡ false = ap (is_closed plan) (sym all) ∙ h.3 in
    (rw going refl, all, h.2)
rest_is plan nodes left given Closed h rest =
    let all : nodes ≡ first_from (is_closed plan) given 0 = sym (first_is (is_closed plan) given 0 nodes (omega arith) (omega (arith, h.0)) h.3 (λ j l m. h.1 j m)) in
    let over : is_closed plan (first_from (is_closed plan) given 0) ≡ true = ap (is_closed plan) (sym all) ∙ h.3 in
    (rw over refl, all, h.2)

same_job_of : (job : JobData) (s n l : ℕ) (p : Plan) (phase : Phase) → job.seq ≡ s → job.plan ≡ p → job.phase ≡ phase → job.nodes ≡ n → job.left ≡ l → job.here ≡ is_here job.phase
    → job ≡ record { seq = s; plan = p; phase = phase; nodes = n; left = l; here = is_here phase }
same_job_of job s n l p phase a b c d e f = rw (← a, ← b, ← c, ← d, ← e, ← f) refl

job_rests : (g : Gift) (job : JobData) → Stands g job → (job.phase ≡ Dry) ⊎ (job.phase ≡ Closed) → job ≡ rest_of g
job_rests g job it rest =
    let told = rest_is job.plan job.nodes job.left g.given job.phase it.has rest in
    let plan = sym it.plan in
    let nodes : job.nodes ≡ nodes_for g.plan g.given = told.1 ∙ ap (λ (p : Plan). nodes_for p g.given) plan in
    let phase : job.phase ≡ cond (is_closed g.plan (nodes_for g.plan g.given)) Closed Dry = told.0 ∙ ap (λ (p : Plan). cond (is_closed p (nodes_for p g.given)) Closed Dry) plan in
    same_job_of job g.seq (nodes_for g.plan g.given) 0 g.plan (cond (is_closed g.plan (nodes_for g.plan g.given)) Closed Dry) (sym it.seq) plan phase nodes told.2 it.home

jobs_rest : (gs : List Gift) (jobs : List JobData) → AreGiven gs jobs → AreAtRest jobs → jobs ≡ map rest_of gs
jobs_rest [] [] all rest = refl
jobs_rest [] (job ∷ jobs) all rest = absurd all
jobs_rest (g ∷ gs) [] all rest = absurd all
jobs_rest (g ∷ gs) (job ∷ jobs) all rest =
    ap (λ (j : JobData). j ∷ jobs) (job_rests g job all.0 rest.0) ∙ ap (λ (js : List JobData). rest_of g ∷ js) (jobs_rest gs jobs all.1 rest.1)

-- ---- the end

abbrev own_jobs : Member → List JobData
own_jobs m = m.jobs

-- the jobs of a member that asked for these, at rest
abbrev rests_of : List Event → List JobData
rests_of events = map rest_of (give_on no_gifts events).all

config_stays : (old new : World) (calls : List Call) → Leads old calls new → new.config ≡ old.config
config_stays old new [] run = ap (λ (w : World). w.config) run
config_stays old new (c ∷ calls) run = config_stays run.0 new calls run.2 ∙ run.1.config

run_config : (config : ConfigData) (calls : List Call) (w : World) → Run config calls w → w.config ≡ config
run_config config calls w run = config_stays (opened config) w calls run ∙ config_opened config

members_are : (config : ConfigData) (p : ℕ) (w : World) → w.config ≡ config → (purse p w).members ≡ map (λ t. member t w) (members_in config p)
unfolding purse
members_are config p w is = ap (λ (c : ConfigData). map (λ t. member t w) (members_in c p)) is

granted_is : (config : ConfigData) (p : ℕ) (w : World) → w.config ≡ config → (purse p w).granted ≡ (opened_purse config p).granted
unfolding purse newcomers
granted_is config p w is = ap (λ (c : ConfigData). granted_by (member_lines c.tenants p)) is

-- what is the same of each tenant of a purse that there is, is the same of its members
among_members : {X : Type 0} (config : ConfigData) (p : ℕ) (g h : ℕ → X) → AllMembers config p (λ t. h t ≡ g t) → map h (members_in config p) ≡ map g (members_in config p)
unfolding members_of
among_members config p g h same =
    let names = purse_names config.tenants in
    let counted : length names ≡ length config.tenants = length-map config.tenants (λ (line : TenantLine). line.purse) in
    same_below (λ t. purse_of names t == p) g h 0 (length names) (λ t l passes. same t (omega arith) (eqb-true (purse_of names t) p passes))

-- at the end of a run in which its members rest, a purse has spent what they have run, and each has the jobs that it asked for
record HasEnded (config : ConfigData) (p : ℕ) (jobs : List (List JobData)) (end : Purse) : Type 0 where
  granted : end.granted ≡ (opened_purse config p).granted
  spent : HasSpent end
  jobs_are : map own_jobs end.members ≡ jobs

run_ends : (config : ConfigData) (calls : List Call) (w : World) (p : ℕ) → Run config calls w → AllMembers config p (HasRested calls w)
    → HasEnded config p (map rests_of (map (λ t. asked_by t calls) (members_in config p))) (purse p w)
run_ends config calls w p run rested =
    let it = run_stood config calls w p run rested in
    let is = run_config config calls w run in
    let each : AllMembers config p (λ t. (member t w).jobs ≡ rests_of (asked_by t calls)) = λ t l of.
    let rests : AreAtRest (member t w).jobs = subst (λ (m : Member). AreAtRest m.jobs) (own_seen t w) (rested t l of).rests in
    jobs_rest (give_on no_gifts (asked_by t calls)).all (member t w).jobs (it.each t l of).jobs rests in
    record {
      granted = granted_is config p w is;
      spent = it.spent;
      jobs_are = ap (map own_jobs) (members_are config p w is) ∙ map-map own_jobs (λ t. member t w) (members_in config p)
          ∙ among_members config p (λ t. rests_of (asked_by t calls)) (λ t. (member t w).jobs) each
          ∙ sym (map-map rests_of (λ t. asked_by t calls) (members_in config p));
    }

sum_of_jobs : (f : List JobData → ℕ) (ms : List Member) → sum_by (λ (m : Member). f m.jobs) ms ≡ sum_by f (map own_jobs ms)
sum_of_jobs f [] = refl
sum_of_jobs f (m ∷ ms) =
    let whole = sum_by-cons (λ (other : Member). f other.jobs) m ms in
    let told = sum_by-cons f m.jobs (map own_jobs ms) in
    let rest = sum_of_jobs f ms in
    omega arith

-- what the jobs of all members hold
held_at : (p : Purse) (place : ℕ) → place < length p.members → held (seat p place) ≡ sum_by held_by (map own_jobs p.members)
unfolding held
held_at p place l = held_whole place p.members l ∙ sum_of_jobs held_by p.members

-- two purses whose members have the same jobs, and which have spent what these have run
alike_seats : (one other : Purse) → one.granted ≡ other.granted → HasSpent one → HasSpent other → map own_jobs one.members ≡ map own_jobs other.members
    → (place : ℕ) → place < length one.members → AreAlike (seat one place) (seat other place)
alike_seats one other granted spent spends same place l =
    let many : length (map own_jobs one.members) ≡ length one.members = length-map one.members own_jobs in
    let more : length (map own_jobs other.members) ≡ length other.members = length-map other.members own_jobs in
    let both : length (map own_jobs one.members) ≡ length (map own_jobs other.members) = ap {B = ℕ} length same in
    let k : place < length other.members = omega arith in
    let jobs : (seat one place).jobs ≡ (seat other place).jobs =
    sym (get_or-map own_jobs one.members place no_member [] l)
    ∙ ap (λ (js : List (List JobData)). get_or js place []) same
    ∙ get_or-map own_jobs other.members place no_member [] k in
    let spent_is : one.spent ≡ other.spent =
    spent ∙ sum_of_jobs nodes_in one.members ∙ ap (sum_by nodes_in) same ∙ sym (sum_of_jobs nodes_in other.members) ∙ sym spends in
    let held_is : held (seat one place) ≡ held (seat other place) = held_at one place l ∙ ap (sum_by held_by) same ∙ sym (held_at other place k) in
    record { lines = ap (map line_of) jobs; ledger = same_book (seat one place) (seat other place) granted spent_is held_is }

pub each_ends_alike : EachEndsAlike
each_ends_alike config elsewhere calls others w x run walk p q begins rested rests asks place l =
    let one = run_ends config calls w p run rested in
    let two = run_ends elsewhere others x q walk rests in
    let jobs = one.jobs_are ∙ ap (map rests_of) asks ∙ sym two.jobs_are in
    let granted = one.granted ∙ ap (λ (s : Purse). s.granted) begins ∙ sym two.granted in
    let many : length (map (λ t. member t w) (members_in config p)) ≡ length (members_in config p) = length-map (members_in config p) (λ t. member t w) in
    let there : length (purse p w).members ≡ length (map (λ t. member t w) (members_in config p)) =
    ap {B = ℕ} length (members_are config p w (run_config config calls w run)) in
    alike_seats (purse p w) (purse q x) granted one.spent two.spent jobs place (omega arith)
