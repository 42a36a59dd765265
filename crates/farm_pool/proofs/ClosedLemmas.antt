-- Two closed pools, and what they told a purse.
use Rattle.std.proofs.Common.{◌≡◌, ℕ, Bool, true, false, cond, List, [], ◌∷◌, ◌++◌, length, map, Option, Some, None, refl, sym, ap, ◌∙◌, subst, append_assoc, append-nil, eqb, ⊎_elim}
use Rattle.std.specs.Prelude.{⊤, slice_get}
use Rattle.std.specs.List.{filter}
use Rattle.std.proofs.lemmas.Bool.{cases_eq}
use Rattle.std.proofs.lemmas.List.{map-append}
use mathlib.Core.List.{IsPrefix}
use Rattle.strategy.specs.Search.{Meaning}
use Rattle.job_table.specs.Table.{JobData}
use Rattle.job_table.specs.Job.{gone_out}
use Rattle.job_table.specs.declared.phase.Phase.TheVariants.{Out}
use Rattle.farm_core.specs.declared.entry.Entry.{Entry}
use Rattle.farm_core.specs.declared.entry.Event.{Event}
use Rattle.farm_core.specs.declared.entry.Event.TheVariants.{Take, Give}
use Rattle.farm_core.specs.declared.reply.Reply.{Reply}
use Rattle.farm_core.specs.declared.reply.Reply.TheVariants as reply
use Rattle.farm_core.specs.Config.{ConfigData}
use Rattle.farm_core.specs.Tenant.{Purse, seat, with_seat, line_of}
use Rattle.farm_core.specs.Step.{Answer, Replied, Sent, step}
use Rattle.farm_core.specs.World.{World, Call, purse_in, place_in, purse, is_noted, own_answers, opened_purse, events_of, answers_alone, after_alone}
use Rattle.farm_core.proofs.ReplayLemmas.{asked_in}
use Rattle.farm_core.proofs.RunningLemmas.{found_seq}
use Rattle.farm_core.proofs.SharingLemmas.{is_eq, is_ne}
use Rattle.turn_lock.specs.History as history
use Rattle.turn_lock.specs.History.{listed, tagged, LegalFrom}
use Rattle.turn_lock.specs.Plays.{Called}
use Rattle.turn_lock.proofs.Histories.{events_of-append, length-events_of}
use Rattle.farm_pool.specs.declared.image.TurnImage.{TurnImage}
use Rattle.farm_pool.specs.declared.image.CallImage.{CallImage}
use Rattle.farm_pool.specs.declared.image.CallImage.TheVariants as said
use Rattle.farm_pool.specs.declared.image.AnswerImage.{AnswerImage}
use Rattle.farm_pool.specs.declared.image.AnswerImage.TheVariants as told
use Rattle.farm_pool.specs.Closed.{entry_in, answer_in, WasAnswered, AreCallsOf, ClosedPoolsAreIsolated, RepliesAreInTheHistory}
use Rattle.farm_pool.specs.Laws.{own_in}
use Rattle.farm_pool.specs.Served.{tenant_at, IsStep, IsAnswered, IsSentOut, Answers, Served}
use Rattle.farm_pool.specs.Worked.{PoolView, IsClosed}
use Rattle.farm_pool.proofs.EntryLemmas.{purse_at, purse_on, purse_off}
use Rattle.farm_pool.proofs.LawLemmas.{steps_to, seen_after}

-- ---- an answer with an entry is the step's

no_entry : (e : Entry) → Some e ≡ None → ⊥
no_entry e is = cc

same_entry : (noted : Bool) (e d : Entry) → Some e ≡ cond {A = Option Entry} noted (Some d) None → e ≡ d
same_entry true e d is = cc
same_entry false e d is = absurd (no_entry e is)

-- the step of an entry's tenant there
abbrev stepped : ConfigData → List Entry → Entry → Answer
stepped config before e = (step (tenant_at config before e.tenant) e.event).answer

step_is : (config : ConfigData) (before : List Entry) (t : ℕ) (event : Event) (e : Entry) (answer : Answer)
    → IsStep config before t event (Some e) answer → answer ≡ stepped config before e
step_is config before t event e answer is =
    let own : Entry = record { tenant = t; event = event } in
    is.answer_is ∙ ap (stepped config before) (sym (same_entry (is_noted answer) e own is.entry_is))

-- a job of which a turn went out, as the turn tells it
pub sent_job : (i : TurnImage) (job : JobData) (slice : ℕ) → job.seq ≡ i.seq → i.plan ≡ job.plan → i.nodes ≡ job.nodes → i.left ≡ job.left → i.slice ≡ slice
    → let told : JobData = record { seq = i.seq; plan = i.plan; phase = Out i.slice; nodes = i.nodes; left = i.left; here = false } in
    told ≡ gone_out slice job
sent_job i job slice seq plan nodes left at = rw (seq, plan, nodes, left, at) refl

sent_is : (config : ConfigData) (before : List Entry) (slice : ℕ) (e : Entry) (i : TurnImage) → IsSentOut config before slice (Some e) i
    → answer_in (told.Sent i) ≡ stepped config before e
sent_is config before slice e i it =
    ap (λ (job : JobData). Sent (line_of job))
    (sent_job i it.job slice (found_seq i.seq (tenant_at config before i.tenant).jobs it.job it.found)
    (ap (λ (m : Meaning). m.plan) it.search) (ap (λ (m : Meaning). m.nodes) it.search) (ap (λ (m : Meaning). m.left) it.search) it.slice_is)
    ∙ step_is config before i.tenant (Take i.seq slice) e (Sent (line_of (gone_out slice it.job))) it.steps

replied_is : (config : ConfigData) (before : List Entry) (t : ℕ) (event : Event) (e : Entry) (r : Reply) → IsAnswered config before t event (Some e) r
    → Replied r ≡ stepped config before e
replied_is config before t event e reply.NoMemory it = absurd (no_entry e it.entry_is)
replied_is config before t event e r it = step_is config before t event e (Replied r) it

answer_is : (config : ConfigData) (before : List Entry) (asked : CallImage) (e : Entry) (answer : AnswerImage)
    → Answers config before asked (Some e) answer → answer_in answer ≡ stepped config before e
answer_is config before (said.Asked t event) e (told.Replied r) it = replied_is config before t event e r it
answer_is config before (said.Next slice) e (told.Sent i) it = sent_is config before slice e i it
answer_is config before (said.Next slice) e told.Idle it = absurd (no_entry e it.entry_is)
answer_is config before (said.Next slice) e told.NoMemory it = absurd (no_entry e it.entry_is)
answer_is config before (said.Back i) e (told.Gave r) it = step_is config before i.tenant (Give i.seq i.ran) e (Replied r) it.steps
answer_is config before (said.Back i) e told.Stray it = absurd (no_entry e it.entry_is)
answer_is config before asked e answer it = absurd it

answered_is : (config : ConfigData) (before : List Entry) (c : Call) → WasAnswered config before c → c.answer ≡ stepped config before (entry_in c)
answered_is config before c was = was.answer ∙ answer_is config before was.asked (entry_in c) was.told was.served.answers

-- ---- the answers to a purse's members

abbrev pub AreAnswered : ConfigData → List Entry → List Call → Type 0
AreAnswered config before [] = ⊤
AreAnswered config before (c ∷ calls) = WasAnswered config before c × AreAnswered config (before ++ entry_in c ∷ []) calls

answered_from : (config : ConfigData) (all front calls : List Call) → all ≡ front ++ calls
    → ((before behind : List Call) (c : Call) → all ≡ before ++ c ∷ behind → WasAnswered config (map entry_in before) c)
    → AreAnswered config (map entry_in front) calls
answered_from config all front [] whole each = tt
answered_from config all front (c ∷ calls) whole each = (
  each front calls c whole,
  subst (λ es. AreAnswered config es calls) (map-append entry_in front (c ∷ []))
      (answered_from config all (front ++ c ∷ []) calls (whole ∙ sym (append_assoc front (c ∷ []) calls)) each),
)

hit : {X Y : Type 0} (f : X → Bool) (g : X → Y) (x : X) (xs : List X) → f x ≡ true → map g (filter f (x ∷ xs)) ≡ g x ∷ map g (filter f xs)
hit {X} f g x xs is = ap (λ (b : Bool). map g (cond {A = List X} b (x ∷ filter f xs) (filter f xs))) is

miss : {X Y : Type 0} (f : X → Bool) (g : X → Y) (x : X) (xs : List X) → f x ≡ false → map g (filter f (x ∷ xs)) ≡ map g (filter f xs)
miss {X} f g x xs is = ap (λ (b : Bool). map g (cond {A = List X} b (x ∷ filter f xs) (filter f xs))) is

-- what a purse's members are told after these entries, alone
abbrev told_then : ConfigData → ℕ → List Entry → List Call → List Answer
told_then config p before calls = answers_alone (purse_at config before p) (events_of config p (map entry_in calls))

own_hit : (config : ConfigData) (p : ℕ) (before : List Entry) (c : Call) (calls : List Call) → WasAnswered config before c → purse_in config c.tenant ≡ p
    → own_answers config p calls ≡ told_then config p (before ++ entry_in c ∷ []) calls → own_answers config p (c ∷ calls) ≡ told_then config p before (c ∷ calls)
own_hit config p before c calls was at rest =
    let e : Entry = entry_in c in
    let es : List Entry = map entry_in calls in
    let here : Purse = purse_at config before p in
    let place = place_in config c.tenant in
    let first : c.answer ≡ (step (seat here place) c.event).answer =
    answered_is config before c was ∙ ap (λ n. (step (seat (purse_at config before n) place) c.event).answer) at in
    let next : purse_at config (before ++ e ∷ []) p ≡ with_seat here place (step (seat here place) c.event).after =
    subst (λ n. purse_at config (before ++ e ∷ []) n ≡ with_seat (purse_at config before n) place (step (seat (purse_at config before n) place) c.event).after) at
    (purse_on config before e) in
    let mine : List Answer = own_answers config p calls in
    hit (λ (d : Call). eqb (purse_in config d.tenant) p) (λ (d : Call). d.answer) c calls (is_eq (purse_in config c.tenant) p at)
    ∙ ap (λ (a : Answer). a ∷ mine) first
    ∙ ap (λ (answers : List Answer). (step (seat here place) c.event).answer ∷ answers)
    (rest ∙ ap (λ (then : Purse). answers_alone then (events_of config p es)) next)
    ∙ sym
    (ap (answers_alone here)
    (hit (λ (d : Entry). eqb (purse_in config d.tenant) p) (asked_in config) e es (is_eq (purse_in config c.tenant) p at)))

own_miss : (config : ConfigData) (p : ℕ) (before : List Entry) (c : Call) (calls : List Call) → (p ≡ purse_in config c.tenant → ⊥)
    → own_answers config p calls ≡ told_then config p (before ++ entry_in c ∷ []) calls → own_answers config p (c ∷ calls) ≡ told_then config p before (c ∷ calls)
own_miss config p before c calls differ rest =
    let e : Entry = entry_in c in
    let es : List Entry = map entry_in calls in
    let other = is_ne (purse_in config c.tenant) p (λ h. differ (sym h)) in
    miss (λ (d : Call). eqb (purse_in config d.tenant) p) (λ (d : Call). d.answer) c calls other ∙ rest
    ∙ ap (λ (then : Purse). answers_alone then (events_of config p es)) (purse_off config before e p differ)
    ∙ sym (ap (answers_alone (purse_at config before p)) (miss (λ (d : Entry). eqb (purse_in config d.tenant) p) (asked_in config) e es other))

own_told : (config : ConfigData) (p : ℕ) (before : List Entry) (calls : List Call) → AreAnswered config before calls
    → own_answers config p calls ≡ told_then config p before calls
own_told config p before [] all = refl
own_told config p before (c ∷ calls) all =
    let rest = own_told config p (before ++ entry_in c ∷ []) calls all.1 in
    ⊎_elim
    (λ (same : p ≡ purse_in config c.tenant). own_hit config p before c calls all.0 (sym same) rest)
    (λ (differ : p ≡ purse_in config c.tenant → ⊥). own_miss config p before c calls differ rest)
    (cases_eq p (purse_in config c.tenant))

-- the answers in a history are those of the purse's own calls alone
answers_in : (config : ConfigData) (p : ℕ) (log : List (ℕ × Entry)) (calls : List Call) → AreCallsOf config log calls
    → own_answers config p calls ≡ answers_alone (opened_purse config p) (own_in config p log)
answers_in config p log calls of =
    own_told config p [] calls (answered_from config calls [] calls refl of.each)
    ∙ ap (λ (es : List Entry). answers_alone (opened_purse config p) (events_of config p es)) of.entries

-- and what a closed pool's farm holds of the purse is where they lead
purse_then : (v : PoolView) (w : World) (closed : IsClosed v w) (p : ℕ) → purse p w ≡ after_alone (opened_purse w.config p) (own_in w.config p closed.log)
purse_then v w closed p =
    closed.replayed p ∙ ap (λ (es : List Entry). after_alone (opened_purse w.config p) (events_of w.config p es)) closed.journal

pub closed_pools_are_isolated : ClosedPoolsAreIsolated
closed_pools_are_isolated v w x y one two p q begins own = (
  λ calls others of also.
      answers_in w.config p one.log calls of ∙ ap (λ (first : Purse). answers_alone first (own_in w.config p one.log)) begins
      ∙ ap (answers_alone (opened_purse y.config q)) own ∙ sym (answers_in y.config q two.log others also),
  purse_then v w one p ∙ ap (λ (first : Purse). after_alone first (own_in w.config p one.log)) begins ∙ ap (after_alone (opened_purse y.config q)) own
      ∙ sym (purse_then x y two q),
)

-- ---- each reply is among them

-- the calls that a legal history tells
calls_from : (config : ConfigData) (before es : List Entry) → LegalFrom Served config before es → List Call
calls_from config before [] legal = []
calls_from config before (e ∷ es) legal =
    record { tenant = e.tenant; event = e.event; answer = answer_in legal.0.1 } ∷ calls_from config (before ++ e ∷ []) es legal.1

entries_from : (config : ConfigData) (before es : List Entry) (legal : LegalFrom Served config before es) → map entry_in (calls_from config before es legal) ≡ es
unfolding calls_from
entries_from config before [] legal = refl
entries_from config before (e ∷ es) legal = ap (λ (ds : List Entry). e ∷ ds) (entries_from config (before ++ e ∷ []) es legal.1)

each_from : (config : ConfigData) (before es : List Entry) (legal : LegalFrom Served config before es) → AreAnswered config before (calls_from config before es legal)
unfolding calls_from
each_from config before [] legal = tt
each_from config before (e ∷ es) legal = (
  record { asked = legal.0.0; told = legal.0.1; served = legal.0.2; answer = refl },
  each_from config (before ++ e ∷ []) es legal.1,
)

pub answered_at : (config : ConfigData) (before : List Entry) (calls front behind : List Call) (c : Call) → AreAnswered config before calls
    → calls ≡ front ++ c ∷ behind → WasAnswered config (before ++ map entry_in front) c
answered_at config before [] [] behind c all whole = absurd (cc)
answered_at config before [] (d ∷ front) behind c all whole = absurd (cc)
answered_at config before (d ∷ calls) [] behind c all whole =
    let same : d ≡ c = cc in
    subst (λ es. WasAnswered config es c) (sym (append-nil before)) (subst (WasAnswered config before) same all.0)
answered_at config before (d ∷ calls) (f ∷ front) behind c all whole =
    let same : d ≡ f = cc in
    let rest : calls ≡ front ++ c ∷ behind = cc in
    subst (λ es. WasAnswered config es c) (ap (λ (g : Call). (before ++ entry_in g ∷ []) ++ map entry_in front) same ∙ append_assoc before (entry_in f ∷ []) (map entry_in front))
    (answered_at config (before ++ entry_in d ∷ []) calls front behind c all.1 rest)

calls_are : (v : PoolView) (w : World) (closed : IsClosed v w) → (calls : List Call) × AreCallsOf w.config closed.log calls
calls_are v w closed =
    let entries : List Entry = history.events_of closed.log in
    let calls : List Call = calls_from w.config [] entries closed.legal in (
      calls,
      record {
        entries = entries_from w.config [] entries closed.legal;
        each = λ before behind c whole. answered_at w.config [] calls before behind c (each_from w.config [] entries closed.legal) whole;
      },
    )

-- where a call stands whose entry stands behind these
record Stands (before : List Entry) (e : Entry) (calls : List Call) : Type 0 where
  front : List Call
  behind : List Call
  call : Call
  whole : calls ≡ front ++ call ∷ behind
  entries : map entry_in front ≡ before
  own : entry_in call ≡ e
  here : slice_get calls (length before) ≡ Some call

stands : (before rest : List Entry) (e : Entry) (calls : List Call) → map entry_in calls ≡ before ++ e ∷ rest → Stands before e calls
stands [] rest e [] are = absurd (cc)
stands [] rest e (c ∷ calls) are =
    let own : entry_in c ≡ e = cc in
    record { front = []; behind = calls; call = c; whole = refl; entries = refl; own = own; here = refl }
stands (d ∷ before) rest e [] are = absurd (cc)
stands (d ∷ before) rest e (c ∷ calls) are =
    let own : entry_in c ≡ d = cc in
    let more : map entry_in calls ≡ before ++ e ∷ rest = cc in
    let it = stands before rest e calls more in
    record {
      front = c ∷ it.front;
      behind = it.behind;
      call = it.call;
      whole = ap (λ (cs : List Call). c ∷ cs) it.whole;
      entries = ap (λ (f : Entry). f ∷ map entry_in it.front) own ∙ ap (λ (es : List Entry). d ∷ es) it.entries;
      own = it.own;
      here = it.here;
    }

pub noted_reply : (r : Reply) → is_noted (Replied r) ≡ true → r ≡ reply.NoMemory → ⊥
noted_reply r noted is = let not : false ≡ true = sym (ap (λ (x : Reply). is_noted (Replied x)) is) ∙ noted in absurd (cc)

left_entry : (noted : Bool) (event : Option Entry) (e : Entry) → noted ≡ true → event ≡ cond {A = Option Entry} noted (Some e) None → listed event ≡ e ∷ []
left_entry true event e so is = ap listed is
left_entry false event e so is = absurd (cc)

call_same : (c : Call) (t : ℕ) (event : Event) (answer : Answer) → entry_in c ≡ record { tenant = t; event = event } → c.answer ≡ answer
    → c ≡ record { tenant = t; event = event; answer = answer }
call_same c t event answer entry is =
    let whose : c.tenant ≡ t = ap (λ (e : Entry). e.tenant) entry in
    let what : c.event ≡ event = ap (λ (e : Entry). e.event) entry in
    rw (sym whose, sym what, sym is) refl

replied : (v w : PoolView) (t : ℕ) (event : Event) (r : Reply) (called : Called Served v (said.Asked t event) (told.Replied r) w)
    → is_noted (Replied r) ≡ true → (log : List (ℕ × Entry)) → IsPrefix w.seen log → (calls : List Call) → AreCallsOf called.opening log calls
    → slice_get calls (length called.before) ≡ Some (record { tenant = t; event = event; answer = Replied r })
replied v w t event r called noted log begins calls of =
    let config : ConfigData = called.opening in
    let before : List Entry = history.events_of called.before in
    let e : Entry = record { tenant = t; event = event } in
    let is = steps_to config before t event called.event r (noted_reply r noted) called.stands.answers in
    let seen : history.events_of w.seen ≡ before ++ e ∷ [] =
    seen_after v w t event r called ∙ ap (λ es. before ++ es) (left_entry (is_noted (Replied r)) called.event e noted is.entry_is) in
    let rest : List Entry = history.events_of begins.0 in
    let whole : history.events_of log ≡ before ++ e ∷ rest =
    ap history.events_of (sym begins.1) ∙ events_of-append w.seen begins.0 ∙ ap (λ es. es ++ rest) seen ∙ append_assoc before (e ∷ []) rest in
    let it = stands before rest e calls (of.entries ∙ whole) in
    let answer : it.call.answer ≡ Replied r =
    answered_is config (map entry_in it.front) it.call (of.each it.front it.behind it.call it.whole)
    ∙ ap (λ (es : List Entry). stepped config es (entry_in it.call)) it.entries ∙ ap (stepped config before) it.own ∙ sym is.answer_is in
    ap (slice_get calls) (sym (length-events_of called.before)) ∙ it.here ∙ ap Some (call_same it.call t event (Replied r) it.own answer)

pub replies_are_in_the_history : RepliesAreInTheHistory
replies_are_in_the_history = record { some = calls_are; replied = replied }
