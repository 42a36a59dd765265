-- Each run of the farm is that of a closed pool, whichever passes made its calls.
use Rattle.std.proofs.Common.{◌≡◌, ◌≢◌, ℕ, zero, suc, ◌+◌, ◌-◌, ◌<◌, Bool, true, false, cond, ◌&&◌, List, [], ◌∷◌, ◌++◌, length, map, Option, Some, None, refl, sym, ap, ◌∙◌, subst, arith, eqb, eq-eqb, append_assoc, append-nil, inl, ⊎_elim}
use Rattle.std.specs.Prelude.{slice_get}
use Rattle.std.proofs.lemmas.Bool.{cond_both, and_parts, both_ways, cases_Bool}
use Rattle.std.proofs.lemmas.Bool.Decides.{nat_tests}
use Rattle.job_table.specs.Table.{JobData, is_waiting, is_out}
use Rattle.job_table.specs.Job.{gone_out, is_turn, back}
use Rattle.job_table.specs.declared.phase.Phase.{Phase}
use Rattle.job_table.specs.declared.phase.Phase.TheVariants.{Waiting, Out, Leaving, Dry, Closed, Cancelled}
use Rattle.farm_core.specs.declared.entry.Entry.{Entry}
use Rattle.farm_core.specs.declared.entry.Event.{Event}
use Rattle.farm_core.specs.declared.entry.Event.TheVariants.{Take, Give}
use Rattle.farm_core.specs.declared.reply.Reply.{Reply}
use Rattle.farm_core.specs.declared.reply.Reply.TheVariants as reply
use Rattle.farm_core.specs.Config.{ConfigData}
use Rattle.farm_core.specs.Tenant.{Tenant, find_job, line_of}
use Rattle.farm_core.specs.Step.{Answer, Replied, Sent, NoTurn, Effect, Nothing, Changes, done, step, has_room, is_slice, may_have_run, to_take, to_give, about}
use Rattle.farm_core.specs.World.{World, Call, opened, member, purse, view, is_noted, Steps, Leads, IsOfJournal}
use Rattle.farm_core.specs.Truth.{IsPlanned, IsAmong, ArePlanned}
use Rattle.farm_core.proofs.DecisionLemmas.{Cases, each_decision}
use Rattle.farm_core.proofs.ReplayLemmas.{replayed_on, opened_replayed}
use Rattle.farm_core.proofs.RunningLemmas.{found_seq}
use Rattle.turn_lock.specs.History as history
use Rattle.turn_lock.specs.History.{listed, tagged, LegalFrom, IsLegal}
use Rattle.turn_lock.specs.Plays.{having_made, newcomer}
use Rattle.turn_lock.specs.Rule as rule
use Rattle.turn_lock.specs.declared.view.Stage.TheVariants.{Idle}
use Rattle.turn_lock.proofs.Histories.{events_of-append, events_of-tagged, prefix_self, prefix_longer, legal-push, legal-more, entries_of-append, entries_of-own, entries_of-others}
use Rattle.farm_pool.specs.declared.image.TurnImage.{TurnImage}
use Rattle.farm_pool.specs.declared.image.CallImage.{CallImage}
use Rattle.farm_pool.specs.declared.image.CallImage.TheVariants as said
use Rattle.farm_pool.specs.declared.image.AnswerImage.{AnswerImage}
use Rattle.farm_pool.specs.declared.image.AnswerImage.TheVariants as told
use Rattle.farm_pool.specs.Closed.{entry_in, answer_in, WasAnswered, AreCallsOf}
use Rattle.farm_pool.specs.Laws.{turn_of}
use Rattle.farm_pool.specs.Runs.{noted, EachRunIsAClosedPools, IsInside, AsksFor, WasTold, EachCallOfARunCanBeMade, with_pass, AreMade, PassesCanMakeEachRun}
use Rattle.farm_pool.specs.Served.{tenant_at, entry_if, Served}
use Rattle.farm_pool.specs.Worked.{PoolView, IsClosed}
use Rattle.farm_pool.proofs.ClosedLemmas.{AreAnswered, answered_at, noted_reply, sent_job}
use Rattle.farm_pool.proofs.MadeLemmas.{can_serve, entry_left}
use Rattle.farm_pool.proofs.ServedLemmas.{one_or_none, stands_at}
use Rattle.farm_pool.proofs.TurnLemmas.{take_served, give_served}

-- ---- what a tenant's step answers can be answered in a pool

-- so the pool is asked, and so it answers
record IsServed (config : ConfigData) (before : List Entry) (t : ℕ) (e : Event) (answer : Answer) : Type 0 where
  asked : CallImage
  told : AnswerImage
  asks : AsksFor t e asked
  served : Served config before asked (entry_if t e answer) told
  answer_is : answer ≡ answer_in told

record IsReplied (answer : Answer) : Type 0 where
  said_is : Reply
  is : answer ≡ Replied said_is
  memory : said_is ≢ reply.NoMemory

abbrev is_command : Event → Bool
is_command (Take s slice) = false
is_command (Give s ran) = false
is_command e = true

-- a command is replied to
replied_to : (t : Tenant) → Cases t (λ e f. is_command e ≡ true → (done t f).answer ≢ NoTurn → IsReplied (done t f).answer)
replied_to t = record {
  full = λ e command turn. record { said_is = reply.NoRoom; is = refl; memory = λ is. absurd (cc) };
  idle = λ e command turn. absurd (turn refl);
  notes = λ e answer room it command turn. record { said_is = answer; is = refl; memory = noted_reply answer it.noted };
  adds = λ plan quanta room some command turn. record { said_is = _; is = refl; memory = λ is. absurd (cc) };
  funds = λ s quanta job room found can command turn. record { said_is = _; is = refl; memory = λ is. absurd (cc) };
  cancels = λ s job new room found gone command turn. record { said_is = _; is = refl; memory = λ is. absurd (cc) };
  drops = λ s job room found ended command turn. record { said_is = _; is = refl; memory = λ is. absurd (cc) };
  takes = λ s slice job room found waits command turn. absurd (cc);
  gives = λ s ran job found may command turn. absurd (cc);
}

asked_by : (t : ℕ) (e : Event) → is_command e ≡ true → AsksFor t e (said.Asked t e)
asked_by t (Take s slice) command = absurd (cc)
asked_by t (Give s ran) command = absurd (cc)
asked_by t e command = refl

command_served : (config : ConfigData) (before : List Entry) → LegalFrom Served config [] before → (t : ℕ) → t < length config.tenants
    → (e : Event) → is_command e ≡ true → IsPlanned e → (step (tenant_at config before t) e).answer ≢ NoTurn
    → IsServed config before t e (step (tenant_at config before t) e).answer
command_served config before legal t known e command planned turn =
    let tenant : Tenant = tenant_at config before t in
    let it = each_decision tenant (λ d f. is_command d ≡ true → (done tenant f).answer ≢ NoTurn → IsReplied (done tenant f).answer) (replied_to tenant) e command turn in
    subst (IsServed config before t e) (sym it.is)
    (record {
      asked = said.Asked t e;
      told = told.Replied it.said_is;
      asks = asked_by t e command;
      served = can_serve config before legal t known e planned it.said_is it.is it.memory;
      answer_is = refl;
    })

-- a turn that its job's tenant takes
sent_answer : (t s slice : ℕ) (jobs : List JobData) (job : JobData) → find_job s jobs ≡ Some job
    → Sent (line_of (gone_out slice job)) ≡ answer_in (told.Sent (turn_of t s slice 0 job))
sent_answer t s slice jobs job found =
    let nodes : job.nodes + 0 ≡ job.nodes = omega arith in
    let left : job.left - 0 ≡ job.left = omega arith in
    ap (λ (j : JobData). Sent (line_of j)) (sym (sent_job (turn_of t s slice 0 job) job slice (found_seq s jobs job found) refl nodes left refl))

take_answered : (config : ConfigData) (before : List Entry) → LegalFrom Served config [] before → (t : ℕ) → t < length config.tenants
    → (s slice : ℕ) (found : Option JobData) → find_job s (tenant_at config before t).jobs ≡ found
    → let answer : Answer = (done (tenant_at config before t) (about (Nothing NoTurn) (to_take (tenant_at config before t) slice) found)).answer in
    answer ≢ NoTurn → IsServed config before t (Take s slice) answer
take_answered config before legal t known s slice None is = λ turn. absurd (turn refl)
take_answered config before legal t known s slice (Some job) is =
    let tenant : Tenant = tenant_at config before t in
    let new : JobData = gone_out slice job in
    cond_both (is_waiting job.phase && is_slice slice && has_room 2 tenant) (Changes new 0 (Sent (line_of new))) (Nothing NoTurn)
    (λ (f : Effect). (done tenant f).answer ≢ NoTurn → IsServed config before t (Take s slice) (done tenant f).answer)
    (λ may _.
    let parts = and_parts (is_waiting job.phase && is_slice slice) (has_room 2 tenant) may in
    let ready = and_parts (is_waiting job.phase) (is_slice slice) parts.0 in
    record {
      asked = said.Next slice;
      told = told.Sent (turn_of t s slice 0 job);
      asks = refl;
      served = take_served config before legal t s slice job known is ready.0 ready.1 parts.1;
      answer_is = sent_answer t s slice tenant.jobs job is;
    })
    (λ _ turn. absurd (turn refl))

-- a turn that comes back
turn_out : (phase : Phase) → is_out phase ≡ true → (slice : ℕ) × (is_turn slice phase ≡ true)
turn_out Waiting is = absurd (cc)
turn_out (Out slice) is = (slice, eq-eqb slice slice refl)
turn_out (Leaving slice) is = (slice, eq-eqb slice slice refl)
turn_out Dry is = absurd (cc)
turn_out Closed is = absurd (cc)
turn_out Cancelled is = absurd (cc)

give_answered : (config : ConfigData) (before : List Entry) → LegalFrom Served config [] before → (t : ℕ) → t < length config.tenants
    → (s ran : ℕ) (found : Option JobData) → find_job s (tenant_at config before t).jobs ≡ found
    → let answer : Answer = (done (tenant_at config before t) (about (Nothing NoTurn) (to_give ran) found)).answer in
    answer ≢ NoTurn → IsServed config before t (Give s ran) answer
give_answered config before legal t known s ran None is = λ turn. absurd (turn refl)
give_answered config before legal t known s ran (Some job) is =
    let tenant : Tenant = tenant_at config before t in
    let new : JobData = back ran job in
    cond_both (may_have_run ran job job.phase) (Changes new ran (Replied (reply.Ran ran (line_of new)))) (Nothing NoTurn)
    (λ (f : Effect). (done tenant f).answer ≢ NoTurn → IsServed config before t (Give s ran) (done tenant f).answer)
    (λ may _.
    let out = turn_out job.phase (and_parts (is_out job.phase) _ may).0 in
    let turn : TurnImage = turn_of t s out.0 ran job in
    record {
      asked = said.Back turn;
      told = told.Gave (reply.Ran ran (line_of new));
      asks = (turn, refl, refl, refl, refl);
      served = give_served config before legal t s out.0 ran job known is out.1 may;
      answer_is = refl;
    })
    (λ _ turn. absurd (turn refl))

can_be_served : (config : ConfigData) (before : List Entry) → LegalFrom Served config [] before → (t : ℕ) → t < length config.tenants
    → (e : Event) → IsPlanned e → (step (tenant_at config before t) e).answer ≢ NoTurn
    → IsServed config before t e (step (tenant_at config before t) e).answer
can_be_served config before legal t known (Take s slice) planned turn =
    take_answered config before legal t known s slice (find_job s (tenant_at config before t).jobs) refl turn
can_be_served config before legal t known (Give s ran) planned turn =
    give_answered config before legal t known s ran (find_job s (tenant_at config before t).jobs) refl turn
can_be_served config before legal t known e planned turn = command_served config before legal t known e refl planned turn

-- ---- along a run

-- a farm that its journal leads to, by calls of a pool
record IsReached (config : ConfigData) (w : World) : Type 0 where
  config_is : w.config ≡ config
  legal : LegalFrom Served config [] w.journal
  replayed : IsOfJournal w

reached_opened : (config : ConfigData) → IsReached config (opened config)
unfolding opened
reached_opened config = record { config_is = refl; legal = tt; replayed = opened_replayed config }

-- the order in which jobs wait is no part of a purse
replayed_then : (old new : World) (t : ℕ) (e : Event) (answer : Answer) → IsOfJournal old → Steps old t e answer new → IsOfJournal new
unfolding view member purse
replayed_then old new t e answer at it =
    let mid : World = record new { waiting = old.waiting } in
    replayed_on old mid t e answer at
    (record {
      known = it.known;
      answer_is = it.answer_is;
      own = it.own;
      others = it.others;
      purses = it.purses;
      order = inl refl;
      journal = it.journal;
      config = it.config;
    })

step_served : (config : ConfigData) (old new : World) (c : Call) → IsReached config old → Steps old c.tenant c.event c.answer new
    → IsPlanned c.event → c.answer ≢ NoTurn → IsServed config old.journal c.tenant c.event c.answer
step_served config old new c at it planned turn =
    let t = c.tenant in
    let seen : view t old ≡ tenant_at config old.journal t =
    stands_at old t at.replayed it.known ∙ ap (λ (k : ConfigData). tenant_at k old.journal t) at.config_is in
    let same : c.answer ≡ (step (tenant_at config old.journal t) c.event).answer = it.answer_is ∙ ap (λ (v : Tenant). (step v c.event).answer) seen in
    subst (IsServed config old.journal t c.event) (sym same)
    (can_be_served config old.journal at.legal t (subst (λ (k : ConfigData). t < length k.tenants) at.config_is it.known) c.event planned (λ is. turn (same ∙ is)))

-- the calls that left entries, of those by which one farm leads to another
record IsPlayed (config : ConfigData) (old : World) (calls : List Call) (new : World) : Type 0 where
  answered : AreAnswered config old.journal calls
  journal : new.journal ≡ old.journal ++ map entry_in calls
  reached : IsReached config new

no_turn_noted : (answer : Answer) → is_noted answer ≡ true → answer ≢ NoTurn
no_turn_noted answer noted is = let not : false ≡ true = sym (ap is_noted is) ∙ noted in absurd (cc)

was_answered : (config : ConfigData) (before : List Entry) (c : Call) → is_noted c.answer ≡ true
    → IsServed config before c.tenant c.event c.answer → WasAnswered config before c
was_answered config before c left it = record {
  asked = it.asked;
  told = it.told;
  served =
      subst (λ entry. Served config before it.asked entry it.told) (ap (λ b. cond {A = Option Entry} b (Some (entry_in c)) None) left) it.served;
  answer = it.answer_is;
}

played_one : (config : ConfigData) (old mid : World) (c : Call) → IsReached config old → Steps old c.tenant c.event c.answer mid
    → IsPlanned c.event → is_noted c.answer ≡ true → IsPlayed config old (c ∷ []) mid
played_one config old mid c at it planned left =
    let was : WasAnswered config old.journal c =
    was_answered config old.journal c left (step_served config old mid c at it planned (no_turn_noted c.answer left)) in
    let journal : mid.journal ≡ old.journal ++ entry_in c ∷ [] = it.journal ∙ ap (λ es. old.journal ++ es) (entry_left c.tenant c.event c.answer left) in
    record {
      answered = (was, tt);
      journal = journal;
      reached = record {
        config_is = it.config ∙ at.config_is;
        legal = subst (LegalFrom Served config []) (sym journal) (legal-push Served config [] old.journal (entry_in c) at.legal (was.asked, was.told, was.served));
        replayed = replayed_then old mid c.tenant c.event c.answer at.replayed it;
      };
    }

played_none : (config : ConfigData) (old mid : World) (c : Call) → IsReached config old → Steps old c.tenant c.event c.answer mid
    → is_noted c.answer ≡ false → IsPlayed config old [] mid
played_none config old mid c at it none =
    let journal : mid.journal ≡ old.journal ++ [] =
    it.journal ∙ ap (λ b. old.journal ++ cond {A = List Entry} b (entry_in c ∷ []) []) none in
    record {
      answered = tt;
      journal = journal;
      reached = record {
        config_is = it.config ∙ at.config_is;
        legal = subst (LegalFrom Served config []) (sym (journal ∙ append-nil old.journal)) at.legal;
        replayed = replayed_then old mid c.tenant c.event c.answer at.replayed it;
      };
    }

played_more : (config : ConfigData) (old mid new : World) (c : Call) (calls : List Call) → IsPlayed config old (c ∷ []) mid → IsPlayed config mid calls new
    → IsPlayed config old (c ∷ calls) new
played_more config old mid new c calls one rest = record {
  answered = (one.answered.0, subst (λ es. AreAnswered config es calls) one.journal rest.answered);
  journal =
      rest.journal ∙ ap (λ es. es ++ map entry_in calls) one.journal ∙ append_assoc old.journal (entry_in c ∷ []) (map entry_in calls);
  reached = rest.reached;
}

played_same : (config : ConfigData) (old mid new : World) (calls : List Call) → IsPlayed config old [] mid → IsPlayed config mid calls new
    → IsPlayed config old calls new
played_same config old mid new calls none rest =
    let same : mid.journal ≡ old.journal = none.journal ∙ append-nil old.journal in
    record {
      answered = subst (λ es. AreAnswered config es calls) same rest.answered;
      journal = rest.journal ∙ ap (λ es. es ++ map entry_in calls) same;
      reached = rest.reached;
    }

played : (config : ConfigData) (old new : World) (calls : List Call) → IsReached config old → ArePlanned calls → Leads old calls new
    → IsPlayed config old (noted calls) new
played config old new [] at planned run = record {
  answered = tt;
  journal = ap (λ (w : World). w.journal) run ∙ sym (append-nil old.journal);
  reached = subst (IsReached config) (sym run) at;
}
played config old new (c ∷ calls) at planned run =
    let mid : World = run.0 in
    let more : ArePlanned calls = λ d among. planned d (suc among.0, among.1) in
    cond_both (is_noted c.answer) (c ∷ noted calls) (noted calls) (λ ns. IsPlayed config old ns new)
    (λ left.
    let one = played_one config old mid c at run.1 (planned c (0, refl)) left in
    played_more config old mid new c (noted calls) one (played config mid new calls one.reached more run.2))
    (λ unleft.
    let none = played_none config old mid c at run.1 unleft in
    played_same config old mid new (noted calls) none (played config mid new calls none.reached more run.2))

-- whoever closes the pool then
closed_by : (config : ConfigData) (w : World) (log : List (ℕ × Entry)) (v : PoolView) → IsReached config w → history.events_of log ≡ w.journal
    → IsInside config log v → (closed : IsClosed v w) × (closed.log ≡ log)
closed_by config w log v at is inside = (
  record {
    log = log;
    begins = inside.begins;
    journal = sym is;
    own = inside.own;
    config = inside.opened ∙ ap Some (sym at.config_is);
    legal = subst (λ (k : ConfigData). IsLegal Served k log) (sym at.config_is) (subst (LegalFrom Served config []) (sym is) at.legal);
    replayed = at.replayed;
  },
  refl,
)

pub each_run_is_a_closed_pools : EachRunIsAClosedPools
unfolding opened
each_run_is_a_closed_pools config calls w run planned log is =
    let it = played config (opened config) w calls (reached_opened config) planned run in
    let pass : PoolView = record { stage = Idle; number = 0; opening = Some config; seen = log; mine = history.entries_of 0 log; splits = 0; calls = 0 } in
    let closed = closed_by config w log pass it.reached is (record { opened = refl; begins = prefix_self log; own = refl }) in
    let of : AreCallsOf config log (noted calls) =
    record {
      entries = sym it.journal ∙ sym is;
      each = λ before behind c whole. answered_at config [] (noted calls) before behind c it.answered whole;
    } in
    record {
      pass = pass;
      closed = closed.0;
      log_is = closed.1;
      answered = subst (λ (k : ConfigData). AreCallsOf k log (noted calls)) (sym it.reached.config_is) of;
    }

-- ---- whoever makes a call

record Splits (old : World) (before : List Call) (c : Call) (new : World) : Type 0 where
  mid : World
  then : World
  run : Leads old before mid
  steps : Steps mid c.tenant c.event c.answer then

splits : (old new : World) (before behind : List Call) (c : Call) → Leads old (before ++ c ∷ behind) new → Splits old before c new
splits old new [] behind c run = record { mid = old; then = run.0; run = refl; steps = run.1 }
splits old new (d ∷ before) behind c run =
    let it = splits run.0 new before behind c run.2 in
    record { mid = it.mid; then = it.then; run = (run.0, run.1, it.run); steps = it.steps }

among_front : (front rest : List Call) (d : Call) (k : ℕ) → slice_get front k ≡ Some d → slice_get (front ++ rest) k ≡ Some d
among_front [] rest d k is = absurd (cc)
among_front (x ∷ front) rest d zero is = is
among_front (x ∷ front) rest d (suc k) is = among_front front rest d k is

among_at : (front behind : List Call) (c : Call) → IsAmong (front ++ c ∷ behind) c
among_at [] behind c = (0, refl)
among_at (x ∷ front) behind c = let it = among_at front behind c in (suc it.0, it.1)

told_to : (config : ConfigData) (log : List (ℕ × Entry)) → IsLegal Served config log → (v : PoolView) → IsInside config log v
    → (c : Call) → IsServed config (history.events_of log) c.tenant c.event c.answer → WasTold config log v c
told_to config log legal v inside c it =
    let entry : Option Entry = entry_if c.tenant c.event c.answer in
    let es : List (ℕ × Entry) = tagged v.number (listed entry) in
    let own : history.entries_of v.number (log ++ es) ≡ v.mine ++ es =
    entries_of-append v.number log es ∙ ap (λ xs. history.entries_of v.number log ++ xs) (entries_of-own v.number (listed entry))
    ∙ ap (λ xs. xs ++ es) inside.own in
    record {
      asked = it.asked;
      told = it.told;
      after = having_made v log (listed entry);
      called = record {
        opening = config;
        before = log;
        event = entry;
        opened = inside.opened;
        begins = inside.begins;
        after = refl;
        stands = it.served;
        legal = legal-more Served config it.asked it.told v.number log entry it.served legal;
        own = own;
      };
      asks = it.asks;
      before = refl;
      event = refl;
      answer = it.answer_is;
    }

pub each_call_of_a_run_can_be_made : EachCallOfARunCanBeMade
unfolding opened
each_call_of_a_run_can_be_made config before behind c w run planned turn log is v inside =
    let at = splits (opened config) w before behind c run in
    let front : ArePlanned before = λ d among. planned d (among.0, among_front before (c ∷ behind) d among.0 among.1) in
    let it = played config (opened config) at.mid before (reached_opened config) front at.run in
    let entries : at.mid.journal ≡ history.events_of log = it.journal ∙ sym is in
    told_to config log (subst (LegalFrom Served config []) entries it.reached.legal) v inside c
    (subst (λ es. IsServed config es c.tenant c.event c.answer) entries
    (step_served config at.mid at.then c it.reached at.steps (planned c (among_at before behind c)) turn))

-- ---- passes that make a whole run

-- each pass, by its number, may call after this history
abbrev AreInside : ConfigData → List (ℕ × Entry) → (ℕ → PoolView) → Type 0
AreInside config log passes = (n : ℕ) → ((passes n).number ≡ n) × IsInside config log (passes n)

-- the history after a call of this pass
abbrev grown : List (ℕ × Entry) → ℕ → Call → List (ℕ × Entry)
grown log by c = log ++ tagged by (listed (entry_if c.tenant c.event c.answer))

after_is : (config : ConfigData) (log : List (ℕ × Entry)) (v : PoolView) (c : Call) (told : WasTold config log v c)
    → told.after ≡ having_made v log (listed (entry_if c.tenant c.event c.answer))
after_is config log v c told =
    told.called.after ∙ ap (λ before. having_made v before (listed told.called.event)) told.before
    ∙ ap (λ event. having_made v log (listed event)) told.event

inside_again : (config : ConfigData) (log : List (ℕ × Entry)) (v : PoolView) (c : Call) → IsInside config log v
    → let entry = listed (entry_if c.tenant c.event c.answer) in IsInside config (grown log v.number c) (having_made v log entry)
inside_again config log v c inside =
    let entry : List Entry = listed (entry_if c.tenant c.event c.answer) in
    let es : List (ℕ × Entry) = tagged v.number entry in
    record {
      opened = inside.opened;
      begins = prefix_self (log ++ es);
      own =
          entries_of-append v.number log es ∙ ap (λ xs. history.entries_of v.number log ++ xs) (entries_of-own v.number entry) ∙ ap (λ xs. xs ++ es) inside.own;
    }

inside_beside : (config : ConfigData) (log : List (ℕ × Entry)) (by : ℕ) (c : Call) (u : PoolView) → by ≢ u.number → IsInside config log u
    → IsInside config (grown log by c) u
inside_beside config log by c u apart inside =
    let entry : List Entry = listed (entry_if c.tenant c.event c.answer) in
    let es : List (ℕ × Entry) = tagged by entry in
    record {
      opened = inside.opened;
      begins = prefix_longer u.seen log es inside.begins;
      own =
          entries_of-append u.number log es ∙ ap (λ xs. history.entries_of u.number log ++ xs) (entries_of-others by u.number entry apart)
          ∙ append-nil (history.entries_of u.number log) ∙ inside.own;
    }

is_number : (a b : ℕ) → eqb a b ≡ true → a ≡ b
is_number a b h = grind (arith, nat_tests)

abbrev IsAt : ConfigData → List (ℕ × Entry) → ℕ → PoolView → Type 0
IsAt config log n v = (v.number ≡ n) × IsInside config log v

all_inside : (config : ConfigData) (log : List (ℕ × Entry)) (passes : ℕ → PoolView) (by : ℕ) (c : Call) (told : WasTold config log (passes by) c)
    → AreInside config log passes → AreInside config told.after.seen (with_pass by told.after passes)
all_inside config log passes by c told all n =
    let entry : List Entry = listed (entry_if c.tenant c.event c.answer) in
    let v : PoolView = passes by in
    let is = after_is config log v c told in
    let seen : told.after.seen ≡ grown log v.number c = ap (λ (x : PoolView). x.seen) is in
    cond_both (eqb n by) told.after (passes n) (IsAt config told.after.seen n)
    (λ same.
    let at : n ≡ by = is_number n by same in (
      ap (λ (x : PoolView). x.number) is ∙ (all by).0 ∙ sym at,
      subst (λ (x : PoolView). IsInside config x.seen x) (sym is) (inside_again config log v c (all by).1),
    ))
    (λ differ.
    let apart : v.number ≢ (passes n).number = λ same. both_ways (eqb n by) differ (eq-eqb n by (sym (all n).0 ∙ sym same ∙ (all by).0)) in
    ((all n).0, subst (λ log. IsInside config log (passes n)) (sym seen) (inside_beside config log v.number c (passes n) apart (all n).1)))

reached_then : (config : ConfigData) (old mid : World) (c : Call) → IsReached config old → Steps old c.tenant c.event c.answer mid
    → IsPlanned c.event → IsReached config mid
reached_then config old mid c at it planned =
    ⊎_elim
    (λ left. (played_one config old mid c at it planned left).reached)
    (λ unleft. (played_none config old mid c at it unleft).reached)
    (cases_Bool (is_noted c.answer))

grown_is : (log : List (ℕ × Entry)) (old mid : World) (by : ℕ) (c : Call) → Steps old c.tenant c.event c.answer mid → history.events_of log ≡ old.journal
    → history.events_of (grown log by c) ≡ mid.journal
grown_is log old mid by c it is =
    let entry : List Entry = listed (entry_if c.tenant c.event c.answer) in
    events_of-append log (tagged by entry) ∙ ap (λ es. history.events_of log ++ es) (events_of-tagged by entry)
    ∙ ap (λ es. es ++ entry) is ∙ ap (λ es. old.journal ++ es) (sym (one_or_none (is_noted c.answer) (entry_in c))) ∙ sym it.journal

-- what passes that make these calls end with
record IsMade (config : ConfigData) (log : List (ℕ × Entry)) (passes : ℕ → PoolView) (calls : List (ℕ × Call)) (new : World) : Type 0 where
  end : List (ℕ × Entry)
  after : ℕ → PoolView
  made : AreMade config log passes calls end after
  inside : AreInside config end after
  journal : history.events_of end ≡ new.journal
  reached : IsReached config new

abbrev calls_of : List (ℕ × Call) → List Call
calls_of calls = map (λ (x : ℕ × Call). x.1) calls

made : (config : ConfigData) (log : List (ℕ × Entry)) (passes : ℕ → PoolView) (calls : List (ℕ × Call)) (old new : World) → IsReached config old
    → AreInside config log passes → history.events_of log ≡ old.journal → Leads old (calls_of calls) new → ArePlanned (calls_of calls)
    → ((c : Call) → IsAmong (calls_of calls) c → c.answer ≢ NoTurn) → IsMade config log passes calls new
made config log passes [] old new at all is run planned turns = record {
  end = log;
  after = passes;
  made = (refl, refl);
  inside = all;
  journal = is ∙ sym (ap (λ (w : World). w.journal) run);
  reached = subst (IsReached config) (sym run) at;
}
made config log passes (x ∷ calls) old new at all is run planned turns =
    let c : Call = x.1 in
    let v : PoolView = passes x.0 in
    let mid : World = run.0 in
    let legal : IsLegal Served config log = subst (LegalFrom Served config []) (sym is) at.legal in
    let served = subst (λ es. IsServed config es c.tenant c.event c.answer) (sym is) (step_served config old mid c at run.1 (planned c (0, refl)) (turns c (0, refl))) in
    let told : WasTold config log v c = told_to config log legal v (all x.0).1 c served in
    let seen : told.after.seen ≡ grown log v.number c = ap (λ (w : PoolView). w.seen) (after_is config log v c told) in
    let rest =
    made config told.after.seen (with_pass x.0 told.after passes) calls mid new (reached_then config old mid c at run.1 (planned c (0, refl)))
    (all_inside config log passes x.0 c told all)
    (ap history.events_of seen ∙ grown_is log old mid v.number c run.1 is) run.2
    (λ d among. planned d (suc among.0, among.1)) (λ d among. turns d (suc among.0, among.1)) in
    record { end = rest.end; after = rest.after; made = (told, rest.made); inside = rest.inside; journal = rest.journal; reached = rest.reached }

newcomers_inside : (config : ConfigData) → AreInside config [] (newcomer (rule.opened config))
newcomers_inside config n = (refl, record { opened = refl; begins = prefix_self []; own = refl })

pub passes_can_make_each_run : PassesCanMakeEachRun
unfolding opened
passes_can_make_each_run config calls w run planned turns =
    let it = made config [] (newcomer (rule.opened config)) calls (opened config) w (reached_opened config) (newcomers_inside config) refl run planned turns in
    record {
      log = it.end;
      passes = it.after;
      made = it.made;
      closed = λ n. closed_by config w it.end (it.after n) it.reached it.journal (it.inside n).1;
    }
