-- What a call of the farm is answered, by the entries before.
use Rattle.farm_pool.specs.declared.locked_farm.FarmAnswer.{FarmAnswer}
use Rattle.std.proofs.Common.{◌≡◌, ℕ, Bool, true, false, cond, List, [], ◌∷◌, ◌++◌, Option, Some, None, refl, sym, ap, ◌∙◌, subst, ◌<◌, length, ⊎_elim, inl, inr}
use Rattle.strategy.specs.Search.{Meaning}
use Rattle.job_table.specs.Job.{gone_out, IsStrange}
use Rattle.farm_core.specs.declared.entry.Entry.{Entry}
use Rattle.farm_core.specs.declared.entry.Event.{Event}
use Rattle.farm_core.specs.declared.entry.Event.TheVariants.{Take, Give}
use Rattle.farm_core.specs.declared.reply.Reply.{Reply}
use Rattle.farm_core.specs.declared.reply.Reply.TheVariants as reply
use Rattle.farm_core.specs.Turn.{TurnData}
use Rattle.farm_core.specs.Tenant.{Tenant, Purse, seat, find_job, line_of}
use Rattle.farm_core.specs.Step.{Answer, Replied, Sent, step, is_slice, has_room}
use Rattle.farm_core.specs.Config.{ConfigData}
use Rattle.farm_core.specs.Turn.{IsTaken, IsIdle, IsReady, IsGiven}
use Rattle.farm_core.specs.World.{World, purse_in, place_in, view, is_noted, Follows, IsOfJournal, Run}
use Rattle.farm_core.proofs.SeatLemmas.{each_view_is_a_seat}
use Rattle.farm_core.specs.Farm.{IsReply, IsReached}
use Rattle.farm_core.proofs.ChangeLemmas.{own_job}
use Rattle.farm_core.proofs.CommandLemmas.{own_row}
use Rattle.farm_core.proofs.ReplayLemmas.{no_more}
use Rattle.turn_lock.specs.History.{listed}
use Rattle.farm_pool.specs.declared.image.CallImage.TheVariants as said
use Rattle.farm_pool.specs.declared.image.CallImage.{CallImage}
use Rattle.farm_pool.specs.declared.image.AnswerImage.TheVariants as told
use Rattle.farm_pool.specs.declared.locked_farm.FarmCall.{FarmCall}
use Rattle.farm_pool.specs.declared.locked_farm.FarmCall.TheVariants as asked
use Rattle.farm_pool.specs.declared.locked_farm.FarmAnswer.TheVariants as given
use Rattle.farm_core.specs.Command.{may_need}
use Rattle.farm_core.specs.declared.command.Command.{Command}
use Rattle.farm_pool.specs.Served.{tenant_at, entry_if, IsStep, IsAnswered, Answers}
use Rattle.farm_pool.specs.Calls.{call_image, MayAsk, MayCall, DoesOn, AnswersOn}

-- one entry or none, as a list
pub one_or_none : (noted : Bool) (x : Entry) → cond {A = List Entry} noted (x ∷ []) [] ≡ listed (cond {A = Option Entry} noted (Some x) None)
one_or_none true x = refl
one_or_none false x = refl

-- where a tenant of a farm stands is where its purse's entries lead
pub stands_at : (w : World) (t : ℕ) → IsOfJournal w → t < length w.config.tenants → view t w ≡ tenant_at w.config w.journal t
stands_at w t at known = each_view_is_a_seat w t known ∙ ap (λ (p : Purse). seat p (place_in w.config t)) (at (purse_in w.config t))

pub record StepsOn (old new : World) (t : ℕ) (e : Event) (answer : Answer) : Type 0 where
  pub journal : new.journal ≡ old.journal ++ listed (entry_if t e answer)
  pub steps : IsStep old.config old.journal t e (entry_if t e answer) answer

pub steps_on : (old new : World) (t : ℕ) (e : Event) (answer : Answer) → IsOfJournal old → Follows old t e answer new → StepsOn old new t e answer
steps_on old new t e answer at f = record {
  journal = f.journal ∙ ap (λ es. old.journal ++ es) (one_or_none (is_noted answer) (record { tenant = t; event = e }));
  steps = record { answer_is = f.answer_is ∙ ap (λ (v : Tenant). (step v e).answer) (stands_at old t at f.known); entry_is = refl };
}

pub record IsAnsweredOn (old new : World) (t : ℕ) (e : Event) (r : Reply) : Type 0 where
  pub entry : Option Entry
  pub config : new.config ≡ old.config
  pub journal : new.journal ≡ old.journal ++ listed entry
  pub stands : IsAnswered old.config old.journal t e entry r

pub replies : (old new : World) (t : ℕ) (e : Event) (r : Reply) → t < length old.config.tenants → IsOfJournal old → IsReply old t e r new
    → (r ≡ reply.NoMemory → may_need (view t old) e ≡ true) → IsAnsweredOn old new t e r
replies old new t e reply.NoMemory known at f needs = record {
  entry = None;
  config = ap (λ (w : World). w.config) f.0;
  journal = ap (λ (w : World). w.journal) f.0 ∙ no_more old.journal;
  stands = record { entry_is = refl; needs = subst (λ (v : Tenant). may_need v e ≡ true) (stands_at old t at known) (needs refl) };
}
replies old new t e (reply.Job s) known at f needs = let it = steps_on old new t e (Replied (reply.Job s)) at f in record { entry = entry_if t e (Replied (reply.Job s)); config = f.config; journal = it.journal; stands = it.steps }
replies old new t e (reply.Line line) known at f needs = let it = steps_on old new t e (Replied (reply.Line line)) at f in record { entry = entry_if t e (Replied (reply.Line line)); config = f.config; journal = it.journal; stands = it.steps }
replies old new t e (reply.Ran ran line) known at f needs = let it = steps_on old new t e (Replied (reply.Ran ran line)) at f in record { entry = entry_if t e (Replied (reply.Ran ran line)); config = f.config; journal = it.journal; stands = it.steps }
replies old new t e (reply.Best s best span verdict) known at f needs = let it = steps_on old new t e (Replied (reply.Best s best span verdict)) at f in record { entry = entry_if t e (Replied (reply.Best s best span verdict)); config = f.config; journal = it.journal; stands = it.steps }
replies old new t e (reply.Forgotten s) known at f needs = let it = steps_on old new t e (Replied (reply.Forgotten s)) at f in record { entry = entry_if t e (Replied (reply.Forgotten s)); config = f.config; journal = it.journal; stands = it.steps }
replies old new t e (reply.Ledger b) known at f needs = let it = steps_on old new t e (Replied (reply.Ledger b)) at f in record { entry = entry_if t e (Replied (reply.Ledger b)); config = f.config; journal = it.journal; stands = it.steps }
replies old new t e reply.NoRoom known at f needs = let it = steps_on old new t e (Replied reply.NoRoom) at f in record { entry = entry_if t e (Replied reply.NoRoom); config = f.config; journal = it.journal; stands = it.steps }
replies old new t e reply.NoUnknown known at f needs = let it = steps_on old new t e (Replied reply.NoUnknown) at f in record { entry = entry_if t e (Replied reply.NoUnknown); config = f.config; journal = it.journal; stands = it.steps }
replies old new t e reply.NoBusy known at f needs = let it = steps_on old new t e (Replied reply.NoBusy) at f in record { entry = entry_if t e (Replied reply.NoBusy); config = f.config; journal = it.journal; stands = it.steps }
replies old new t e reply.NoOver known at f needs = let it = steps_on old new t e (Replied reply.NoOver) at f in record { entry = entry_if t e (Replied reply.NoOver); config = f.config; journal = it.journal; stands = it.steps }
replies old new t e reply.NoAmount known at f needs = let it = steps_on old new t e (Replied reply.NoAmount) at f in record { entry = entry_if t e (Replied reply.NoAmount); config = f.config; journal = it.journal; stands = it.steps }
replies old new t e reply.NoJobs known at f needs = let it = steps_on old new t e (Replied reply.NoJobs) at f in record { entry = entry_if t e (Replied reply.NoJobs); config = f.config; journal = it.journal; stands = it.steps }
replies old new t e (reply.NoShort free) known at f needs = let it = steps_on old new t e (Replied (reply.NoShort free)) at f in record { entry = entry_if t e (Replied (reply.NoShort free)); config = f.config; journal = it.journal; stands = it.steps }

-- a tenant that may ask may make its command
pub asked_may : {J : Type 0} (meaning : J → Meaning) (config : ConfigData) (call : FarmCall J) (t : ℕ) (command : Command J) → call ≡ asked.Asked t command → MayAsk meaning config call
    → MayCall meaning config t command
asked_may {J} meaning config call t command is may = subst (λ (c : FarmCall J). MayAsk meaning config c) is may

-- an answer to a tenant
pub asked_replied : {J : Type 0} (meaning : J → Meaning) (old new : World) (call : FarmCall J) (t : ℕ) (e : Event) (r : Reply) → call_image meaning call ≡ said.Asked t e
    → t < length old.config.tenants → IsOfJournal old → IsReply old t e r new → (r ≡ reply.NoMemory → may_need (view t old) e ≡ true)
    → AnswersOn meaning old call (given.Replied r) new
asked_replied meaning old new call t e r is known at f needs =
    let it = replies old new t e r known at f needs in
    record {
      entry = it.entry;
      config = it.config;
      journal = it.journal;
      answers = subst (λ (s : CallImage). Answers old.config old.journal s it.entry (told.Replied r)) (sym is) it.stands;
    }

-- a turn was taken
pub sent_out : {J : Type 0} (meaning : J → Meaning) (old new : World) (slice : ℕ) (turn : TurnData J) → IsOfJournal old → IsTaken old turn.tenant turn.seq slice (meaning turn.search) new
    → turn.slice ≡ slice → turn.ran ≡ 0 → AnswersOn meaning old (asked.Next slice) (given.Sent turn) new
sent_out meaning old new slice turn at taken slice_is ran =
    let t = turn.tenant in
    let answer : Answer = Sent (line_of (gone_out slice taken.job)) in
    let it = steps_on old new t (Take turn.seq slice) answer at taken.follows in
    record {
      entry = entry_if t (Take turn.seq slice) answer;
      config = taken.follows.config;
      journal = it.journal;
      answers = record {
        job = taken.job;
        known = taken.follows.known;
        found = ap (λ (v : Tenant). find_job turn.seq v.jobs) (sym (stands_at old t at taken.follows.known)) ∙ taken.found;
        search = taken.search;
        slice_is = slice_is;
        ran = ran;
        steps = it.steps;
      };
    }

-- there was none to take
pub idled : {J : Type 0} (meaning : J → Meaning) (old new : World) (slice : ℕ) → IsOfJournal old → IsIdle old slice → new ≡ old → AnswersOn meaning old (asked.Next slice) given.Idle new
idled meaning old new slice at idle kept = record {
  entry = None;
  config = ap (λ (w : World). w.config) kept;
  journal = ap (λ (w : World). w.journal) kept ∙ no_more old.journal;
  answers = record {
    entry_is = refl;
    none =
        ⊎_elim (λ (e : is_slice slice ≡ false). inl e)
        (λ none. inr (λ t s job known found waits.
        let here = stands_at old t at known in
        subst (λ (v : Tenant). has_room 2 v ≡ false) here (none t s job (ap (λ (v : Tenant). find_job s v.jobs) here ∙ found) waits)))
        idle;
  };
}

-- there was no memory for one that could be taken
pub unsent : {J : Type 0} (meaning : J → Meaning) (old new : World) (slice t s : ℕ) → IsOfJournal old → IsReady old t s slice → new ≡ old
    → AnswersOn meaning old (asked.Next slice) given.NoMemory new
unsent meaning old new slice t s at ready kept =
    let here = stands_at old t at ready.known in
    record {
      entry = None;
      config = ap (λ (w : World). w.config) kept;
      journal = ap (λ (w : World). w.journal) kept ∙ no_more old.journal;
      answers = record {
        entry_is = refl;
        slice_is = ready.slice_is;
        tenant = t;
        seq = s;
        job = ready.job;
        known = ready.known;
        found = ap (λ (v : Tenant). find_job s v.jobs) (sym here) ∙ ready.found;
        waits = ready.waits;
        room = subst (λ (v : Tenant). has_room 2 v ≡ true) here ready.room;
      };
    }

-- a turn came back
pub gave_back : {J : Type 0} (meaning : J → Meaning) (old new : World) (turn : TurnData J) (r : Reply) → IsOfJournal old
    → IsGiven old turn.tenant turn.seq turn.slice turn.ran (meaning turn.search) r new → AnswersOn meaning old (asked.Back turn) (given.Gave r) new
gave_back meaning old new turn r at given =
    let it = steps_on old new turn.tenant (Give turn.seq turn.ran) (Replied r) at given.follows in
    let here : find_job turn.seq (view turn.tenant old).jobs ≡ Some given.job = own_job old turn.tenant turn.seq given.job given.found in
    record {
      entry = entry_if turn.tenant (Give turn.seq turn.ran) (Replied r);
      config = given.follows.config;
      journal = it.journal;
      answers = record {
        job = given.job;
        found = ap (λ (v : Tenant). find_job turn.seq v.jobs) (sym (stands_at old turn.tenant at given.follows.known)) ∙ here;
        own = given.own;
        steps = it.steps;
      };
    }

-- it is of no job
pub strayed : {J : Type 0} (meaning : J → Meaning) (old new : World) (turn back : TurnData J) → turn.tenant < length old.config.tenants → IsOfJournal old
    → IsStrange old.rows turn.tenant turn.seq turn.slice turn.ran (meaning turn.search) → new ≡ old → AnswersOn meaning old (asked.Back turn) (given.Stray back) new
strayed meaning old new turn back known at strange kept = record {
  entry = None;
  config = ap (λ (w : World). w.config) kept;
  journal = ap (λ (w : World). w.journal) kept ∙ no_more old.journal;
  answers = record {
    entry_is = refl;
    none =
        λ job found own. strange job
        (own_row old turn.tenant turn.seq job (ap (λ (v : Tenant). find_job turn.seq v.jobs) (stands_at old turn.tenant at known) ∙ found)) own;
  };
}

-- the farm is reached by a run
pub does_on : {J : Type 0} (meaning : J → Meaning) (old new : World) (call : FarmCall J) (answer : FarmAnswer J) → AnswersOn meaning old call answer new → IsReached new → DoesOn meaning old call answer new
does_on meaning old new call answer it reached = record {
  entry = it.entry;
  config = it.config;
  journal = it.journal;
  stands = record {
    answers = it.answers;
    run = record {
      calls = reached.calls;
      world = new;
      run = subst (λ (c : ConfigData). Run c reached.calls new) it.config reached.run;
      planned = reached.planned;
      journal = it.journal;
    };
  };
}
