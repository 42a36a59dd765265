-- What a tenant's step replies after a legal history can be replied there.
use Rattle.std.proofs.Common.{◌≡◌, ◌≢◌, ℕ, zero, suc, ◌+◌, ◌<◌, Bool, true, false, cond, List, [], ◌∷◌, ◌++◌, length, Option, Some, None, refl, sym, ap, ◌∙◌, subst, append_assoc, append-nil, ⊎_elim}
use Rattle.std.specs.Prelude.{⊤, slice_get}
use Rattle.std.specs.List.{range_with_len}
use Rattle.std.proofs.lemmas.Bool.{cases_eq}
use Rattle.std.proofs.lemmas.List.{length-map}
use Rattle.tenant_book.specs.Book as ledger
use Rattle.farm_core.specs.declared.config.TenantLine.{TenantLine}
use Rattle.farm_core.specs.declared.entry.Entry.{Entry}
use Rattle.farm_core.specs.declared.entry.Event.{Event}
use Rattle.farm_core.specs.declared.entry.Event.TheVariants.{Take, Give}
use Rattle.farm_core.specs.declared.reply.Reply.{Reply}
use Rattle.farm_core.specs.declared.reply.Reply.TheVariants as reply
use Rattle.farm_core.specs.Config.{ConfigData, member_lines, granted_by}
use Rattle.farm_core.specs.Tenant.{Tenant, Purse, seat, with_seat}
use Rattle.farm_core.specs.Step.{Answer, Replied, step}
use Rattle.farm_core.specs.World.{World, Call, opened, new_numbers, purses_in, purse_in, place_in, purse, view, is_noted, entry_of, Steps, Leads, Run, IsOfJournal}
use Rattle.farm_core.specs.Runs.{HasAccounts}
use Rattle.farm_core.specs.Truth.{IsPlanned, ArePlanned}
use Rattle.farm_core.proofs.MadeLemmas.{each_call_can_be_made}
use Rattle.farm_core.proofs.ReplayLemmas.{opened_replayed}
use Rattle.farm_core.proofs.SeatLemmas.{range_length, each_view_is_a_seat, purse_after, purse_stays}
use Rattle.turn_lock.specs.History as history
use Rattle.turn_lock.specs.History.{listed, tagged, LegalFrom, IsLegal}
use Rattle.turn_lock.specs.declared.view.Stage.TheVariants.{Idle}
use Rattle.turn_lock.proofs.Histories.{prefix_self, legal-more, entries_of-append, entries_of-own}
use Rattle.farm_pool.specs.declared.image.CallImage.{CallImage}
use Rattle.farm_pool.specs.declared.image.CallImage.TheVariants as said
use Rattle.farm_pool.specs.declared.image.AnswerImage.{AnswerImage}
use Rattle.farm_pool.specs.declared.image.AnswerImage.TheVariants as told
use Rattle.farm_pool.specs.Laws.{EachReplyCanBeMade}
use Rattle.farm_pool.specs.Served.{tenant_at, entry_if, IsStep, IsAnswered, Answers, AreOfRun, Served}
use Rattle.farm_pool.specs.Worked.{PoolView}
use Rattle.farm_pool.proofs.EntryLemmas.{IsSound, AreSound, run_sound, purse_at, purse_on, purse_off}

-- ---- entries that calls leave one after another are those of a run

-- a call of its tenant leaves this entry after those
pub record IsLeft (config : ConfigData) (before : List Entry) (e : Entry) : Type 0 where
  pub sound : IsSound config e
  pub noted : is_noted (step (tenant_at config before e.tenant) e.event).answer ≡ true

abbrev pub AreLeft : ConfigData → List Entry → List Entry → Type 0
AreLeft config before [] = ⊤
AreLeft config before (e ∷ es) = IsLeft config before e × AreLeft config (before ++ e ∷ []) es

left_more : (config : ConfigData) (before es : List Entry) (e : Entry) → AreLeft config before es
    → IsLeft config (before ++ es) e → AreLeft config before (es ++ e ∷ [])
left_more config before [] e all one = (subst (λ b. IsLeft config b e) (append-nil before) one, tt)
left_more config before (x ∷ es) e all one =
    (all.0, left_more config (before ++ x ∷ []) es e all.1 (subst (λ b. IsLeft config b e) (sym (append_assoc before (x ∷ []) es)) one))

opened_accounts : (config : ConfigData) → HasAccounts (opened config)
unfolding opened
opened_accounts config = (
  length-map config.tenants (λ (line : TenantLine). new_numbers),
  length-map (range_with_len 0 (purses_in config)) (λ p. ledger.opened (granted_by (member_lines config.tenants p))) ∙ range_length 0 (purses_in config),
)

leads_more : (old mid new : World) (calls : List Call) (c : Call) → Leads old calls mid
    → Steps mid c.tenant c.event c.answer new → Leads old (calls ++ c ∷ []) new
leads_more old mid new [] c run steps = (new, subst (λ (w : World). Steps w c.tenant c.event c.answer new) run steps, refl)
leads_more old mid new (d ∷ calls) c run steps = (run.0, run.1, leads_more run.0 mid new calls c run.2 steps)

planned_one : (c d : Call) → IsPlanned c.event → (k : ℕ) → slice_get (c ∷ []) k ≡ Some d → IsPlanned d.event
planned_one c d one zero is = let same : c ≡ d = cc in subst (λ (x : Call). IsPlanned x.event) same one
planned_one c d one (suc k) is = absurd (cc)

planned_at : (calls : List Call) (c d : Call) → ArePlanned calls → IsPlanned c.event → (k : ℕ) → slice_get (calls ++ c ∷ []) k ≡ Some d → IsPlanned d.event
planned_at [] c d all one k is = planned_one c d one k is
planned_at (x ∷ calls) c d all one zero is = all d (0, is)
planned_at (x ∷ calls) c d all one (suc k) is = planned_at calls c d (λ y there. all y (suc there.0, there.1)) one k is

planned_more : (calls : List Call) (c : Call) → ArePlanned calls → IsPlanned c.event → ArePlanned (calls ++ c ∷ [])
planned_more calls c all one d among = planned_at calls c d all one among.0 among.1

-- a world whose journal leads to it, once a call was made in it that leaves an entry
record IsOn (w : World) (e : Entry) (new : World) : Type 0 where
  steps : Steps w e.tenant e.event (step (view e.tenant w) e.event).answer new
  journal : new.journal ≡ w.journal ++ e ∷ []
  replayed : IsOfJournal new
  accounts : HasAccounts new

pub entry_left : (t : ℕ) (event : Event) (answer : Answer) → is_noted answer ≡ true → entry_of t event answer ≡ record { tenant = t; event = event } ∷ []
entry_left t event answer noted = let e : Entry = record { tenant = t; event = event } in ap (λ b. cond {A = List Entry} b (e ∷ []) []) noted

seen_at : (w : World) (t : ℕ) → IsOfJournal w → t < length w.config.tenants → view t w ≡ tenant_at w.config w.journal t
seen_at w t at known = each_view_is_a_seat w t known ∙ ap (λ (p : Purse). seat p (place_in w.config t)) (at (purse_in w.config t))

purses_on : (w new : World) (e : Entry) → IsOfJournal w → Steps w e.tenant e.event (step (view e.tenant w) e.event).answer new → (p : ℕ)
    → purse p new ≡ purse_at w.config (w.journal ++ e ∷ []) p
purses_on w new e at steps p =
    let t = e.tenant in
    let config : ConfigData = w.config in
    let answer : Answer = (step (view t w) e.event).answer in
    let here = purse_in config t in
    let place = place_in config t in
    let own : purse here new ≡ purse_at config (w.journal ++ e ∷ []) here =
    purse_after w new t e.event answer steps
    ∙ ap (λ (x : Purse). with_seat x place (step (view t w) e.event).after) (at here)
    ∙ ap (λ (v : Tenant). with_seat (purse_at config w.journal here) place (step v e.event).after) (seen_at w t at steps.known)
    ∙ sym (purse_on config w.journal e) in
    ⊎_elim
    (λ (same : p ≡ here). subst (λ q. purse q new ≡ purse_at config (w.journal ++ e ∷ []) q) (sym same) own)
    (λ (differ : p ≡ here → ⊥). purse_stays w new t e.event answer steps p differ ∙ at p ∙ sym (purse_off config w.journal e p differ))
    (cases_eq p here)

goes_on : (w : World) (e : Entry) → IsOfJournal w → HasAccounts w → IsLeft w.config w.journal e → (new : World) × IsOn w e new
goes_on w e at accounts left =
    let t = e.tenant in
    let it = each_call_can_be_made w accounts t left.sound.known e.event in
    let new : World = it.0 in
    let steps : Steps w t e.event (step (view t w) e.event).answer new = it.1 in
    let noted : is_noted (step (view t w) e.event).answer ≡ true =
    ap (λ (v : Tenant). is_noted (step v e.event).answer) (seen_at w t at left.sound.known) ∙ left.noted in
    let journal : new.journal ≡ w.journal ++ e ∷ [] =
    steps.journal ∙ ap (λ es. w.journal ++ es) (entry_left t e.event (step (view t w) e.event).answer noted) in (
      new,
      record {
        steps = steps;
        journal = journal;
        replayed = λ p. purses_on w new e at steps p ∙ ap (λ es. purse_at w.config es p) (sym journal)
            ∙ ap (λ (c : ConfigData). purse_at c new.journal p) (sym steps.config);
        accounts = it.2;
      },
    )

runs_on : (config : ConfigData) (w : World) (calls : List Call) → w.config ≡ config → Run config calls w → ArePlanned calls → IsOfJournal w → HasAccounts w
    → (es : List Entry) → AreLeft config w.journal es → AreOfRun config (w.journal ++ es)
runs_on config w calls same run planned at accounts [] left =
    record { calls = calls; world = w; run = run; planned = planned; journal = sym (append-nil w.journal) }
runs_on config w calls same run planned at accounts (e ∷ es) left =
    let it = goes_on w e at accounts (subst (λ (c : ConfigData). IsLeft c w.journal e) (sym same) left.0) in
    let c : Call = record { tenant = e.tenant; event = e.event; answer = (step (view e.tenant w) e.event).answer } in
    let more = runs_on config it.0 (calls ++ c ∷ []) (it.1.steps.config ∙ same)
    (leads_more (opened config) w it.0 calls c run it.1.steps) (planned_more calls c planned left.0.sound.planned)
    it.1.replayed it.1.accounts es (subst (λ b. AreLeft config b es) (sym it.1.journal) left.1) in
    subst (AreOfRun config) (ap (λ b. b ++ es) it.1.journal ∙ append_assoc w.journal (e ∷ []) es) more

pub left_run : (config : ConfigData) (es : List Entry) → AreLeft config [] es → AreOfRun config es
unfolding opened
left_run config es left = runs_on config (opened config) [] refl refl (λ c among. absurd (cc)) (opened_replayed config) (opened_accounts config) es left

-- ---- the entries of a legal history are such

sound_last : (config : ConfigData) (before : List Entry) (e : Entry) → AreSound config (before ++ e ∷ []) → IsSound config e
sound_last config [] e all = all.0
sound_last config (x ∷ before) e all = sound_last config before e all.1

entry_told : (b : Bool) (x e : Entry) → Some e ≡ cond b (Some x) None → (b ≡ true) × (e ≡ x)
entry_told true x e is = (refl, cc)
entry_told false x e is = absurd (cc)

step_left : (config : ConfigData) (before : List Entry) (t : ℕ) (event : Event) (e : Entry) (answer : Answer) → IsStep config before t event (Some e) answer
    → is_noted (step (tenant_at config before e.tenant) e.event).answer ≡ true
step_left config before t event e answer is =
    let it = entry_told (is_noted answer) (record { tenant = t; event = event }) e is.entry_is in
    ap (λ (d : Entry). is_noted (step (tenant_at config before d.tenant) d.event).answer) it.1 ∙ ap is_noted (sym is.answer_is) ∙ it.0

answer_left : (config : ConfigData) (before : List Entry) (t : ℕ) (event : Event) (e : Entry) (r : Reply) → IsAnswered config before t event (Some e) r
    → is_noted (step (tenant_at config before e.tenant) e.event).answer ≡ true
answer_left config before t event e reply.NoMemory is = let none = is.entry_is in absurd (cc)
answer_left config before t event e r is = step_left config before t event e (Replied r) is

call_left : (config : ConfigData) (before : List Entry) (call : CallImage) (e : Entry) (answer : AnswerImage) → Answers config before call (Some e) answer
    → is_noted (step (tenant_at config before e.tenant) e.event).answer ≡ true
call_left config before (said.Asked t event) e (told.Replied r) is = answer_left config before t event e r is
call_left config before (said.Next slice) e (told.Sent i) is = step_left config before i.tenant (Take i.seq slice) e _ is.steps
call_left config before (said.Next slice) e told.Idle is = let none = is.entry_is in absurd (cc)
call_left config before (said.Next slice) e told.NoMemory is = let none = is.entry_is in absurd (cc)
call_left config before (said.Back i) e (told.Gave r) is = step_left config before i.tenant (Give i.seq i.ran) e (Replied r) is.steps
call_left config before (said.Back i) e told.Stray is = let none = is.entry_is in absurd (cc)
call_left config before call e answer is = absurd is

pub legal_left : (config : ConfigData) (before es : List Entry) → LegalFrom Served config before es → AreLeft config before es
legal_left config before [] legal = tt
legal_left config before (e ∷ es) legal =
    let it = legal.0.2 in (
      record { sound = sound_last config before e (run_sound config (before ++ e ∷ []) it.run); noted = call_left config before legal.0.0 e legal.0.1 it.answers },
      legal_left config (before ++ e ∷ []) es legal.1,
    )

-- ---- a call after it

-- an answer other than that there is no memory is the step's
step_is : (config : ConfigData) (before : List Entry) (t : ℕ) (event : Event) (entry : Option Entry) (r : Reply) → r ≢ reply.NoMemory
    → IsStep config before t event entry (Replied r) → IsAnswered config before t event entry r
step_is config before t event entry reply.NoMemory memory is = absurd (memory refl)
step_is config before t event entry r memory is = is

pub left_if : (config : ConfigData) (before : List Entry) (e : Entry) (b : Bool) → AreLeft config [] before → (b ≡ true → IsLeft config before e)
    → AreOfRun config (before ++ listed (cond {A = Option Entry} b (Some e) None))
left_if config before e true all one = left_run config (before ++ e ∷ []) (left_more config [] before e all (one refl))
left_if config before e false all one = subst (AreOfRun config) (sym (append-nil before)) (left_run config before all)

pub can_serve : (config : ConfigData) (before : List Entry) → LegalFrom Served config [] before → (t : ℕ) → t < length config.tenants
    → (event : Event) → IsPlanned event → (r : Reply)
    → (step (tenant_at config before t) event).answer ≡ Replied r → r ≢ reply.NoMemory
    → Served config before (said.Asked t event) (entry_if t event (Replied r)) (told.Replied r)
can_serve config before legal t known event planned r is memory =
    let e : Entry = record { tenant = t; event = event } in
    record {
      answers = step_is config before t event (entry_if t event (Replied r)) r memory (record { answer_is = sym is; entry_is = refl });
      run =
          left_if config before e (is_noted (Replied r)) (legal_left config [] before legal)
          (λ noted. record { sound = record { known = known; planned = planned }; noted = ap is_noted is ∙ noted });
    }

pub each_reply_can_be_made : EachReplyCanBeMade
each_reply_can_be_made config log number splits calls legal t known event planned r is memory =
    let entry : Option Entry = entry_if t event (Replied r) in
    let own = history.entries_of number log in
    let v : PoolView = record { stage = Idle; number = number; opening = Some config; seen = log; mine = own; splits = splits; calls = calls } in
    let stands = can_serve config (history.events_of log) legal t known event planned r is memory in
    let es : List (ℕ × Entry) = tagged number (listed entry) in
    record {
      after = record v { seen = log ++ es; mine = history.entries_of number log ++ es; calls = calls + 1 };
      called = record {
        opening = config;
        before = log;
        event = entry;
        opened = refl;
        begins = prefix_self log;
        after = refl;
        stands = stands;
        legal = legal-more Served config (said.Asked t event) (told.Replied r) number log entry stands legal;
        own = entries_of-append number log es ∙ ap (λ xs. history.entries_of number log ++ xs) (entries_of-own number (listed entry));
      };
      before = refl;
    }
