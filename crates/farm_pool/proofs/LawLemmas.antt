-- Legal histories, and the replies in them.
use Rattle.std.proofs.Common.{◌≡◌, ◌≢◌, ℕ, Bool, true, false, not, ◌&&◌, cond, List, [], ◌∷◌, ◌++◌, Option, Some, None, refl, sym, ap, ◌∙◌, subst, append_assoc, append-nil, eqb}
use Rattle.farm_core.specs.declared.entry.Entry.{Entry}
use Rattle.farm_core.specs.declared.entry.Event.{Event}
use Rattle.farm_core.specs.declared.entry.Event.TheVariants.{Cancel}
use Rattle.farm_core.specs.declared.reply.Line.{Line}
use Rattle.farm_core.specs.declared.reply.Reply.{Reply}
use Rattle.farm_core.specs.declared.reply.Reply.TheVariants as reply
use Rattle.farm_core.specs.Config.{ConfigData}
use Rattle.farm_core.specs.Tenant.{Tenant, Purse, seat, with_seat}
use Rattle.farm_core.specs.Step.{Answer, Replied, step, has_room}
use Rattle.farm_core.specs.World.{Asked, opened, purse_in, place_in, opened_purse, events_of, is_noted, answers_alone, after_alone}
use Rattle.farm_core.proofs.SharingLemmas.{is_eq}
use Rattle.farm_core.proofs.ReplayLemmas.{asked_in, snoc_hit}
use Rattle.turn_lock.specs.History as history
use Rattle.turn_lock.specs.History.{listed, tagged, LegalFrom}
use Rattle.turn_lock.specs.Plays.{Called}
use Rattle.turn_lock.proofs.Histories.{events_of-append, events_of-tagged}
use Rattle.farm_pool.specs.declared.image.CallImage.TheVariants as said
use Rattle.farm_pool.specs.declared.image.AnswerImage.TheVariants as told
use Rattle.farm_pool.specs.Laws.{own_in, LegalHistoriesAreRuns, EachReplyIsAlone, EachReplyIsIsolated, AcceptedCancelsAreMade}
use Rattle.farm_core.specs.Command.{is_line}
use Rattle.farm_pool.specs.Served.{tenant_at, IsStep, IsAnswered, AreOfRun, Served}
use Rattle.farm_pool.specs.Worked.{PoolView}

-- what follows legally on the entries of a run makes them those of a longer run
run_on : (config : ConfigData) (before es : List Entry) → AreOfRun config before → LegalFrom Served config before es → AreOfRun config (before ++ es)
run_on config before [] run legal = subst (AreOfRun config) (sym (append-nil before)) run
run_on config before (e ∷ es) run legal =
    subst (AreOfRun config) (append_assoc before (e ∷ []) es) (run_on config (before ++ e ∷ []) es legal.0.2.run legal.1)

no_entries : (config : ConfigData) → AreOfRun config []
unfolding opened
no_entries config = record { calls = []; world = opened config; run = refl; planned = λ c among. absurd (cc); journal = refl }

pub legal_histories_are_runs : LegalHistoriesAreRuns
legal_histories_are_runs config log legal = run_on config [] (history.events_of log) (no_entries config) legal

-- an answer other than that there is no memory is the step's
pub steps_to : (config : ConfigData) (before : List Entry) (t : ℕ) (event : Event) (entry : Option Entry) (r : Reply) → r ≢ reply.NoMemory
    → IsAnswered config before t event entry r → IsStep config before t event entry (Replied r)
steps_to config before t event entry (reply.Job s) memory is = is
steps_to config before t event entry (reply.Line line) memory is = is
steps_to config before t event entry (reply.Ran ran line) memory is = is
steps_to config before t event entry (reply.Best s best span verdict) memory is = is
steps_to config before t event entry (reply.Forgotten s) memory is = is
steps_to config before t event entry (reply.Ledger book) memory is = is
steps_to config before t event entry reply.NoRoom memory is = is
steps_to config before t event entry reply.NoUnknown memory is = is
steps_to config before t event entry reply.NoBusy memory is = is
steps_to config before t event entry reply.NoOver memory is = is
steps_to config before t event entry reply.NoAmount memory is = is
steps_to config before t event entry reply.NoJobs memory is = is
steps_to config before t event entry (reply.NoShort free) memory is = is
steps_to config before t event entry reply.NoMemory memory is = absurd (memory refl)

-- the last answer is the step's after all the others
last_alone : (p : Purse) (asked : List Asked) (a : Asked) → answers_alone p (asked ++ a ∷ []) ≡ answers_alone p asked ++ (step (seat (after_alone p asked) a.place) a.event).answer ∷ []
last_alone p [] a = refl
last_alone p (d ∷ asked) a =
    let after : Purse = with_seat p d.place (step (seat p d.place) d.event).after in
    ap (λ answers. (step (seat p d.place) d.event).answer ∷ answers) (last_alone after asked a)

own_after : (config : ConfigData) (t : ℕ) (event : Event) (journal : List Entry) (noted : Bool)
    → let p = purse_in config t in
    let asked : Asked = record { place = place_in config t; event = event } in
    events_of config p (journal ++ listed (cond {A = Option Entry} noted (Some (record { tenant = t; event = event })) None)) ≡ events_of config p journal ++ cond noted (asked ∷ []) []
own_after config t event journal true =
    snoc_hit (λ (e : Entry). eqb (purse_in config e.tenant) (purse_in config t)) (asked_in config) journal (record { tenant = t; event = event }) (is_eq (purse_in config t) (purse_in config t) refl)
own_after config t event journal false = ap (events_of config (purse_in config t)) (append-nil journal) ∙ sym (append-nil (events_of config (purse_in config t) journal))

-- what a call leaves in what is seen then
pub seen_after : (v w : PoolView) (t : ℕ) (event : Event) (r : Reply) (called : Called Served v (said.Asked t event) (told.Replied r) w)
    → history.events_of w.seen ≡ history.events_of called.before ++ listed called.event
seen_after v w t event r called =
    ap (λ (x : PoolView). history.events_of x.seen) called.after ∙ events_of-append called.before (tagged v.number (listed called.event))
    ∙ ap (λ es. history.events_of called.before ++ es) (events_of-tagged v.number (listed called.event))

pub each_reply_is_alone : EachReplyIsAlone
each_reply_is_alone v w t event r called memory =
    let config : ConfigData = called.opening in
    let before : List Entry = history.events_of called.before in
    let it = steps_to config before t event called.event r memory called.stands.answers in
    let p = purse_in config t in
    let first : Purse = opened_purse config p in
    let asked : Asked = record { place = place_in config t; event = event } in
    record {
      last = last_alone first (events_of config p before) asked ∙ ap (λ (a : Answer). answers_alone first (events_of config p before) ++ a ∷ []) (sym it.answer_is);
      own =
          ap (events_of config p) (seen_after v w t event r called) ∙ ap (λ (e : Option Entry). events_of config p (before ++ listed e)) it.entry_is
          ∙ own_after config t event before (is_noted (Replied r));
    }

replied_same : (r s : Reply) → Replied r ≡ Replied s → r ≡ s
replied_same r s same = cc same

pub each_reply_is_isolated : EachReplyIsIsolated
each_reply_is_isolated v w x y t u event r s one two memory other begins places own =
    let a = steps_to one.opening (history.events_of one.before) t event one.event r memory one.stands.answers in
    let b = steps_to two.opening (history.events_of two.before) u event two.event s other two.stands.answers in
    let mine : List Asked = own_in one.opening (purse_in one.opening t) one.before in
    let first : Purse = opened_purse two.opening (purse_in two.opening u) in
    replied_same r s (a.answer_is
    ∙ ap (λ (p : Purse). (step (seat (after_alone p mine) (place_in one.opening t)) event).answer) begins
    ∙ ap (λ n. (step (seat (after_alone first mine) n) event).answer) places
    ∙ ap (λ (asked : List Asked). (step (seat (after_alone first asked) (place_in two.opening u)) event).answer) own ∙ sym b.answer_is)

never : (b : Bool) → (b && false) ≡ true → ⊥
never true is = cc
never false is = cc

-- a call whose step tells of a job is not refused for want of memory, where it is a cancel
cancel_is : (config : ConfigData) (before : List Entry) (t s : ℕ) (entry : Option Entry) (r : Reply) (line : Line)
    → IsAnswered config before t (Cancel s) entry r
    → (step (tenant_at config before t) (Cancel s)).answer ≡ Replied (reply.Line line) → r ≡ reply.Line line
cancel_is config before t s entry reply.NoMemory line is told =
    let v : Tenant = tenant_at config before t in
    let none : (has_room 1 v && false) ≡ true = subst (λ (a : Answer). (has_room 1 v && not (is_line a)) ≡ true) told is.needs in
    absurd (never (has_room 1 v) none)
cancel_is config before t s entry r line is told = replied_same r (reply.Line line) (is.answer_is ∙ told)

pub accepted_cancels_are_made : AcceptedCancelsAreMade
accepted_cancels_are_made v w t s r called line told =
    cancel_is called.opening (history.events_of called.before) t s called.event r line called.stands.answers told
