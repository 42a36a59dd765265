-- Turns that can be taken and given after a legal history.
use Rattle.std.proofs.Common.{◌≡◌, ℕ, ◌+◌, ◌-◌, ◌<◌, ◌≤◌, true, List, [], ◌++◌, length, min, Option, Some, refl, sym, ap, ◌∙◌, arith}
use Rattle.strategy.specs.Outcome.{is_closed}
use Rattle.job_table.specs.Table.{JobData, is_waiting}
use Rattle.job_table.specs.Job.{gone_out, is_turn, meaning_of, back}
use Rattle.job_table.specs.declared.phase.Phase.{Phase}
use Rattle.job_table.specs.declared.phase.Phase.TheVariants.{Waiting, Out, Leaving, Dry, Closed, Cancelled}
use Rattle.farm_core.specs.declared.entry.Entry.{Entry}
use Rattle.farm_core.specs.declared.entry.Event.{Event}
use Rattle.farm_core.specs.declared.entry.Event.TheVariants.{Take, Give}
use Rattle.farm_core.specs.declared.reply.Reply.TheVariants as reply
use Rattle.farm_core.specs.Config.{ConfigData}
use Rattle.farm_core.specs.Tenant.{Tenant, find_job, line_of, nodes_of_turn}
use Rattle.farm_core.specs.Step.{Answer, Replied, Sent, Effect, done, step, has_room, is_slice, may_have_run}
use Rattle.farm_core.specs.World.{is_noted}
use Rattle.farm_core.specs.Truth.{IsPlanned}
use Rattle.farm_core.proofs.PlaceLemmas.{first_from-most}
use Rattle.farm_core.proofs.StepLemmas.{take_steps, give_steps}
use Rattle.turn_lock.specs.History as history
use Rattle.turn_lock.specs.History.{listed, tagged, LegalFrom, IsLegal}
use Rattle.turn_lock.specs.declared.view.Stage.TheVariants.{Idle}
use Rattle.turn_lock.proofs.Histories.{prefix_self, legal-more, entries_of-append, entries_of-own}
use Rattle.farm_pool.specs.declared.image.CallImage.{CallImage}
use Rattle.farm_pool.specs.declared.image.CallImage.TheVariants as said
use Rattle.farm_pool.specs.declared.image.AnswerImage.{AnswerImage}
use Rattle.farm_pool.specs.declared.image.AnswerImage.TheVariants as told
use Rattle.farm_pool.specs.Laws.{turn_of, IsTold, EachTurnCanBeMade}
use Rattle.farm_pool.specs.Served.{tenant_at, entry_if, meaning_in, Answers, Served}
use Rattle.farm_pool.specs.Worked.{PoolView}
use Rattle.farm_pool.proofs.MadeLemmas.{left_if, legal_left}

-- a call that can be served is one of a pass
told_by : (config : ConfigData) (log : List (ℕ × Entry)) (number splits calls : ℕ) (call : CallImage) (answer : AnswerImage) (entry : Option Entry) → IsLegal Served config log
    → Served config (history.events_of log) call entry answer → IsTold config log number splits calls call answer
told_by config log number splits calls call answer entry legal stands =
    let own = history.entries_of number log in
    let v : PoolView = record { stage = Idle; number = number; opening = Some config; seen = log; mine = own; splits = splits; calls = calls } in
    let es : List (ℕ × Entry) = tagged number (listed entry) in
    record {
      after = record v { seen = log ++ es; mine = history.entries_of number log ++ es; calls = calls + 1 };
      called = record {
        opening = config;
        before = log;
        event = entry;
        opened = refl;
        begins = prefix_self log;
        after = refl;
        stands = stands;
        legal = legal-more Served config call answer number log entry stands legal;
        own = entries_of-append number log es ∙ ap (λ xs. history.entries_of number log ++ xs) (entries_of-own number (listed entry));
      };
      before = refl;
    }

-- what its tenant's step answers, with the entry that this leaves
serves : (config : ConfigData) (before : List Entry) → LegalFrom Served config [] before → (t : ℕ) (event : Event) (answer : Answer) (call : CallImage) (told : AnswerImage)
    → t < length config.tenants → IsPlanned event → (step (tenant_at config before t) event).answer ≡ answer
    → Answers config before call (entry_if t event answer) told → Served config before call (entry_if t event answer) told
serves config before legal t event answer call told known planned is answers =
    record {
      answers = answers;
      run =
          left_if config before (record { tenant = t; event = event }) (is_noted answer) (legal_left config [] before legal)
          (λ noted. record { sound = record { known = known; planned = planned }; noted = ap is_noted is ∙ noted });
    }

-- a turn that has run nothing has its job's search
fresh_turn : (t s slice : ℕ) (job : JobData) → meaning_in (turn_of t s slice 0 job) ≡ meaning_of t job
fresh_turn t s slice job =
    let nodes : job.nodes + 0 ≡ job.nodes = omega arith in
    let left : job.left - 0 ≡ job.left = omega arith in
    rw (nodes, left) refl

pub take_served : (config : ConfigData) (before : List Entry) → LegalFrom Served config [] before → (t s slice : ℕ) (job : JobData)
    → t < length config.tenants → find_job s (tenant_at config before t).jobs ≡ Some job → is_waiting job.phase ≡ true → is_slice slice ≡ true
    → has_room 2 (tenant_at config before t) ≡ true
    → let answer : Answer = Sent (line_of (gone_out slice job)) in
    Served config before (said.Next slice) (entry_if t (Take s slice) answer) (told.Sent (turn_of t s slice 0 job))
take_served config before legal t s slice job known found waits slices room =
    let tenant : Tenant = tenant_at config before t in
    let new : JobData = gone_out slice job in
    let answer : Answer = Sent (line_of new) in
    let is : (step tenant (Take s slice)).answer ≡ answer = ap (λ (e : Effect). (done tenant e).answer) (take_steps tenant s slice job found waits slices room) in
    serves config before legal t (Take s slice) answer (said.Next slice) (told.Sent (turn_of t s slice 0 job)) known tt is
    (record {
      job = job;
      known = known;
      found = found;
      search = fresh_turn t s slice job;
      slice_is = refl;
      ran = refl;
      steps = record { answer_is = sym is; entry_is = refl };
    })

take_made : (config : ConfigData) (log : List (ℕ × Entry)) (number splits calls : ℕ) → IsLegal Served config log → (t s slice : ℕ) (job : JobData)
    → t < length config.tenants → find_job s (tenant_at config (history.events_of log) t).jobs ≡ Some job → is_waiting job.phase ≡ true → is_slice slice ≡ true
    → has_room 2 (tenant_at config (history.events_of log) t) ≡ true → IsTold config log number splits calls (said.Next slice) (told.Sent (turn_of t s slice 0 job))
take_made config log number splits calls legal t s slice job known found waits slices room =
    told_by config log number splits calls (said.Next slice) (told.Sent (turn_of t s slice 0 job)) (entry_if t (Take s slice) (Sent (line_of (gone_out slice job)))) legal
    (take_served config (history.events_of log) legal t s slice job known found waits slices room)

-- a turn has run no more than its job had quanta
ran_most : (ran : ℕ) (job : JobData) (phase : Phase) → may_have_run ran job phase ≡ true → ran ≤ job.left
unfolding nodes_of_turn
ran_most ran job Waiting is = absurd (cc)
ran_most ran job (Out slice) is = let most = first_from-most (λ r. is_closed job.plan (job.nodes + r)) (min slice job.left) 0 in grind (arith, is, most)
ran_most ran job (Leaving slice) is = let most = first_from-most (λ r. is_closed job.plan (job.nodes + r)) (min slice job.left) 0 in grind (arith, is, most)
ran_most ran job Dry is = absurd (cc)
ran_most ran job Closed is = absurd (cc)
ran_most ran job Cancelled is = absurd (cc)

pub give_served : (config : ConfigData) (before : List Entry) → LegalFrom Served config [] before → (t s slice ran : ℕ) (job : JobData)
    → t < length config.tenants → find_job s (tenant_at config before t).jobs ≡ Some job → is_turn slice job.phase ≡ true
    → may_have_run ran job job.phase ≡ true
    → let answer = reply.Ran ran (line_of (back ran job)) in
    Served config before (said.Back (turn_of t s slice ran job)) (entry_if t (Give s ran) (Replied answer)) (told.Gave answer)
give_served config before legal t s slice ran job known found out may =
    let tenant : Tenant = tenant_at config before t in
    let answer : Answer = Replied (reply.Ran ran (line_of (back ran job))) in
    let is : (step tenant (Give s ran)).answer ≡ answer = ap (λ (e : Effect). (done tenant e).answer) (give_steps tenant s ran job found may) in
    let most : ran ≤ job.left = ran_most ran job job.phase may in
    serves config before legal t (Give s ran) answer (said.Back (turn_of t s slice ran job)) (told.Gave (reply.Ran ran (line_of (back ran job)))) known tt is
    (record {
      job = job;
      found = found;
      own = record { turn = out; owner = refl; plan = refl; nodes = refl; left = omega (arith, most) };
      steps = record { answer_is = sym is; entry_is = refl };
    })

give_made : (config : ConfigData) (log : List (ℕ × Entry)) (number splits calls : ℕ) → IsLegal Served config log → (t s slice ran : ℕ) (job : JobData)
    → t < length config.tenants → find_job s (tenant_at config (history.events_of log) t).jobs ≡ Some job → is_turn slice job.phase ≡ true
    → may_have_run ran job job.phase ≡ true → IsTold config log number splits calls (said.Back (turn_of t s slice ran job)) (told.Gave (reply.Ran ran (line_of (back ran job))))
give_made config log number splits calls legal t s slice ran job known found out may =
    let answer = reply.Ran ran (line_of (back ran job)) in
    told_by config log number splits calls (said.Back (turn_of t s slice ran job)) (told.Gave answer) (entry_if t (Give s ran) (Replied answer)) legal
    (give_served config (history.events_of log) legal t s slice ran job known found out may)

pub each_turn_can_be_made : EachTurnCanBeMade
each_turn_can_be_made = record { taken = take_made; given = give_made }
