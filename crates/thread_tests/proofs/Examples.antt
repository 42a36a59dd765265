-- A pool in which a job was submitted, searched to its end by a worker's turn, and its best schedule was asked for.
use Rattle.std.proofs.Common.{◌≡◌, ℕ, true, false, List, [], ◌∷◌, Some, None, refl, subst, arith}
use Rattle.mrcpsp.specs.Project.{ProjectData, ModeData, size, renewables, nonrenewables, modes, mode_count, successors, duration, request, consumption, capacity, stock, precedes}
use Rattle.mrcpsp.specs.Schedule.{ScheduleData, IsOptimal, mode_of, start_of, finish, load, makespan}
use Rattle.mrcpsp.specs.Values.{shortest, least, tail, lft, bound}
use Rattle.mrcpsp.specs.Placed.{placed_use, placed_consumption, last_start, are_ready, fits, is_allowed, earliest, is_eligible, is_executable, reserve, is_affordable, schedule_of}
use Rattle.strategy.specs.Candidate.{placed_from, eligible_ones, is_allowed_mode, allowed_modes}
use Rattle.strategy.specs.Tree as tree
use Rattle.strategy.specs.Pass.{chosen_at, pass}
use Rattle.strategy.specs.Outcome.{best_after, is_closed, verdict_after}
use Rattle.strategy.specs.declared.kind.Kind.TheVariants.{Tree}
use Rattle.strategy.specs.declared.plan.Plan.{Plan}
use Rattle.strategy.specs.declared.verdict.Verdict.TheVariants.{Optimal}
use Rattle.job_table.specs.declared.phase.Phase.TheVariants.{Waiting, Out, Closed}
use Rattle.farm_core.specs.declared.entry.Entry.{Entry}
use Rattle.farm_core.specs.declared.entry.Event.{Event}
use Rattle.farm_core.specs.declared.entry.Event.TheVariants.{Submit, Fetch, Take, Give}
use Rattle.farm_core.specs.declared.reply.Reply.{Reply}
use Rattle.farm_core.specs.declared.reply.Reply.TheVariants as reply
use Rattle.farm_core.specs.Purses.{first_member, purse_of, members_of, place_of}
use Rattle.farm_core.specs.Config.{ConfigData}
use Rattle.farm_core.specs.Tenant.{newcomers, held, free, kept, line_of, nodes_of_turn}
use Rattle.farm_core.specs.Step.{Replied, to_submit, to_fetch, step}
use Rattle.farm_core.specs.Truth.{IsTrueReply}
use Rattle.turn_lock.specs.History as history
use Rattle.turn_lock.specs.History.{IsLegal}
use Rattle.farm_pool.specs.declared.image.TurnImage.{TurnImage}
use Rattle.farm_pool.specs.declared.image.CallImage.TheVariants as said
use Rattle.farm_pool.specs.declared.image.AnswerImage.TheVariants as told
use Rattle.farm_pool.specs.Laws.{WasSubmitted, IsReplied}
use Rattle.farm_pool.specs.Served.{tenant_at, Served}
use Rattle.farm_pool.proofs.MadeLemmas.{AreLeft, left_run, each_reply_can_be_made}
use Rattle.farm_pool.proofs.EntryLemmas.{IsSound}
use Rattle.farm_pool.proofs.TruthLemmas.{each_reply_is_true}

abbrev mode : ℕ → List ModeData
mode d = record { duration = d; renewable = []; nonrenewable = [] } ∷ []

-- one activity of five periods between a source and a sink
abbrev chain : ProjectData
chain = record {
  activities =
      record { modes = mode 0; successors = 2 ∷ [] }
      ∷ record { modes = mode 5; successors = 3 ∷ [] }
      ∷ record { modes = mode 0; successors = [] }
      ∷ [];
  renewable = [];
  nonrenewable = [];
}

abbrev plan : Plan
plan = record { project = chain; kind = Tree }

-- one tenant, of 100 quanta
abbrev config : ConfigData
config = record { tenants = record { name = 97 ∷ []; quanta = 100; jobs = 2; entries = 20; purse = None } ∷ []; workers = 1; slice = 100 }

abbrev entry : Event → Entry
entry event = record { tenant = 0; event = event }

abbrev entries : List Entry
entries = entry (Submit plan 9) ∷ entry (Take 1 100) ∷ entry (Give 1 3) ∷ []

abbrev schedule : ScheduleData
schedule = record { modes = 1 ∷ 1 ∷ 1 ∷ []; starts = 0 ∷ 0 ∷ 5 ∷ [] }

abbrev best : Reply
best = reply.Best 1 (Some schedule) (Some 5) Optimal

best_is_answered : (step (tenant_at config entries 0) (Fetch 1)).answer ≡ Replied best
unfolding newcomers first_member purse_of members_of place_of to_submit to_fetch held free kept line_of nodes_of_turn best_after is_closed verdict_after tree.tree_best_after tree.is_tree_over tree.all_visits tree.candidates tree.is_pruned tree.updated tree.visit_one pass chosen_at eligible_ones allowed_modes is_allowed_mode placed_from lft duration size modes renewables nonrenewables mode_count successors request consumption capacity stock precedes load shortest least placed_use placed_consumption last_start are_ready fits is_allowed earliest is_eligible is_executable reserve is_affordable tail schedule_of makespan finish start_of mode_of bound
best_is_answered = refl

-- ---- its history is legal: pass 0 submitted, pass 1 took the turn and gave it back

abbrev log : List (ℕ × Entry)
log = (0, entry (Submit plan 9)) ∷ (1, entry (Take 1 100)) ∷ (1, entry (Give 1 3)) ∷ []

abbrev taken : TurnImage
taken = record { tenant = 0; seq = 1; slice = 100; ran = 0; owner = 0; plan = plan; nodes = 0; left = 9; taken = false }

abbrev run : TurnImage
run = record { tenant = 0; seq = 1; slice = 100; ran = 3; owner = 0; plan = plan; nodes = 3; left = 6; taken = false }

abbrev first : List Entry
first = entry (Submit plan 9) ∷ []

abbrev second : List Entry
second = entry (Submit plan 9) ∷ entry (Take 1 100) ∷ []

-- what the give is answered
abbrev gave : Reply
gave = reply.Ran 3 (record { seq = 1; phase = Closed; nodes = 3; left = 0; best = Some 5; verdict = Optimal })

submit_sound : IsSound config (entry (Submit plan 9))
submit_sound = record { known = omega arith; planned = refl }

left_there : AreLeft config [] entries
unfolding newcomers first_member purse_of members_of place_of to_submit held free kept line_of nodes_of_turn best_after is_closed verdict_after tree.tree_best_after tree.is_tree_over tree.all_visits tree.candidates tree.is_pruned tree.updated tree.visit_one pass chosen_at eligible_ones allowed_modes is_allowed_mode placed_from lft duration size modes renewables nonrenewables mode_count successors request consumption capacity stock precedes load shortest least placed_use placed_consumption last_start are_ready fits is_allowed earliest is_eligible is_executable reserve is_affordable tail schedule_of makespan finish start_of mode_of bound
left_there = (
  record { sound = submit_sound; noted = refl },
  (record { sound = record { known = omega arith; planned = tt }; noted = refl }, (record { sound = record { known = omega arith; planned = tt }; noted = refl }, tt)),
)

submit_served : Served config [] (said.Asked 0 (Submit plan 9)) (Some (entry (Submit plan 9))) (told.Replied (reply.Job 1))
unfolding newcomers first_member purse_of members_of place_of to_submit held free kept
submit_served = record { answers = record { answer_is = refl; entry_is = refl }; run = left_run config first (left_there.0, tt) }

take_served : Served config first (said.Next 100) (Some (entry (Take 1 100))) (told.Sent taken)
unfolding newcomers first_member purse_of members_of place_of to_submit held free kept line_of
take_served = record {
  answers = record {
    job = record { seq = 1; plan = plan; phase = Waiting; nodes = 0; left = 9; here = true };
    known = omega arith;
    found = refl;
    search = refl;
    slice_is = refl;
    ran = refl;
    steps = record { answer_is = refl; entry_is = refl };
  };
  run = left_run config second (left_there.0, (left_there.1.0, tt));
}

give_served : Served config second (said.Back run) (Some (entry (Give 1 3))) (told.Gave gave)
unfolding newcomers first_member purse_of members_of place_of to_submit held free kept line_of nodes_of_turn best_after is_closed verdict_after tree.tree_best_after tree.is_tree_over tree.all_visits tree.candidates tree.is_pruned tree.updated tree.visit_one pass chosen_at eligible_ones allowed_modes is_allowed_mode placed_from lft duration size modes renewables nonrenewables mode_count successors request consumption capacity stock precedes load shortest least placed_use placed_consumption last_start are_ready fits is_allowed earliest is_eligible is_executable reserve is_affordable tail schedule_of makespan finish start_of mode_of bound
give_served = record {
  answers = record {
    job = record { seq = 1; plan = plan; phase = Out 100; nodes = 0; left = 9; here = false };
    found = refl;
    own = record { turn = refl; owner = refl; plan = refl; nodes = refl; left = refl };
    steps = record { answer_is = refl; entry_is = refl };
  };
  run = left_run config entries left_there;
}

history_is_legal : IsLegal Served config log
history_is_legal = (
  (said.Asked 0 (Submit plan 9), told.Replied (reply.Job 1), submit_served),
  ((said.Next 100, told.Sent taken, take_served), ((said.Back run, told.Gave gave, give_served), tt)),
)

-- ---- so a pass that has seen it may be given the best schedule, and the law says that it is the shortest of the plan that was submitted

best_is_replied : IsReplied config log 0 0 0 0 (Fetch 1) best
best_is_replied = each_reply_can_be_made config log 0 0 0 history_is_legal 0 (omega arith) (Fetch 1) tt best best_is_answered (λ is. absurd (cc))

-- the submit is in the history
plan_was_submitted : WasSubmitted config entries 0 1 plan
unfolding newcomers first_member purse_of members_of place_of to_submit held free kept
plan_was_submitted = record { at = 0; quanta = 9; entry = refl; answered = record { answer_is = refl; entry_is = refl } }

-- what the law says of this reply
abbrev IsSaid : ConfigData → List Entry → Type 0
IsSaid c es = IsTrueReply (WasSubmitted c es 0) best × ((one other : Plan) → WasSubmitted c es 0 1 one → WasSubmitted c es 0 1 other → one ≡ other)

best_is_true : IsSaid config entries
best_is_true =
    let it = best_is_replied in
    let both : Some config ≡ Some it.called.opening = it.called.opened in
    let same : it.called.opening ≡ config = cc in
    let law = each_reply_is_true in
    subst (λ (c : ConfigData). IsSaid c entries) same
    (subst (λ (l : List (ℕ × Entry)). IsSaid it.called.opening (history.events_of l)) it.before
    (law.asked _ it.after 0 (Fetch 1) best it.called, law.one _ it.after (said.Asked 0 (Fetch 1)) (told.Replied best) it.called 0 1))

best_is_shortest : IsOptimal chain schedule
best_is_shortest =
    let it = best_is_true in
    let same : it.0.0 ≡ plan = it.1 it.0.0 plan it.0.1 plan_was_submitted in
    subst (λ (p : Plan). IsOptimal p.project schedule) same (it.0.3.optimal refl)
