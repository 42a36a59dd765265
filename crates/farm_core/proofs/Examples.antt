-- The steps of a tenant alone over three scripts, computed.
use Rattle.std.proofs.Common.{◌≡◌, ℕ, zero, suc, ◌+◌, ◌<◌, true, false, List, [], ◌∷◌, Option, Some, None, length, map, refl, ap, ◌∙◌, subst, arith, inl, inr, length-append}
use Rattle.std.specs.Prelude.{slice_get, cond, filter}
use Rattle.std.proofs.lemmas.Bool.Decides.{nat_tests}
use Rattle.mrcpsp.specs.Project.{ProjectData, ModeData, size, renewables, nonrenewables, modes, mode_count, successors, duration, request, consumption, capacity, stock, precedes}
use Rattle.mrcpsp.specs.Schedule.{mode_of, start_of, finish, load, makespan}
use Rattle.mrcpsp.specs.Values.{shortest, least, tail, lft, bound}
use Rattle.mrcpsp.specs.Placed.{placed_use, placed_consumption, last_start, are_ready, fits, is_allowed, earliest, is_eligible, is_executable, reserve, is_affordable, schedule_of}
use Rattle.strategy.specs.Candidate.{placed_from, eligible_ones, is_allowed_mode, allowed_modes}
use Rattle.strategy.specs.Tree as tree
use Rattle.strategy.specs.Pass.{chosen_at, pass}
use Rattle.strategy.specs.Outcome.{best_after, is_closed, verdict_after}
use Rattle.strategy.specs.declared.kind.Kind.{Kind}
use Rattle.strategy.specs.declared.kind.Kind.TheVariants.{Tree, RuleLft}
use Rattle.strategy.specs.declared.plan.Plan.{Plan}
use Rattle.strategy.specs.declared.verdict.Verdict.{Verdict}
use Rattle.strategy.specs.declared.verdict.Verdict.TheVariants.{Going, Optimal}
use Rattle.job_table.specs.Table.{Row, is_key, find_row, does_wait}
use Rattle.job_table.specs.Job.{is_here}
use Rattle.job_table.specs.declared.phase.Phase.{Phase}
use Rattle.job_table.specs.declared.phase.Phase.TheVariants.{Waiting, Out, Leaving, Dry, Closed, Cancelled}
use Rattle.farm_core.specs.declared.config.TenantLine.{TenantLine}
use Rattle.farm_core.specs.declared.entry.Event.{Event}
use Rattle.farm_core.specs.declared.entry.Event.TheVariants.{Submit, Fund, Status, Fetch, Cancel, Forget, Ledger, Take, Give}
use Rattle.farm_core.specs.declared.reply.Line.{Line}
use Rattle.farm_core.specs.declared.reply.Reply.TheVariants as reply
use Rattle.std.specs.List.{range_with_len}
use Rattle.farm_core.specs.Purses.{first_member, purse_of}
use Rattle.farm_core.specs.Tenant.{newcomers, newcomer, held, free, book, kept, line_of, nodes_of_turn}
use Rattle.farm_core.specs.Step.{Answer, Replied, Sent, NoTurn, to_submit, to_fund, to_fetch, to_cancel, to_forget, has_room}
use Rattle.farm_core.specs.Turn.{IsFirstReady}
use Rattle.farm_core.specs.World.{World, Asked, member, purse, view, KeepsOrder, answers_alone}
use Rattle.farm_core.specs.Laws.{answers_by}

-- ---- a project, whose searches are over after three nodes, and what is told

abbrev mode : ℕ → List ModeData
mode d = record { duration = d; renewable = []; nonrenewable = [] } ∷ []

-- one activity of five periods between a source and a sink
abbrev chain : ProjectData
chain = record {
  activities =
      record { modes = mode 0; successors = 2 ∷ [] }
      ∷ record { modes = mode 5; successors = 3 ∷ [] }
      ∷ record { modes = mode 0; successors = [] }
      ∷ [];
  renewable = [];
  nonrenewable = [];
}

abbrev by : Kind → Plan
by kind = record { project = chain; kind = kind }

abbrev line : ℕ → Phase → ℕ → ℕ → Option ℕ → Verdict → Line
line seq phase nodes left best verdict = record { seq = seq; phase = phase; nodes = nodes; left = left; best = best; verdict = verdict }

abbrev ledger : ℕ → ℕ → ℕ → ℕ → Answer
ledger granted free held spent = Replied (reply.Ledger (record { granted = granted; free = free; held = held; spent = spent }))

abbrev terms : ℕ → ℕ → ℕ → TenantLine
terms quanta jobs entries = record { name = 97 ∷ []; quanta = quanta; jobs = jobs; entries = entries; purse = None }

-- ---- a job that is cancelled while its turn is out, and refusals: 100 quanta, 1 job, 14 entries

abbrev cancelling : List Event
cancelling =
    Submit (by RuleLft) 6
    ∷ Take 1 2
    ∷ Fund 1 5
    ∷ Fetch 1
    ∷ Cancel 1
    ∷ Cancel 1
    ∷ Ledger
    ∷ Give 1 1
    ∷ Give 1 2
    ∷ Ledger
    ∷ Fund 1 5
    ∷ Forget 1
    ∷ Status 1
    ∷ Submit (by Tree) 99
    ∷ Submit (by Tree) 0
    ∷ Status 1
    ∷ []

-- after a give that no turn can have made nothing changes, and the last call finds no room
cancelled_while_out : answers_by (newcomer (terms 100 1 14)) cancelling ≡
    Replied (reply.Job 1)
    ∷ Sent (line 1 (Out 2) 0 6 None Going)
    ∷ Replied reply.NoBusy
    ∷ Replied reply.NoBusy
    ∷ Replied (reply.Line (line 1 (Leaving 2) 0 6 None Going))
    ∷ Replied reply.NoOver
    ∷ ledger 100 94 6 0
    ∷ NoTurn
    ∷ Replied (reply.Ran 2 (line 1 Cancelled 2 0 None Going))
    ∷ ledger 100 98 0 2
    ∷ Replied reply.NoOver
    ∷ Replied (reply.Forgotten 1)
    ∷ Replied reply.NoUnknown
    ∷ Replied (reply.NoShort 98)
    ∷ Replied reply.NoAmount
    ∷ Replied reply.NoRoom
    ∷ []
unfolding newcomer to_submit to_fund to_fetch to_cancel to_forget held free book kept line_of nodes_of_turn best_after is_closed verdict_after pass chosen_at eligible_ones allowed_modes is_allowed_mode placed_from lft duration size modes renewables nonrenewables mode_count successors request consumption capacity stock precedes load shortest least placed_use placed_consumption are_ready fits is_allowed earliest is_eligible is_executable reserve is_affordable schedule_of makespan finish start_of mode_of tail bound
cancelled_while_out = refl

-- ---- a search to its end, by turns of which one is given back unrun: 10 quanta, 1 job, 20 entries

abbrev finishing : List Event
finishing =
    Submit (by Tree) 9
    ∷ Take 1 100
    ∷ Give 1 0
    ∷ Take 1 2
    ∷ Give 1 2
    ∷ Take 1 100
    ∷ Give 1 1
    ∷ Ledger
    ∷ Fetch 1
    ∷ Take 1 1
    ∷ Forget 1
    ∷ Submit (by RuleLft) 7
    ∷ []

-- the third node places the sink, and the tree is whole; what is left is free again; no number comes twice
searched_to_the_end : answers_by (newcomer (terms 10 1 20)) finishing ≡
    Replied (reply.Job 1)
    ∷ Sent (line 1 (Out 100) 0 9 None Going)
    ∷ Replied (reply.Ran 0 (line 1 Waiting 0 9 None Going))
    ∷ Sent (line 1 (Out 2) 0 9 None Going)
    ∷ Replied (reply.Ran 2 (line 1 Waiting 2 7 None Going))
    ∷ Sent (line 1 (Out 100) 2 7 None Going)
    ∷ Replied (reply.Ran 1 (line 1 Closed 3 0 (Some 5) Optimal))
    ∷ ledger 10 7 0 3
    ∷ Replied (reply.Best 1 (Some (record { modes = 1 ∷ 1 ∷ 1 ∷ []; starts = 0 ∷ 0 ∷ 5 ∷ [] })) (Some 5) Optimal)
    ∷ NoTurn
    ∷ Replied (reply.Forgotten 1)
    ∷ Replied (reply.Job 2)
    ∷ []
unfolding newcomer to_submit to_fund to_fetch to_cancel to_forget held free book kept line_of nodes_of_turn best_after is_closed verdict_after tree.tree_best_after tree.is_tree_over tree.all_visits tree.candidates tree.is_pruned tree.updated tree.visit_one pass chosen_at eligible_ones allowed_modes is_allowed_mode placed_from lft duration size modes renewables nonrenewables mode_count successors request consumption capacity stock precedes load shortest least placed_use placed_consumption last_start are_ready fits is_allowed earliest is_eligible is_executable reserve is_affordable tail schedule_of makespan finish start_of mode_of bound
searched_to_the_end = refl

-- ---- a job that runs dry and is funded, and the entry that is kept for a give: 3 quanta, 2 jobs, 8 entries

abbrev running_dry : List Event
running_dry =
    Submit (by RuleLft) 2
    ∷ Take 1 5
    ∷ Give 1 2
    ∷ Take 1 1
    ∷ Forget 1
    ∷ Fund 1 2
    ∷ Fund 1 1
    ∷ Take 1 1
    ∷ Status 1
    ∷ Give 1 1
    ∷ Status 1
    ∷ []

-- with seven entries and a turn out the eighth is the give's
dry_and_funded : answers_by (newcomer (terms 3 2 8)) running_dry ≡
    Replied (reply.Job 1)
    ∷ Sent (line 1 (Out 5) 0 2 None Going)
    ∷ Replied (reply.Ran 2 (line 1 Dry 2 0 None Going))
    ∷ NoTurn
    ∷ Replied reply.NoBusy
    ∷ Replied (reply.NoShort 1)
    ∷ Replied (reply.Line (line 1 Waiting 2 1 None Going))
    ∷ Sent (line 1 (Out 1) 2 1 None Going)
    ∷ Replied reply.NoRoom
    ∷ Replied (reply.Ran 1 (line 1 Closed 3 0 (Some 5) Optimal))
    ∷ Replied reply.NoRoom
    ∷ []
unfolding newcomer to_submit to_fund to_fetch to_cancel to_forget held free book kept line_of nodes_of_turn best_after is_closed verdict_after pass chosen_at eligible_ones allowed_modes is_allowed_mode placed_from lft duration size modes renewables nonrenewables mode_count successors request consumption capacity stock precedes load shortest least placed_use placed_consumption are_ready fits is_allowed earliest is_eligible is_executable reserve is_affordable schedule_of makespan finish start_of mode_of tail bound
dry_and_funded = refl

-- ---- two members of one purse of 6 and 4 quanta: each has its own numbers, and what one holds and spends the other has less

abbrev asked : ℕ → Event → Asked
asked place event = record { place = place; event = event }

abbrev sharing : List Asked
sharing =
    asked 0 (Submit (by Tree) 8)
    ∷ asked 1 Ledger
    ∷ asked 1 (Submit (by Tree) 3)
    ∷ asked 0 (Take 1 2)
    ∷ asked 0 (Give 1 2)
    ∷ asked 0 (Cancel 1)
    ∷ asked 1 (Submit (by Tree) 8)
    ∷ asked 1 Ledger
    ∷ []

shared_purse : answers_alone (newcomers (terms 6 2 100 ∷ terms 4 2 100 ∷ [])) sharing ≡
    Replied (reply.Job 1)
    ∷ ledger 10 2 8 0
    ∷ Replied (reply.NoShort 2)
    ∷ Sent (line 1 (Out 2) 0 8 None Going)
    ∷ Replied (reply.Ran 2 (line 1 Waiting 2 6 None Going))
    ∷ Replied (reply.Line (line 1 Cancelled 2 0 None Going))
    ∷ Replied (reply.Job 1)
    ∷ ledger 10 0 8 2
    ∷ []
unfolding newcomers to_submit to_fund to_fetch to_cancel to_forget held free book kept line_of nodes_of_turn best_after is_closed verdict_after tree.tree_best_after tree.is_tree_over tree.all_visits tree.candidates tree.is_pruned tree.updated tree.visit_one pass chosen_at eligible_ones allowed_modes is_allowed_mode placed_from lft duration size modes renewables nonrenewables mode_count successors request consumption capacity stock precedes load shortest least placed_use placed_consumption last_start are_ready fits is_allowed earliest is_eligible is_executable reserve is_affordable tail schedule_of makespan finish start_of mode_of bound
shared_purse = refl

-- the purse that tenants share is found by its name, which may be a tenant's; purses are numbered by their first members
purses_numbered : map (purse_of (None ∷ Some (98 ∷ []) ∷ None ∷ Some (98 ∷ []) ∷ Some (97 ∷ []) ∷ [])) (range_with_len 0 5) ≡ 0 ∷ 1 ∷ 2 ∷ 1 ∷ 3 ∷ []
unfolding purse_of first_member
purses_numbered = refl

-- ---- whose turn is next: tenant 0's job stands first, but it has one entry left; of tenant 1's three jobs the first is out, and the third stands
-- before the second, since that has come back

abbrev row : ℕ → ℕ → Phase → Row
row t s phase = record { tenant = t; job = record { seq = s; plan = by RuleLft; phase = phase; nodes = 0; left = 5; here = is_here phase } }

abbrev queue : World
queue = record {
  config = record { tenants = terms 100 3 1 ∷ terms 100 3 9 ∷ []; workers = 1; slice = 5 };
  rows = row 0 1 Waiting ∷ row 1 1 (Out 2) ∷ row 1 2 Waiting ∷ row 1 3 Waiting ∷ [];
  waiting = (0, 1) ∷ (1, 3) ∷ (1, 2) ∷ [];
  journal = [];
  books = [];
  numbers = [];
}

tenant_in : Option (ℕ × ℕ) → ℕ
tenant_in None = 0
tenant_in (Some k) = k.0

number_in : Option (ℕ × ℕ) → ℕ
number_in None = 0
number_in (Some k) = k.1

-- what is asked of the waiting jobs before the one at this place
abbrev NoneBefore : ℕ → Type 0
NoneBefore at = (j u n : ℕ) → j < at → slice_get queue.waiting j ≡ Some (u, n) → has_room 2 (view u queue) ≡ false

none_before : NoneBefore 1
unfolding tenant_in view member purse kept
none_before zero u n l here = let is : 0 ≡ u = ap tenant_in here in subst (λ v. has_room 2 (view v queue) ≡ false) is refl
none_before (suc j) u n l here = absurd (omega (arith, l))

each_waits : (t s : ℕ) → length (filter (is_key t s) queue.waiting) ≡ cond (does_wait (find_row t s queue.rows)) 1 0
each_waits t s = grind (arith, nat_tests)

third_of_1_is_next : IsFirstReady queue 1 3 5
unfolding view member purse kept
third_of_1_is_next = record {
  ready = record {
    job = record { seq = 3; plan = by RuleLft; phase = Waiting; nodes = 0; left = 5; here = true };
    known = omega arith;
    found = refl;
    waits = refl;
    slice_is = refl;
    room = refl;
  };
  each = each_waits;
  at = 1;
  here = refl;
  before = none_before;
}

second_at : (at : ℕ) → slice_get queue.waiting at ≡ Some (1, 2) → NoneBefore at → ⊥
unfolding tenant_in number_in view member purse kept
second_at zero here none = let is : 0 ≡ 1 = ap tenant_in here in omega (arith, is)
second_at (suc zero) here none = let is : 3 ≡ 2 = ap number_in here in omega (arith, is)
second_at (suc (suc at)) here none = let is : true ≡ false = none 1 1 3 (omega arith) refl in absurd (cc)

second_of_1_is_not : IsFirstReady queue 1 2 5 → ⊥
second_of_1_is_not it = second_at it.at it.here it.before

-- ---- a job that waits no longer, and two that changed places

second_gone : KeepsOrder 1 queue.waiting ((0, 1) ∷ (1, 3) ∷ [])
second_gone = inr (inr (record { seq = 2; before = (0, 1) ∷ (1, 3) ∷ []; behind = []; was = refl; is = refl }))

first_in : List (ℕ × ℕ) → ℕ
first_in [] = 0
first_in (k ∷ ks) = k.0

passed : KeepsOrder 1 ((0, 1) ∷ (1, 2) ∷ []) ((1, 2) ∷ (0, 1) ∷ []) → ⊥
unfolding first_in
passed (inl same) = let is : 1 ≡ 0 = ap first_in same in omega (arith, is)
passed (inr (inl more)) = let is : 2 ≡ 3 = ap {B = ℕ} length more.1 in omega (arith, is)
passed (inr (inr one)) =
    let was : 2 ≡ length one.before + suc (length one.behind) = ap {B = ℕ} length one.was ∙ length-append one.before ((1, one.seq) ∷ one.behind) in
    let is : 2 ≡ length one.before + length one.behind = ap {B = ℕ} length one.is ∙ length-append one.before one.behind in
    omega (arith, was, is)
