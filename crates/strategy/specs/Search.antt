-- What a search means to its users, and what it shows.
use Rattle.std.specs.Prelude.{ℕ, ◌+◌, ◌-◌, min, Bool, true, ◌||◌, cond, Option, None}
use Rattle.mrcpsp.specs.Numbers.{first_from}
use Rattle.mrcpsp.specs.Schedule.{ScheduleData}
use Rattle.strategy.specs.Outcome.{best_after, is_closed, verdict_after}
use Rattle.strategy.specs.declared.plan.Plan.{Plan}
use Rattle.strategy.specs.declared.verdict.Verdict.{Verdict}

-- a search: its tenant, its plan, the nodes that it has run and may still run, and whether its best
-- was taken
pub record Meaning : Type 0 where
  pub tenant : ℕ
  pub plan : Plan
  pub nodes : ℕ
  pub left : ℕ
  pub taken : Bool

-- the best schedule, until it is taken
abbrev pub shown_best : Meaning → Option ScheduleData
shown_best m = cond m.taken None (best_after m.plan m.nodes)

-- whether the search is over: it is closed, or its best was taken
abbrev pub shown_closed : Meaning → Bool
shown_closed m = m.taken || is_closed m.plan m.nodes

-- the verdict that the search shows
abbrev pub shown_verdict : Meaning → Verdict
shown_verdict m = verdict_after m.plan m.nodes

-- the search after n further quanta
abbrev pub funded : ℕ → Meaning → Meaning
funded n m = record m { left = m.left + n }

-- the search after r nodes, each paid with a quantum
abbrev pub ran_on : ℕ → Meaning → Meaning
ran_on r m = record m { nodes = m.nodes + r; left = m.left - r }

-- the search after one node
abbrev pub advanced : Meaning → Meaning
advanced = ran_on 1

-- the search with no quanta left
abbrev pub settled : Meaning → Meaning
settled m = record m { left = 0 }

-- the search after its best was taken
abbrev pub emptied : Meaning → Meaning
emptied m = record m { taken = true }

-- how many nodes run from here, of at most `most`: until the quanta are used or the search is over
unfoldable pub nodes_within : ℕ → Meaning → ℕ
nodes_within most m = first_from (λ r. is_closed m.plan (m.nodes + r)) (min most m.left) 0
