-- A script's farm at its end: turns that are still out are given back, with no node run.
use Rattle.std.specs.Prelude.{◌≡◌, ℕ, ◌+◌, Bool, cond, List, length, map, filter, Option}
use Rattle.job_table.specs.Table.{JobData, is_out}
use Rattle.job_table.specs.Job.{back}
use Rattle.farm_core.specs.Config.{ConfigData}
use Rattle.farm_core.specs.Tenant.{Member, Purse}
use Rattle.farm_core.specs.World.{World, purse}
use Rattle.farm_replay.specs.Output.{Parts, Marked, opening, parts_after, IsWritten}

-- a job whose turn, if it is out, is back unrun
abbrev pub unrun : JobData → JobData
unrun job = cond (is_out job.phase) (back 0 job) job

-- a member whose turns are all back unrun. Each give is an entry of the journal
abbrev pub turns_back : Member → Member
turns_back m = record m { used = m.used + length (filter (λ (job : JobData). is_out job.phase) m.jobs); jobs = map unrun m.jobs }

-- a purse whose members' turns are all back unrun
abbrev pub all_back : Purse → Purse
all_back p = record p { members = map turns_back p.members }

-- the parts of the farm at the end of a script of these requests
abbrev pub parts_at_end : ConfigData → List Marked → Parts
parts_at_end config requests p = all_back (parts_after config (opening config) requests p)

-- the output of the script's requests was written, and `parts` of them are those of the farm
pub record HasLed (parts : List Marked → Parts) (config : ConfigData) (script : List ℕ) (refuses : Bool) (old new : Option (List ℕ)) (w : World) : Type 0 where
  pub written : IsWritten config script refuses old new
  pub led : (p : ℕ) → purse p w ≡ parts written.requests p
