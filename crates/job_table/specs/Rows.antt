-- The type of what the table lends.
use denote.RattleType.{RattleType}
use Rattle.job_table.specs.contracts.job.Work as work

-- the type of a job's work, with searches of type j
abbrev pub work_row : RattleType → RattleType
work_row j = work.the_row j
