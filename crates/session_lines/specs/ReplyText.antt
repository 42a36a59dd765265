-- The bytes of reply lines.
use Rattle.std.specs.Prelude.{ℕ, ◌+◌, List, [], ◌∷◌, ◌++◌, Option, Some, None, codes, decimal}
use Rattle.psplib_mm.specs.FaultText.{fault_text}
use Rattle.psplib_mm.specs.declared.fault.MmFault.{MmFault}
use Rattle.psplib_mm.specs.declared.fault.MmFault.TheVariants as fault
use Rattle.strategy.specs.VerdictText.{verdict_text}
use Rattle.mrcpsp.specs.Schedule.{ScheduleData}
use Rattle.tenant_book.specs.Book.{BookData}
use Rattle.job_table.specs.declared.phase.Phase.{Phase}
use Rattle.job_table.specs.declared.phase.Phase.TheVariants.{Waiting, Out, Leaving, Dry, Closed, Cancelled}
use Rattle.farm_core.specs.declared.reply.Line.{Line}
use Rattle.farm_core.specs.declared.reply.Reply.{Reply}
use Rattle.farm_core.specs.declared.reply.Reply.TheVariants as reply
use Rattle.session_lines.specs.declared.said.Said.{Said}
use Rattle.session_lines.specs.declared.said.Said.TheVariants as said

-- the word of a phase
abbrev pub phase_text : Phase → List ℕ
phase_text Waiting = codes "waiting"
phase_text (Out slice) = codes "out"
phase_text (Leaving slice) = codes "leaving"
phase_text Dry = codes "dry"
phase_text Closed = codes "closed"
phase_text Cancelled = codes "cancelled"

-- the makespan of a best schedule, or `none`
abbrev pub best_text : Option ℕ → List ℕ
best_text None = codes "none"
best_text (Some makespan) = decimal makespan

-- the status of a job, without its number
abbrev pub line_text : Line → List ℕ
line_text line = phase_text line.phase ++ codes " nodes " ++ decimal line.nodes ++ codes " left " ++ decimal line.left ++ codes " best " ++ best_text line.best ++ codes " " ++ verdict_text line.verdict

-- activity j in a schedule: its number, mode and start
abbrev pub place_text : ℕ → ℕ → ℕ → List ℕ
place_text j mode start = codes " " ++ decimal j ++ codes ":" ++ decimal mode ++ codes ":" ++ decimal start

-- the activities of a schedule, from number j on
abbrev pub places_text : ℕ → List ℕ → List ℕ → List ℕ
places_text j [] starts = []
places_text j (mode ∷ modes) [] = []
places_text j (mode ∷ modes) (start ∷ starts) = place_text j mode start ++ places_text (j + 1) modes starts

-- all activities of a schedule, nothing if there is none
abbrev pub schedule_text : Option ScheduleData → List ℕ
schedule_text None = []
schedule_text (Some schedule) = places_text 1 schedule.modes schedule.starts

-- the ledger of a purse
abbrev pub book_text : BookData → List ℕ
book_text book = codes "ledger granted " ++ decimal book.granted ++ codes " free " ++ decimal book.free ++ codes " held " ++ decimal book.held ++ codes " spent " ++ decimal book.spent

-- the text of the farm's reply
abbrev pub reply_text : Reply → List ℕ
reply_text (reply.Job seq) = codes "job " ++ decimal seq
reply_text (reply.Line line) = codes "job " ++ decimal line.seq ++ codes " " ++ line_text line
reply_text (reply.Ran ran line) = codes "job " ++ decimal line.seq ++ codes " ran " ++ decimal ran ++ codes " " ++ line_text line
reply_text (reply.Best seq schedule best verdict) = codes "job " ++ decimal seq ++ codes " makespan " ++ best_text best ++ codes " " ++ verdict_text verdict ++ schedule_text schedule
reply_text (reply.Forgotten seq) = codes "job " ++ decimal seq ++ codes " forgotten"
reply_text (reply.Ledger book) = book_text book
reply_text reply.NoRoom = codes "no room"
reply_text reply.NoUnknown = codes "no unknown"
reply_text reply.NoBusy = codes "no busy"
reply_text reply.NoOver = codes "no over"
reply_text reply.NoAmount = codes "no amount"
reply_text reply.NoJobs = codes "no jobs"
reply_text (reply.NoShort free) = codes "no short " ++ decimal free
reply_text reply.NoMemory = codes "no memory"

-- the text of a fault of a submit's file
abbrev pub file_text : MmFault → List ℕ
file_text fault.NoMemory = codes "no memory"
file_text fault = codes "no file " ++ fault_text fault

-- the text of a reply, after the tenant's name
abbrev pub said_text : Said → List ℕ
said_text (said.Reply reply) = reply_text reply
said_text said.NoTurn = codes "no turn"
said_text said.NoTenant = codes "no tenant"
said_text said.Syntax = codes "no syntax"
said_text said.LongLine = codes "no line"
said_text (said.File fault) = file_text fault

-- the beginning of a line: `@` and the tenant's name, or `@?` if it is not known
abbrev pub who_text : Option (List ℕ) → List ℕ
who_text None = codes "@? "
who_text (Some name) = codes "@" ++ name ++ codes " "

-- the line of a reply, with its line feed
abbrev pub reply_line : Option (List ℕ) → Said → List ℕ
reply_line who said = who_text who ++ said_text said ++ 10 ∷ []
