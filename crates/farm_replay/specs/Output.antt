-- What a replay writes: one line for each request of its script, given by the farm's steps.
use Rattle.std.specs.Prelude.{◌≡◌, ◌≢◌, ◌⊎◌, ⊤, ℕ, zero, suc, Bool, true, false, cond, ◌&&◌, ◌==◌, ◌≤◌, List, [], ◌∷◌, ◌++◌, if◌then◌else◌, Option, Some, None, is_some, Result, Ok, Err, length, map}
use Rattle.std.specs.Io.KnownBytes.{Appends}
use Rattle.std.specs.List.{flat_map, list_any}
use Rattle.farm_core.specs.declared.entry.Event.TheVariants as event
use Rattle.farm_core.specs.declared.reply.Reply.TheVariants as reply
use Rattle.farm_core.specs.Config.{ConfigData}
use Rattle.farm_core.specs.Tenant.{Tenant, Purse, seat, with_seat, find_job}
use Rattle.farm_core.specs.Step as step
use Rattle.farm_core.specs.Step.{Step, Answer, Replied, Sent, step, has_room}
use Rattle.farm_core.specs.Command.{event_of, may_need}
use Rattle.farm_core.specs.declared.command.Command.{Command}
use Rattle.farm_core.specs.declared.command.Command.TheVariants as command
use Rattle.farm_core.specs.World.{purse_in, place_in, opened_purse}
use Rattle.farm_core.specs.Held.{nodes_out}
use Rattle.watched_io.specs.Failure.{HasFailed}
use Rattle.session_lines.specs.declared.request.Request.{Request}
use Rattle.session_lines.specs.declared.request.LineFault.{LineFault}
use Rattle.session_lines.specs.declared.request.LineFault.TheVariants.{TooLong, Syntax, File, NoMemory}
use Rattle.session_lines.specs.declared.reading.TheConstants.{MOST_REQUEST_BYTES}
use Rattle.session_lines.specs.declared.said.Said.{Said}
use Rattle.session_lines.specs.declared.said.Said.TheVariants as said
use Rattle.session_lines.specs.ReplyText.{reply_line}
use Rattle.session_lines.specs.Cause.{lines_after, IsPast}
use Rattle.session_lines.specs.Script.{Item, lines_of, first, requests_of}
use Rattle.farm_session.specs.declared.ask.Ask.{Ask}
use Rattle.farm_session.specs.declared.ask.Ask.TheVariants.{Call, Turn}
use Rattle.farm_session.specs.declared.ask.TurnAsk.TheVariants.{Take, Give, Whole}
use Rattle.farm_session.specs.declared.routed.Routed.{Routed}
use Rattle.farm_session.specs.declared.routed.Routed.TheVariants as routed
use Rattle.farm_session.specs.Routed.{routed_of}
use Rattle.farm_replay.specs.Refusal.{is_refusal}
use Rattle.farm_replay.specs.declared.script.TheConstants.{MOST_REQUESTS}
use Rattle.farm_replay.specs.declared.script.ReplayFault.{ReplayFault}
use Rattle.farm_replay.specs.declared.script.ReplayFault.TheVariants as fault
use Rattle.farm_replay.specs.Counts.{Counts}

-- ---- one tenant

-- the reply to a tenant, and its part of the farm then
pub record Answered : Type 0 where
  pub said : Said
  pub after : Tenant

-- the reply for an answer of the farm: for a turn that is taken, the line of its job
abbrev pub said_for : Answer → Said
said_for (Replied answer) = said.Reply answer
said_for (Sent line) = said.Reply (reply.Line line)
said_for step.NoTurn = said.NoTurn

-- the reply for a step, and the tenant's part after it
abbrev pub told_by : Step → Answered
told_by s = record { said = said_for s.answer; after = s.after }

-- the turn of job s runs all that it can, and is given back
abbrev pub given_back : Tenant → ℕ → Answered
given_back t s = told_by (step t (event.Give s (nodes_out (find_job s t.jobs))))

-- after a turn of job s was asked for: if one was taken, it runs and is given back
abbrev pub turned : Answer → Tenant → ℕ → Answered
turned (Sent line) t s = given_back t s
turned answer t s = record { said = said_for answer; after = t }

-- what a tenant asks for is a call of the farm; a whole turn is two calls
abbrev pub told_to : Tenant → Ask → Answered
told_to t (Call call) = told_by (step t (event_of call))
told_to t (Turn (Take s slice)) = told_by (step t (event.Take s slice))
told_to t (Turn (Give s)) = given_back t s
told_to t (Turn (Whole s slice)) = turned (step t (event.Take s slice)).answer (step t (event.Take s slice)).after s

-- whether a call may need memory: a submit does, as its search needs it
abbrev pub call_may_need : Tenant → Command ⊤ → Bool
call_may_need t (command.Submit plan quanta search) = true
call_may_need t call = may_need t (event_of call)

-- whether a request may need memory: each turn does but one that is given back
abbrev pub request_may_need : Tenant → Ask → Bool
request_may_need t (Call call) = call_may_need t call
request_may_need t (Turn (Give s)) = false
request_may_need t (Turn turn) = true

-- a request for which memory is refused that it may need changes nothing, and its reply is *no
-- memory*
abbrev pub told_under : Bool → Tenant → Ask → Answered
told_under refused t ask = cond (refused && request_may_need t ask) (record { said = said.Reply reply.NoMemory; after = t }) (told_to t ask)

-- ---- all purses

-- each purse's part of the farm, by its number
abbrev pub Parts : Type 0
Parts = ℕ → Purse

-- the parts of a new farm
abbrev pub opening : ConfigData → Parts
opening config p = opened_purse config p

-- the parts with `new` for purse p
abbrev pub with_part : Parts → ℕ → Purse → Parts
with_part parts p new q = cond (q == p) new (parts q)

-- a tenant's part of its purse
abbrev pub part_of : ConfigData → Parts → ℕ → Tenant
part_of config parts t = seat (parts (purse_in config t)) (place_in config t)

-- the parts with `new` for tenant t
abbrev pub with_tenant : ConfigData → Parts → ℕ → Tenant → Parts
with_tenant config parts t new = with_part parts (purse_in config t) (with_seat (parts (purse_in config t)) (place_in config t) new)

-- a reply line: the tenant's name, if it is known, and the reply
pub record Saying : Type 0 where
  pub who : Option (List ℕ)
  pub said : Said

-- the line that answers a request, and the parts then
pub record Next : Type 0 where
  pub line : Saying
  pub parts : Parts

-- a line is written, and these are the parts then
abbrev pub says : Option (List ℕ) → Said → Parts → Next
says who words parts = record { line = record { who = who; said = words }; parts = parts }

-- a request that is routed: its reply is settled, or one tenant's part is asked. The end of the
-- script and a failed read are no requests
abbrev pub answered : ConfigData → Bool → Parts → Routed Ask → Next
answered config refused parts (routed.Answered who words) = says who words parts
answered config refused parts (routed.Asked t who ask) =
    let it : Answered = told_under refused (part_of config parts t) ask in
    says (Some who) it.said (with_tenant config parts t it.after)
answered config refused parts no_request = says None said.Syntax parts

-- the tenant's name in a request, if it is known
abbrev pub who_in : Result Request LineFault → Option (List ℕ)
who_in (Ok request) = Some request.who
who_in (Err (TooLong who)) = who
who_in (Err (Syntax who)) = who
who_in (Err (File who fault)) = Some who
who_in (Err (NoMemory who)) = Some who
who_in (Err fault) = None

-- a request of a script, and whether memory was refused for it
pub record Marked : Type 0 where
  pub item : Item
  pub refused : Bool

-- whether memory was refused for the text of a submit
abbrev pub is_unread : Marked → Bool
is_unread m = m.refused && is_some m.item.submits

-- the line for a request: an unread submit is answered *no memory* before its text is judged
abbrev pub next : ConfigData → Parts → Marked → Next
next config parts m =
    if is_unread m then says (who_in m.item.answer) (said.Reply reply.NoMemory) parts
    else answered config m.refused parts (routed_of config m.item.answer)

-- the lines that answer requests, one after another
abbrev pub lines_for : ConfigData → Parts → List Marked → List Saying
lines_for config parts [] = []
lines_for config parts (m ∷ ms) = (next config parts m).line ∷ lines_for config (next config parts m).parts ms

-- the parts after these requests
abbrev pub parts_after : ConfigData → Parts → List Marked → Parts
parts_after config parts [] = parts
parts_after config parts (m ∷ ms) = parts_after config (next config parts m).parts ms

-- a request is marked only if its line is *no memory*
abbrev pub AreTrueMarks : ConfigData → Parts → List Marked → Type 0
AreTrueMarks config parts [] = ⊤
AreTrueMarks config parts (m ∷ ms) =
    (m.refused ≡ true → (next config parts m).line.said ≡ said.Reply reply.NoMemory) × AreTrueMarks config (next config parts m).parts ms

-- the bytes of a line
abbrev pub line_text : Saying → List ℕ
line_text line = reply_line line.who line.said

-- the output of a script's requests on a new farm of the configuration
abbrev pub output_of : ConfigData → List Marked → List ℕ
output_of config ms = flat_map line_text (lines_for config (opening config) ms)

-- the requests, without their refusals of memory
abbrev pub items_of : List Marked → List Item
items_of ms = map (λ (m : Marked). m.item) ms

-- whether one of the replies refuses its request
abbrev pub has_refusal : List Saying → Bool
has_refusal lines = list_any (λ (line : Saying). is_refusal line.said) lines

-- the output of a script of at most 1,000,000 requests was written, whatever memory was refused;
-- `refuses` is whether one of its replies is a refusal
pub record IsWritten (config : ConfigData) (script : List ℕ) (refuses : Bool) (old new : Option (List ℕ)) : Type 0 where
  pub requests : List Marked
  pub all : items_of requests ≡ requests_of script
  pub marks : AreTrueMarks config (opening config) requests
  pub few : length requests ≤ MOST_REQUESTS
  pub written : Appends old new (output_of config requests)
  pub refusal : refuses ≡ has_refusal (lines_for config (opening config) requests)

-- a prefix of the line that answers the first of the requests left
pub record IsPartOfNext (config : ConfigData) (before : List Marked) (rest : List Item) (part : List ℕ) : Type 0 where
  pub refused : Bool
  pub item : Item
  pub more : List Item
  pub behind : List ℕ
  pub first : rest ≡ item ∷ more
  pub line : line_text (next config (parts_after config (opening config) before) (record { item = item; refused = refused })).line ≡ part ++ behind

-- the lines that are left of a script after n requests
abbrev pub lines_past : ℕ → List (List ℕ) → List (List ℕ)
lines_past zero lines = lines
lines_past (suc n) lines = lines_after (first None (lines_past n lines))

-- the request after these has more than 100,000,000 bytes
abbrev pub IsLongNext : List ℕ → List Marked → Type 0
IsLongNext script requests = IsPast MOST_REQUEST_BYTES None (lines_past (length requests) (lines_of script))

-- the cause of a fault that ends a replay after these requests, and what was written after their
-- lines. A fault of the reader or the writer is one of this replay, whatever failed before it
abbrev pub IsCutBy : ReplayFault → Counts → Counts → ConfigData → List ℕ → List Marked → List Item → List ℕ → Type 0
IsCutBy fault.Read before seen config script requests rest part = (part ≡ []) × (HasFailed before.reads seen.reads ⊎ IsLongNext script requests)
IsCutBy fault.Write before seen config script requests rest part = HasFailed before.writes seen.writes × IsPartOfNext config requests rest part
IsCutBy fault.Requests before seen config script requests rest part = (part ≡ []) × (length requests ≡ MOST_REQUESTS) × (rest ≢ [])
IsCutBy fault.NoMemory before seen config script requests rest part = (part ≡ []) × (requests ≡ [])

-- the output of a script's first requests was written, and after a failed write a prefix of the
-- next line
pub record IsCutOff (config : ConfigData) (fault : ReplayFault) (before seen : Counts) (script : List ℕ) (old new : Option (List ℕ)) : Type 0 where
  pub requests : List Marked
  pub rest : List Item
  pub part : List ℕ
  pub all : items_of requests ++ rest ≡ requests_of script
  pub marks : AreTrueMarks config (opening config) requests
  pub written : Appends old new (output_of config requests ++ part)
  pub cause : IsCutBy fault before seen config script requests rest part
