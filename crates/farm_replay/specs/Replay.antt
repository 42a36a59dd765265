-- How a replay ends that has answered `MOST_REQUESTS`.
use Rattle.std.specs.Prelude.{◌≢◌, ◌⊎◌, ⊤, ℕ, List, [], None, Result, Ok, Err}
use Rattle.session_lines.specs.declared.request.Request.{Request}
use Rattle.session_lines.specs.declared.request.LineFault.{LineFault}
use Rattle.session_lines.specs.declared.request.LineFault.TheVariants.{Eof, Read}
use Rattle.session_lines.specs.declared.reading.TheConstants.{MOST_REQUEST_BYTES}
use Rattle.session_lines.specs.Cause.{IsPast}
use Rattle.session_lines.specs.Script.{lines_of, requests_of}
use Rattle.farm_replay.specs.declared.script.ReplayFault.{ReplayFault}
use Rattle.farm_replay.specs.declared.script.ReplayFault.TheVariants as fault

-- the cause of the end: the reader failed or the next request is too long, or there is a further
-- request
abbrev pub GoesOn : ReplayFault → Type 0 → List ℕ → Type 0
GoesOn fault.Read Failed bytes = Failed ⊎ IsPast MOST_REQUEST_BYTES None (lines_of bytes)
GoesOn fault.Write Failed bytes = ⊥
GoesOn fault.Requests Failed bytes = requests_of bytes ≢ []
GoesOn fault.NoMemory Failed bytes = ⊥

-- the end, by what is read then: the script is at its end, the reader failed, or there is a further
-- request
abbrev pub end_of : Result Request LineFault → Result ⊤ ReplayFault
end_of (Err Eof) = Ok tt
end_of (Err Read) = Err fault.Read
end_of answer = Err fault.Requests
