-- Why a request is not read: the reader failed, or the request is too long.
use Rattle.std.specs.Prelude.{◌≡◌, ℕ, ◌+◌, ◌<◌, ◌⊎◌, List, [], ◌∷◌, length, Option, Some, None, Result, Err, IfSome, ⊤}
use Rattle.std.specs.Io.BufRead.{take_through}
use Rattle.watched_io.specs.Failure.{FailsAtMostOnce}
use Rattle.session_lines.specs.declared.request.Request.{Request}
use Rattle.session_lines.specs.declared.request.LineFault.{LineFault}
use Rattle.session_lines.specs.declared.request.LineFault.TheVariants.{Read}
use Rattle.session_lines.specs.Script.{TextData, Found, lines_of, first}

-- a read failed during the call, or P holds of the bytes that were left before, if these are known
abbrev pub HasCause : Type 0 → Option (List ℕ) → (List ℕ → Type 0) → Type 0
HasCause Failed old P = Failed ⊎ IfSome old P

-- the first line has more than `most` bytes, with its end
abbrev pub IsLonger : ℕ → List ℕ → Type 0
IsLonger most bytes = most < length (take_through 10 bytes)

-- the number of bytes of some lines
abbrev pub size_of : List (List ℕ) → ℕ
size_of [] = 0
size_of (line ∷ lines) = length line + size_of lines

-- the lines after the first request
abbrev pub lines_after : Option Found → List (List ℕ)
lines_after None = []
lines_after (Some found) = found.rest

-- the first request has more than `most` bytes, with the blank lines before it; `text` is what was
-- read of it before
abbrev pub IsPast : ℕ → Option TextData → List (List ℕ) → Type 0
IsPast most text lines = size_of (lines_after (first text lines)) + most < size_of lines

-- a read is given up only if the reader failed during the call, or the request is longer than
-- `most`
abbrev pub IsReadGivenUp : ℕ → Option TextData → Type 0 → Option (List ℕ) → Result Request LineFault → Type 0
IsReadGivenUp most text Failed old (Err Read) = HasCause Failed old (λ bytes. IsPast most text (lines_of bytes))
IsReadGivenUp most text Failed old answer = ⊤

-- a read that is given up notes at most one failure on its watch, and every other answer none
abbrev pub HasReadWell : Result Request LineFault → ℕ → ℕ → Type 0
HasReadWell (Err Read) old new = FailsAtMostOnce old new
HasReadWell answer old new = new ≡ old
