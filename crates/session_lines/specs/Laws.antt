-- What holds of the requests of every script.
use Rattle.std.specs.Prelude.{◌≡◌, ℕ, List, [], ◌∷◌, Option, Some, None}
use Rattle.std.specs.List.{flat_map}
use Rattle.session_lines.specs.Script.{Item, Found, lines_of, first_request, requests, requests_of}

-- the first request, and the requests of the lines after it
abbrev pub from_first : Option Found → List Item
from_first None = []
from_first (Some found) = found.item ∷ requests None found.rest

-- a script's requests are its first one, and the requests of what is left after it
abbrev pub EachInTurn : Type 0
EachInTurn = (script : List ℕ) → requests_of script ≡ from_first (first_request script)

-- the lines of bytes, one after another, are the bytes: lines that are left show which bytes are
abbrev pub LinesAreBytes : Type 0
LinesAreBytes = (bytes : List ℕ) → flat_map (λ (line : List ℕ). line) (lines_of bytes) ≡ bytes
