-- The bytes of an output line show whose it is.
use Rattle.std.specs.Prelude.{◌≡◌, ℕ, Bool, true, false, ◌&&◌, ◌==◌, List, [], ◌∷◌, ◌++◌, Some}
use Rattle.farm_core.specs.Config.{ConfigData}
use Rattle.farm_core.specs.Name.{is_name}
use Rattle.session_lines.specs.ReplyText.{who_text}
use Rattle.session_lines.specs.Script.{requests_of}
use Rattle.farm_replay.specs.Output.{Saying, Marked, items_of, opening, lines_for, line_text}
use Rattle.farm_replay.specs.Isolation.{is_of}

-- whether the first list is a prefix of the second one
abbrev pub begins_with : List ℕ → List ℕ → Bool
begins_with [] bytes = true
begins_with (x ∷ front) [] = false
begins_with (x ∷ front) (y ∷ bytes) = (x == y) && begins_with front bytes

-- exactly the lines of a tenant begin with `@`, its name and a space: in the output of a script,
-- whatever memory was refused
abbrev pub LinesTellWhose : Type 0
LinesTellWhose = (config : ConfigData) (script : List ℕ) (requests : List Marked) → items_of requests ≡ requests_of script → (name : List ℕ) → is_name name ≡ true →
    (before behind : List Saying) (line : Saying) → lines_for config (opening config) requests ≡ before ++ line ∷ behind →
    begins_with (who_text (Some name)) (line_text line) ≡ is_of name line.who
