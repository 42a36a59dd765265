-- Which replies refuse a request.
use Rattle.std.specs.Prelude.{ℕ, Bool, true, false, Option, Some, None, take, codes}
use Rattle.farm_core.specs.Name.{same_bytes}
use Rattle.session_lines.specs.declared.said.Said.{Said}
use Rattle.session_lines.specs.ReplyText.{said_text}

-- whether the text of a reply begins with the word `no`
abbrev pub is_refusal : Said → Bool
is_refusal said = same_bytes (take 3 (said_text said)) (codes "no ")

-- the first line of which something is true: an earlier one, or this one
abbrev pub first_line : Option ℕ → Bool → ℕ → Option ℕ
first_line (Some earlier) is line = Some earlier
first_line None true line = Some line
first_line None false line = None
