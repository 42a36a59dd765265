use Rattle.std.proofs.Common.{◌≡◌, drop}
use Rattle.psplib_mm.specs.Text.{is_same, without_blanks}
use Rattle.psplib_mm.proofs.words.spells.Given as goal

abbrev pub invariant-loop-b : goal.invariant-loop-b
invariant-loop-b l = is_same (without_blanks (drop l.b-index l.line)) l.rest ≡ is_same (without_blanks l.line) l.text
