use Rattle.std.proofs.Common.{◌≢◌, All, take}
use Rattle.session_lines.specs.Taken.{Extends}
use Rattle.session_lines.proofs.bytes.GatheredLine.extend.Given as goal

-- the bytes before this one were added
abbrev pub invariant-loop-byte : goal.invariant-loop-byte
invariant-loop-byte l = All (λ x. x ≢ 10) l.bytes → Extends (take l.byte-index l.bytes) l.initial.self l.self
