use Rattle.std.proofs.Common.{get_or, take}
use Rattle.std.proofs.lemmas.List.{take_more}
use Rattle.session_lines.proofs.LineLemmas.{Extends-more}
use Rattle.session_lines.proofs.bytes.GatheredLine.extend.Goals as goal

pub loop-byte-preserved : goal.loop-byte-preserved
loop-byte-preserved c = λ none.
    let i = c.loop-byte.byte-index in
    rw (take_more c.args.bytes.now i 0 c.loop-byte-test.true) (Extends-more (take i c.args.bytes.now) (get_or c.args.bytes.now i 0) _ _ _ (none i 0 c.loop-byte-test.true) (c.loop-byte.invariant none) c.push.ensures.kept c.push.ensures.blank c.push.ensures.returns)
