use Rattle.std.proofs.Common.{◌∙◌, ◌≡◌, ◌<◌, length, arith}
use Rattle.session_lines.proofs.LineLemmas.{keep_room, keep_full}
use Rattle.session_lines.proofs.bytes.GatheredLine.keep.Goals as goal

pub returns-then-len-lt-KEPT_OF_LINE-clause-kept : goal.returns-then-len-lt-KEPT_OF_LINE-clause-kept
returns-then-len-lt-KEPT_OF_LINE-clause-kept c =
    let room : length c.args.self.now.kept.items < 4099 = omega arith in
    c.push.ensures.items ∙ keep_room 4099 c.args.self.now.kept.items c.args.byte room

pub returns-else-len-lt-KEPT_OF_LINE-clause-kept : goal.returns-else-len-lt-KEPT_OF_LINE-clause-kept
returns-else-len-lt-KEPT_OF_LINE-clause-kept c =
    let full : length c.args.self.now.kept.items ≡ 4099 = omega (arith, c.len.ensures.fits) in
    keep_full 4099 c.args.self.now.kept.items c.args.byte full
