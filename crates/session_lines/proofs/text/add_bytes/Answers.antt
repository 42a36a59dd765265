use Rattle.std.proofs.Common.{◌≡◌, ◌-◌, ◌++◌, length, take, min, true, sym, ap, ◌∙◌}
use Rattle.std.specs.Result.{is_ok}
use Rattle.session_lines.proofs.TextLemmas.{take_room}
use Rattle.session_lines.proofs.text.add_bytes.Goals as goal

pub returns : goal.returns
returns c whole e ok =
    let fine : is_ok c.extend_from_slice.result ≡ true = sym c.is_ok.ensures.value ∙ ok in
    let more = rw fine at c.extend_from_slice.ensures.items in
    let room : c.min-room.result ≡ min (1048577 - length c.args.bytes.now.items) (length c.args.more.now) = cc in
    more ∙ ap (λ n. c.args.bytes.now.items ++ take n c.args.more.now) room ∙ take_room 1048577 whole c.args.more.now c.args.bytes.now.items e
