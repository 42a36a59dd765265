use Rattle.std.proofs.Common.{refl, ap, ◌∙◌}
use Rattle.std.proofs.lemmas.Str.Ascii.{trim_ascii_is}
use Rattle.schedule_files.specs.ScheduleRows.{number_of, without_front}
use Rattle.schedule_files.proofs.rows.number_in.Goals as goal

pub returns : goal.returns
returns c =
    let text = c.args.text.now in
    c.number.ensures ∙ ap number_of (trim_ascii_is text c.trim_ascii.result.now (without_front text) refl c.trim_ascii.ensures.value)
