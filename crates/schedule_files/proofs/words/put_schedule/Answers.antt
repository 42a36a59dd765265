use Rattle.std.proofs.Common.{◌+◌, ◌++◌, get_or, take, string_bytes, arith, sym, ap, ◌∙◌, append_assoc}
use Rattle.schedule_files.specs.ScheduleText.{place_text, places_text}
use Rattle.schedule_files.proofs.PlaceLemmas.{places_more}
use Rattle.schedule_files.proofs.words.put_schedule.Goals as goal

pub loop-place-preserved : goal.loop-place-preserved
loop-place-preserved c =
    let i = c.loop-place.place in
    let modes = c.as_slice-modes.result.now in
    let starts = c.as_slice-starts.result.now in
    let before = string_bytes c.args.text.now in
    let word = place_text (i + 1) (get_or modes i 0) (get_or starts i 0) in
    let more = places_more 1 i modes starts (omega arith) (omega arith) in
    c.in_ok-put_place.ensures ∙ ap (λ l. l ++ word) c.loop-place.invariant
    ∙ append_assoc before (places_text 1 (take i modes) (take i starts)) word ∙ ap (λ l. before ++ l) (sym more)
