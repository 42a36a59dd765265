use Rattle.std.proofs.Common.{◌++◌, get_or, take, string_bytes, arith, sym, ap, ◌∙◌, append_assoc}
use Rattle.schedule_json.specs.ScheduleJson.{next_json, places_json}
use Rattle.schedule_json.proofs.JsonLemmas.{json_more}
use Rattle.schedule_json.proofs.places.put_places_json.Goals as goal

pub loop-place-preserved : goal.loop-place-preserved
loop-place-preserved c =
    let i = c.loop-place.place in
    let modes = c.as_slice-modes.result.now in
    let starts = c.as_slice-starts.result.now in
    let before = string_bytes c.args.text.now in
    let word = next_json i (get_or modes i 0) (get_or starts i 0) in
    c.in_ok-put_place_json.ensures ∙ ap (λ l. l ++ word) c.loop-place.invariant
    ∙ append_assoc before (places_json 0 (take i modes) (take i starts)) word ∙ ap (λ l. before ++ l) (sym (json_more i modes starts (omega arith) (omega arith)))
