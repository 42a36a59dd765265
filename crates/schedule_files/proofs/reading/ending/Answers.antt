use Rattle.std.proofs.Common.{arith, ◌≡◌, ◌∙◌, ◌-◌, ap, drop, length, map, sym}
use Rattle.std.proofs.lemmas.List.{drop-map, length-map, take_rest}
use Rattle.schedule_files.specs.ScheduleRows.{last_number}
use Rattle.schedule_files.proofs.reading.ending.Goals as goal

pub returns : goal.returns
returns c =
    let words = c.args.words.now in
    let told = map (λ word. word.now) words in
    let start = c.saturating_sub-start.result in
    let count : start ≡ length told - last_number told = grind (arith, length-map) in
    rw (take_rest words start) (sym (drop-map (λ word. word.now) start words) ∙ ap (λ n. drop n told) count)
