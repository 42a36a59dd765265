use Rattle.std.proofs.Common.{rules, map}
use Rattle.schedule_files.proofs.ReadingLemmas.{rows_unread, rows_told, rows_none}
use Rattle.schedule_files.proofs.reading.read_rows.Goals as goal

pub returns-in_default-clause-none : goal.returns-in_default-clause-none
returns-in_default-clause-none c =
    rows_unread c.args.text.now (map (λ row. row.now) c.as_slice.result.now) (search rules) (search rules)

pub returns-clause-told : goal.returns-clause-told
returns-clause-told c =
    rows_told c.args.text.now (map (λ row. row.now) c.as_slice.result.now) c.in-Some.places.items
    c.in_ok-schedule.schedule c.filled.result (search rules) (search rules) (search rules) (search rules)

pub returns-clause-none : goal.returns-clause-none
returns-clause-none c =
    rows_none c.args.text.now (map (λ row. row.now) c.as_slice.result.now) c.in-Some.places.items
    c.in_ok-schedule.schedule c.filled.result (search rules) (search rules) (search rules) (search rules) (search rules)
