use Rattle.std.proofs.Common.{rules, List, map, subst, sym}
use Rattle.csv.specs.Records.{Row, fields_of}
use Rattle.schedule_files.specs.ScheduleTable.{AreRowsOf}
use Rattle.schedule_files.proofs.TableLemmas.{table_unread, table_none}
use Rattle.schedule_files.proofs.reading.read_table.Goals as goal

pub returns-in_default-clause-none : goal.returns-in_default-clause-none
returns-in_default-clause-none c =
    let text = c.args.text.now in
    let are = subst (λ (l : List Row). AreRowsOf text (map fields_of l)) (sym c.as_slice.ensures.value) c.in_ok-rows.ensures in
    table_unread text (map fields_of c.as_slice.result.now) are (search rules)

pub returns-clause-none : goal.returns-clause-none
returns-clause-none c =
    let text = c.args.text.now in
    let are = subst (λ (l : List Row). AreRowsOf text (map fields_of l)) (sym c.as_slice.ensures.value) c.in_ok-rows.ensures in
    table_none text (map fields_of c.as_slice.result.now) c.in-Some.places.items c.in_ok-schedule.schedule c.filled.result are (search rules) (search rules) (search rules) (search rules)
