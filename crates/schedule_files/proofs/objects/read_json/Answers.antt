use Rattle.std.proofs.Common.{subst, IfNone}
use Rattle.schedule_files.specs.Places.{IsUntold}
use Rattle.schedule_files.specs.ScheduleJson.{IsJsonOf}
use Rattle.schedule_files.proofs.JsonLemmas.{json_told, json_none}
use Rattle.schedule_files.proofs.objects.read_json.Goals as goal

pub returns-in-None-clause-told : goal.returns-in-None-clause-told
returns-in-None-clause-told c =
    let text = c.args.text.now in
    let whole : IsUntold (IsJsonOf text) = subst (λ o. IfNone o (IsUntold (IsJsonOf text))) c.in-None.is c.in_ok-schedule.ensures.none in
    json_told text c.last_line.result.now c.read_whole-in-None.result whole c.read_whole-in-None.ensures.told c.last_line.ensures.line c.last_line.ensures.empty

pub returns-in-None-clause-none : goal.returns-in-None-clause-none
returns-in-None-clause-none c =
    let text = c.args.text.now in
    let whole : IsUntold (IsJsonOf text) = subst (λ o. IfNone o (IsUntold (IsJsonOf text))) c.in-None.is c.in_ok-schedule.ensures.none in
    json_none text c.last_line.result.now c.read_whole-in-None.result whole c.read_whole-in-None.ensures.none c.last_line.ensures.line
