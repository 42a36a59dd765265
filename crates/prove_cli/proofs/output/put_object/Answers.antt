use Rattle.std.proofs.Common.{[], ◌∷◌, ◌++◌, string_bytes, codes, ap, ◌∙◌}
use Rattle.std.specs.Option.{option_copied}
use Rattle.schedule_json.specs.ScheduleJson.{schedule_json}
use Rattle.prove_cli.specs.Proved.{verdict_json, cost_json}
use Rattle.prove_cli.proofs.ObjectLemmas.{whole-object}
use Rattle.prove_cli.proofs.output.put_object.Goals as goal

pub returns : goal.returns
returns c =
    let v = verdict_json c.args.word.now c.args.makespan c.args.bound in
    let s = codes ",\"schedule\":" in
    let j = schedule_json (option_copied c.args.best) in
    let k = cost_json c.args.cost in
    c.in_ok-push_str-2.ensures.bytes
    ∙ ap (λ l. l ++ 125 ∷ 10 ∷ [])
    (c.in_ok-put_cost.ensures ∙ ap (λ l. l ++ k) (c.in_ok-put_schedule_json.ensures ∙ ap (λ l. l ++ j) (c.in_ok-push_str.ensures.bytes ∙ ap (λ l. l ++ s) c.in_ok-put_verdict.ensures)))
    ∙ whole-object (string_bytes c.args.text.now) v s j k 125 10
