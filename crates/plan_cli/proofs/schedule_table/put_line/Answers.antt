use Rattle.std.proofs.Common.{◌++◌, string_bytes, refl, append_assoc}
use Rattle.plan_cli.specs.Table.{numbers, rest}
use Rattle.plan_cli.proofs.schedule_table.put_line.Goals as goal

pub returns : goal.returns
returns c =
    let p = c.args.fitting.now.project.now in
    let front = numbers c.args.layout p c.args.fitting.now.schedule.now c.args.activity c.slack_of-slack.result in
    let back = rest c.args.layout p c.args.activity c.args.more.now in (
      front ++ back,
      record { slack = c.slack_of-slack.result; is = c.slack_of-slack.ensures; text = refl },
      rw (c.in_ok-put_rest.ensures, c.in_ok-put_numbers.ensures) (append_assoc (string_bytes c.args.text.now) front back),
    )
