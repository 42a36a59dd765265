use Rattle.farm_cli.proofs.checking.check_to.Goals as goal

pub returns : goal.returns
returns g c = record { ended = c.check-ended.result; is = c.check-ended.ensures; ends = c.end_command.ensures }
