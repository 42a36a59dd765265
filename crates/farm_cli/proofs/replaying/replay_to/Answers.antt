use Rattle.farm_cli.proofs.replaying.replay_to.Goals as goal

pub returns : goal.returns
returns g c = record { ended = c.replay_text-ended.result; is = c.replay_text-ended.ensures; ends = c.end_replay.ensures }
