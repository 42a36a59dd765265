use Rattle.watched_io.specs.Failure.{HasFailed}
use Rattle.farm_replay.proofs.PlayLemmas.{end_stops, end_noted}
use Rattle.farm_replay.proofs.script.end.Goals as goal

pub returns-clause-fault : goal.returns-clause-fault
returns-clause-fault g c =
    rw c.ended.ensures (end_stops c.requests_come_in_turn.ensures (g.R.Read.remaining c.args.script.now) (g.R.Read.remaining c.read_request.new.reader) (HasFailed c.args.watch.now c.read_request.new.watch) c.read_request.result c.read_request.ensures.takes c.read_request.ensures.cause)

pub returns-clause-noted : goal.returns-clause-noted
returns-clause-noted g c = λ writes. rw c.ended.ensures (end_noted c.read_request.result c.args.watch.now c.read_request.new.watch writes c.read_request.ensures.kept)
