use Rattle.std.proofs.Common.{sym, subst}
use Rattle.farm_service.specs.Batch.{IsEmptyBatch}
use Rattle.farm_service.specs.Session.{stand}
use Rattle.farm_service.proofs.SessionLemmas.{session_begins, session_on, session_ends}
use Rattle.farm_service.proofs.connection.session.Goals as goal

pub loop-init : goal.loop-init
loop-init g c = record {
  own = c.requires.own;
  tills = c.requires.tills;
  empty = subst IsEmptyBatch (sym c.new-io.ensures.batch) c.requires.empty;
  served =
      session_begins c.args.service.now.shop.config.now (g.D.Shared.tells c.args.service.now.shared.now) (goal.M-post g c.args.service.now.shop.make.now)
      c.args.token.now c.args.till_desks.now (g.I.Read.remaining c.args.reader.now) (g.O.Write.contents c.args.writer.now)
      c.new-io.result.reads c.new-io.result.writes c.new-io.ensures.reads c.new-io.ensures.writes;
}

pub loop-preserved : goal.loop-preserved
loop-preserved g c = record {
  own = c.serve_next.ensures.own;
  tills = c.serve_next.ensures.tills;
  empty = c.serve_next.ensures.empty c.if-not-serve_next.false;
  served =
      session_on c.args.service.now.shop.config.now (g.D.Shared.tells c.args.service.now.shared.now) (goal.M-post g c.args.service.now.shop.make.now)
      (stand c.args.token.now c.args.till_desks.now (g.I.Read.remaining c.args.reader.now) (g.O.Write.contents c.args.writer.now) 0 0)
      (stand c.loop.token c.loop.till_desks (g.I.Read.remaining c.loop.reader) (g.O.Write.contents c.loop.writer) c.loop.io.reads c.loop.io.writes)
      (stand c.serve_next.new.token c.serve_next.new.till_desks (g.I.Read.remaining c.serve_next.new.reader) (g.O.Write.contents c.serve_next.new.writer) c.serve_next.new.io.reads c.serve_next.new.io.writes)
      c.serve_next.result c.if-not-serve_next.false c.loop.invariant.served c.serve_next.ensures.served;
}

pub returns-then-not-serve_next-clause-served : goal.returns-then-not-serve_next-clause-served
returns-then-not-serve_next-clause-served g c = (
  c.serve_next.new.io.reads,
  c.serve_next.new.io.writes,
  session_ends c.args.service.now.shop.config.now (g.D.Shared.tells c.args.service.now.shared.now) (goal.M-post g c.args.service.now.shop.make.now)
      (stand c.args.token.now c.args.till_desks.now (g.I.Read.remaining c.args.reader.now) (g.O.Write.contents c.args.writer.now) 0 0)
      (stand c.loop.token c.loop.till_desks (g.I.Read.remaining c.loop.reader) (g.O.Write.contents c.loop.writer) c.loop.io.reads c.loop.io.writes)
      (stand c.serve_next.new.token c.serve_next.new.till_desks (g.I.Read.remaining c.serve_next.new.reader) (g.O.Write.contents c.serve_next.new.writer) c.serve_next.new.io.reads c.serve_next.new.io.writes)
      c.serve_next.result c.if-not-serve_next.true c.loop.invariant.served c.serve_next.ensures.served,
)
