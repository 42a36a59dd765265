use Rattle.farm_core.specs.Tills.{AreTillsOf}
use Rattle.farm_session.specs.TillDesk.{tills_of}
use Rattle.farm_service.specs.Batch.{IsEmptyBatch}
use Rattle.farm_service.specs.Session.{stand}
use Rattle.farm_service.proofs.SessionLemmas.{IsBegun}
use Rattle.farm_service.proofs.connection.session.Given as goal

abbrev pub invariant-loop : goal.invariant-loop
invariant-loop g l = record {
  own : g.D.Shared.owns l.service.shared.now l.token;
  tills : AreTillsOf l.service.shop.config.now (tills_of l.till_desks);
  empty : IsEmptyBatch l.io.batch;
  served : IsBegun l.service.shop.config.now (g.D.Shared.tells l.service.shared.now) (goal.M-post g l.service.shop.make.now)
      (stand l.fn.token l.fn.till_desks (g.I.Read.remaining l.fn.reader) (g.O.Write.contents l.fn.writer) 0 0)
      (stand l.token l.till_desks (g.I.Read.remaining l.reader) (g.O.Write.contents l.writer) l.io.reads l.io.writes);
}
