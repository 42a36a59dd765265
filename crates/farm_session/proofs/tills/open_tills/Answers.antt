use Rattle.std.proofs.Common.{arith, ap}
use Rattle.quanta_till.specs.Desk.{DeskValue}
use Rattle.farm_session.proofs.SeatLemmas.{seated_push}
use Rattle.farm_session.proofs.TillLemmas.{desks_on, opened_for, tills_on}
use Rattle.farm_session.proofs.tills.open_tills.Goals as goal

pub loop-purse-preserved : goal.loop-purse-preserved
loop-purse-preserved c = record {
  tills =
      tills_on c.args.config.now c.loop-purse.purse c.in_ok-till.till c.loop-purse.tills.items c.push.new.self.items
      (opened_for c.args.config.now c.loop-purse.purse c.granted.result c.in_ok-till.till c.in_ok-till.ensures.till c.granted.ensures) c.loop-purse.invariant.tills c.in_ok-push.ensures.items;
  count = omega (arith, c.in_ok-push.ensures.len);
  seated =
      rw (c.in_ok-push.ensures.items, c.in_ok-push-2.ensures.items)
      (seated_push c.loop-purse.tills.items c.loop-purse.desks.items c.in_ok-till.till c.in_ok-till.desk
      (ap (λ (d : DeskValue). d.id) c.in_ok-till.ensures.desk) c.loop-purse.invariant.seated);
  unused =
      desks_on c.loop-purse.purse c.granted.result c.loop-purse.tills.items c.push.new.self.items c.loop-purse.desks.items c.push-in-loop-purse.new.self.items
      c.in_ok-till.till c.in_ok-till.desk c.in_ok-till.ensures.till c.in_ok-till.ensures.desk c.loop-purse.invariant.unused
      c.in_ok-push.ensures.items c.in_ok-push-2.ensures.items;
}
