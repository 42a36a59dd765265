use Rattle.std.proofs.Common.{◌≡◌, ℕ, ◌<◌, ◌≤◌, get_or, length}
use Rattle.quanta_till.specs.Desk.{DeskValue, after_seat}
use Rattle.quanta_till.specs.Till.{TillValue}
use Rattle.farm_core.specs.Tills.{AreSeated}
use Rattle.farm_session.specs.TillDesk.{TillDeskValue, new_till_desk}
use Rattle.farm_session.proofs.tills.till_desks.Given as goal

-- the desks so far have one seat more, and those behind them are as they were
abbrev pub invariant-loop-i : goal.invariant-loop-i
invariant-loop-i l = record {
  seated : AreSeated l.tills l.desks;
  count : length l.till_desks.items ≡ l.i;
  new : (k : ℕ) (t : TillValue) (d : DeskValue) (b : TillDeskValue) → k < l.i → get_or l.till_desks.items k b ≡ new_till_desk (get_or l.tills k t) (get_or l.fn.desks k d);
  done : (k : ℕ) (d : DeskValue) → k < l.i → get_or l.desks k d ≡ after_seat (get_or l.fn.desks k d);
  rest : (k : ℕ) (d : DeskValue) → l.i ≤ k → get_or l.desks k d ≡ get_or l.fn.desks k d;
}
