use Rattle.std.proofs.Common.{◌≡◌, length, map}
use Rattle.std.specs.List.{range_with_len}
use Rattle.farm_core.specs.Tills.{opening_of, opening_for, AreSeated}
use Rattle.farm_session.specs.TillDesk.{first_desk}
use Rattle.farm_session.proofs.tills.open_tills.Given as goal

-- one for each purse so far
abbrev pub invariant-loop-purse : goal.invariant-loop-purse
invariant-loop-purse l = record {
  tills : map opening_of l.tills.items ≡ map (opening_for l.config) (range_with_len 0 l.purse);
  count : length l.tills.items ≡ l.purse;
  seated : AreSeated l.tills.items l.desks.items;
  unused : l.desks.items ≡ map first_desk l.tills.items;
}
