use Rattle.std.proofs.Common.{MatchOption, subst}
use Rattle.serial_sgs.specs.Board.{BoardData, IsNextEligible, NoneEligible}
use Rattle.serial_sgs.proofs.KeptLemmas.{next_is}
use Rattle.serial_sgs.proofs.board.Board.next_eligible.Goals as goal

pub returns : goal.returns
returns c =
    let b = c.self.inside in
    subst (λ (x : BoardData). MatchOption c.next_open.result (NoneEligible x.project x.placed c.args.from) (IsNextEligible x.project x.placed c.args.from)) c.self.view_is
    (next_is b.project b.placed.items _ b.waiting b.needed b.at_least b.points.items _ b.before.items b.after.items b.rows b.finishes.items b.readies.items c.args.from c.next_open.result c.self.invariant c.next_open.ensures)
