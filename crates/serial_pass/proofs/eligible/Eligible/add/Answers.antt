use Rattle.std.proofs.Common.{get_or, arith, refl}
use Rattle.serial_pass.proofs.FinishLemmas.{lft_small, sums_add, sums_few}
use Rattle.serial_pass.proofs.eligible.Eligible.add.Goals as goal

pub overflow_add-self : goal.overflow_add-self
overflow_add-self c =
    let (p, are, sums, known) = c.requires.sums in
    omega (arith, (sums_few p c.args.self.now are.project sums).count)

pub overflow_add-self-2 : goal.overflow_add-self-2
overflow_add-self-2 c =
    let (p, are, sums, known) = c.requires.sums in
    omega (arith, (sums_few p c.args.self.now are.project sums).sum, are.each c.args.activity known, lft_small p c.args.activity are.project)

pub returns-clause-sums : goal.returns-clause-sums
returns-clause-sums c p are was known =
    sums_add p c.args.self.now _ c.args.activity (get_or c.args.lfts.now c.args.activity 0) are.project known c.requires.new c.put_in.ensures.own c.put_in.ensures.others (are.each c.args.activity known) refl refl (omega (arith, c.max-self.ensures)) was
