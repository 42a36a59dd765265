use Rattle.std.proofs.Common.{◌+◌, ◌*◌, ◌≤◌, arith}
use Rattle.std.proofs.Math.Nat.{mul-le-mul_left}
use Rattle.serial_pass.proofs.FinishLemmas.{all_weights, sums_few, weights_some}
use Rattle.serial_pass.proofs.eligible.Eligible.total.Goals as goal

pub overflow_add-result : goal.overflow_add-result
overflow_add-result c =
    let (p, lfts, are, sums) = c.requires in
    omega (arith, (sums_few p c.args.self.now are.project sums).greatest)

pub overflow_mul-result : goal.overflow_mul-result
overflow_mul-result c =
    let (p, lfts, are, sums) = c.requires in
    let e = c.args.self.now in
    let few = sums_few p e are.project sums in
    let most : e.count * (e.greatest + 1) ≤ e.count * 20001 = mul-le-mul_left e.count (omega (arith, few.greatest)) in
    omega (arith, most, few.count)

pub overflow_sub-result : goal.overflow_sub-result
overflow_sub-result c =
    let (p, lfts, are, sums) = c.requires in
    omega (arith, all_weights p c.args.self.now sums)

pub returns-clause-exact : goal.returns-clause-exact
returns-clause-exact c =
    let (p, lfts, are, sums) = c.requires in
    omega (arith, all_weights p c.args.self.now sums)

pub returns-clause-some : goal.returns-clause-some
returns-clause-some c some =
    let (p, lfts, are, sums) = c.requires in
    omega (arith, all_weights p c.args.self.now sums, weights_some p c.args.self.now sums, some)
