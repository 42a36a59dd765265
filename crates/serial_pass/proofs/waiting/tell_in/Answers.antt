use Rattle.std.proofs.Common.{ℕ, get_or, arith, ap, refl, ◌∙◌}
use Rattle.serial_pass.specs.declared.waiting.Wait.{Wait}
use Rattle.serial_pass.proofs.WaitLemmas.{telling_next, untold}
use Rattle.serial_pass.proofs.waiting.tell_in.Goals as goal

pub tell-requires-clause-some : goal.tell-requires-clause-some
tell-requires-clause-some c =
    let i : ℕ = c.loop-other.other-index in
    let before = untold c.args.after.now _ i c.args.finish c.args.point c.args.waiting.now c.loop-other.waiting c.args.eligible.now.set c.loop-other.eligible.set c.requires.others c.loop-other-test.true c.loop-other.invariant.telling in
    omega (arith, c.requires.some i 0 c.loop-other-test.true, ap (λ (w : Wait). w.missing) before.0)

pub tell-requires-clause-closed : goal.tell-requires-clause-closed
tell-requires-clause-closed c =
    let i : ℕ = c.loop-other.other-index in
    let before = untold c.args.after.now _ i c.args.finish c.args.point c.args.waiting.now c.loop-other.waiting c.args.eligible.now.set c.loop-other.eligible.set c.requires.others c.loop-other-test.true c.loop-other.invariant.telling in
    before.1 ∙ c.requires.closed i 0 c.loop-other-test.true

pub loop-other-preserved : goal.loop-other-preserved
loop-other-preserved c =
    let i : ℕ = c.loop-other.other-index in
    let x : ℕ = get_or c.args.after.now i 0 in
    record {
      telling = rw c.tell.ensures.told (telling_next c.args.after.now _ i c.args.finish c.args.point c.args.waiting.now c.loop-other.waiting c.args.eligible.now.set c.loop-other.eligible.set c.tell.new.eligible.set c.requires.others refl c.loop-other-test.true c.loop-other.invariant.telling c.tell.ensures.own c.tell.ensures.others);
      sums = λ p are was all. c.tell.ensures.sums p are (c.loop-other.invariant.sums p are was all) (omega (arith, c.requires.others.inside i 0 c.loop-other-test.true, all));
    }
