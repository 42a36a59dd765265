use Rattle.std.proofs.Common.{◌≡◌, ◌<◌, ◌-◌, ℕ, set, true, get_or, length, length-set, arith, ap, ◌∙◌}
use Rattle.serial_sgs.specs.Waiting.{WaitingData}
use Rattle.serial_sgs.proofs.WaitingLemmas.{still, less_next}
use Rattle.serial_sgs.proofs.waiting.Waiting.mark.Goals as goal

pub note_less-requires-clause-some : goal.note_less-requires-clause-some
note_less-requires-clause-some c =
    let i : ℕ = c.loop-other.other-index in
    omega (arith, still c.args.after.now c.args.self.now.missing c.loop-other.self.missing _ i c.requires.others c.loop-other-test.true c.loop-other.invariant.less, c.requires.some i 0 c.loop-other-test.true)

pub loop-other-preserved : goal.loop-other-preserved
loop-other-preserved c =
    let after = c.args.after.now in
    let i : ℕ = c.loop-other.other-index in
    let less = c.loop-other.self.missing in
    let s : ℕ = get_or after i 0 in
    let same : get_or less s 0 ≡ get_or c.args.self.now.missing s 0 = still after c.args.self.now.missing less _ i c.requires.others c.loop-other-test.true c.loop-other.invariant.less in
    let long : length c.loop-other.self.flags ≡ length c.args.self.now.flags = ap length c.loop-other.invariant.flags ∙ length-set c.args.self.now.flags c.args.activity true in
    let written : c.note_less.new.self.missing ≡ set less s (get_or less s 0 - 1) = ap (λ (w : WaitingData). w.missing) c.note_less.ensures.exact in
    let flags : c.note_less.new.self.flags ≡ c.loop-other.self.flags = ap (λ (w : WaitingData). w.flags) c.note_less.ensures.exact in
    let known : s < length less = omega (arith, c.note_less.ensures.same, ap length written, length-set less s (get_or less s 0 - 1), ap length flags, long, c.requires.others.inside i 0 c.loop-other-test.true) in
    record {
      flags = flags ∙ c.loop-other.invariant.flags;
      less = rw written (less_next after c.args.self.now.missing less _ i _ c.requires.others c.loop-other-test.true c.loop-other.invariant.less known (omega (arith, same, c.requires.some i 0 c.loop-other-test.true)));
    }
