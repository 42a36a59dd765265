use Rattle.std.proofs.Common.{◌≡◌, ◌<◌, ◌+◌, ℕ, set, false, get_or, length, length-set, arith, ap, ◌∙◌}
use Rattle.serial_sgs.specs.Waiting.{WaitingData}
use Rattle.serial_sgs.proofs.WaitingLemmas.{more_next, still}
use Rattle.serial_sgs.proofs.waiting.Waiting.unmark.Goals as goal

pub loop-other-preserved : goal.loop-other-preserved
loop-other-preserved c =
    let after = c.args.after.now in
    let i : ℕ = c.loop-other.other-index in
    let more = c.loop-other.self.missing in
    let s : ℕ = get_or after i 0 in
    let long : length c.loop-other.self.flags ≡ length c.args.self.now.flags = ap length c.loop-other.invariant.flags ∙ length-set c.args.self.now.flags c.args.activity false in
    let written : c.note_more.new.self.missing ≡ set more s (get_or more s 0 + 1) = ap (λ (w : WaitingData). w.missing) c.note_more.ensures.exact in
    let flags : c.note_more.new.self.flags ≡ c.loop-other.self.flags = ap (λ (w : WaitingData). w.flags) c.note_more.ensures.exact in
    let known : s < length more = omega (arith, c.note_more.ensures.same, ap length written, length-set more s (get_or more s 0 + 1), ap length flags, long, c.requires.others.inside i 0 c.loop-other-test.true) in
    record {
      flags = flags ∙ c.loop-other.invariant.flags;
      less = rw written (more_next after more c.args.self.now.missing _ i _ c.requires.others c.loop-other-test.true c.loop-other.invariant.less known (omega arith));
    }

pub note_more-requires-clause-few : goal.note_more-requires-clause-few
note_more-requires-clause-few c =
    let i : ℕ = c.loop-other.other-index in
    omega (arith, still c.args.after.now c.loop-other.self.missing c.args.self.now.missing _ i c.requires.others c.loop-other-test.true c.loop-other.invariant.less, c.requires.few i 0 c.loop-other-test.true)
